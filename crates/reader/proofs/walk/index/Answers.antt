use Rattle.std.proofs.Common.{ℕ, ◌^◌, ◌<◌, get_or, drop, arith}
use Rattle.std.proofs.lemmas.Result.{MatchResult-weaker}
use Rattle.format.proofs.Accepted.{accepts}
use Rattle.format.proofs.Refused.{refuses}
use Rattle.reader.specs.Indexed.{layout_by}
use Rattle.reader.proofs.walk.index.Goals as goal

pub returns : goal.returns
returns g c =
    let bs = c.args.bytes.now in
    let mark = g.P.Stored.letters in
    let top = g.P.Stored.top in
    let small : top < 256 ^ 4 = g.met.P.Stored.four in
    let all : (i : ℕ) → get_or bs i 0 < 256 = λ i. omega (arith, c.type_inv.bytes i) in
    record {
      finds = c.found.ensures;
      means = MatchResult-weaker c.found.result c.found.ensures
          (λ i h. (accepts mark top g.met.P.Stored.three small bs all (layout_by (drop 5 bs) i)).0 h.reads)
          (λ e h. (refuses mark top bs all e).0 h);
    }
