use Rattle.std.proofs.Common.{◌≡◌, ℕ, ◌≤◌, length, sym, ap, ◌∙◌, subst, MatchResult}
use Rattle.std.proofs.lemmas.Result.{MatchResult-weaker, err_from_is_err_and}
use Rattle.format.specs.Pieces.{got, bad}
use Rattle.format.specs.House.{ended}
use Rattle.format.specs.Steps.{body_in, head_in}
use Rattle.format.proofs.Refused.{book_long}
use Rattle.reader.specs.Indexed.{Walked}
use Rattle.reader.proofs.Walked.{head_bad, book_indexes, book_refused}
use Rattle.reader.proofs.walk.found.Goals as goal

pub returns-in_err-short_enough : goal.returns-in_err-short_enough
returns-in_err-short_enough g c =
    let p = err_from_is_err_and c.from_residual.result c.from_residual.ensures.1 in
    let long = c.in_err-short_enough.ensures in
    rw (p.1, p.2) (book_long g.P.Stored.letters g.P.Stored.top c.args.bytes.now long.0 ∙ ap bad (sym long.1))

pub returns-in_err-body : goal.returns-in_err-body
returns-in_err-body g c =
    let p = err_from_is_err_and c.from_residual-in_err-body.result c.from_residual-in_err-body.ensures.1 in
    rw (p.1, p.2) (head_bad g.P.Stored.letters g.P.Stored.top c.args.bytes.now _ c.in_ok-short_enough.ensures (ap (λ (m : ℕ). head_in m c.args.bytes.now) (sym c.mark.ensures) ∙ c.in_err-body.ensures))

pub returns : goal.returns
returns g c =
    let bs = c.args.bytes.now in
    let rest = c.in_ok-body.body.now in
    let mark = g.P.Stored.letters in
    let top = g.P.Stored.top in
    let short : length bs ≤ 65536 = c.in_ok-short_enough.ensures in
    let head : head_in mark bs ≡ got 1 rest = ap (λ (m : ℕ). head_in m bs) (sym c.mark.ensures) ∙ c.in_ok-body.ensures in
    let walked : MatchResult c.walk.result (λ i. Walked top rest i) (λ e. ended (body_in top rest) ≡ bad e) =
    subst (λ (t : ℕ). MatchResult c.walk.result (λ i. Walked t rest i) (λ e. ended (body_in t rest) ≡ bad e)) c.limit.ensures c.walk.ensures in
    MatchResult-weaker c.walk.result walked
    (λ i w. book_indexes mark top bs 1 rest i short head w)
    (λ e w. book_refused mark top bs 1 rest e short head w)
