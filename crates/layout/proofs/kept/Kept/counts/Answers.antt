use Rattle.std.proofs.Common.{◌≡◌, ℕ, ◌+◌, ◌-◌, ◌≤◌, List, length, take, drop, sym, ap, ◌∙◌, arith, rules}
use Rattle.reader.specs.Indexed.{items}
use Rattle.layout.specs.Kept.{held}
use Rattle.layout.specs.Places.{bays_is, counts_in, counts_same}
use Rattle.layout.proofs.kept.Kept.counts.Goals as goal

pub slice_bounds-result-end : goal.slice_bounds-result-end
slice_bounds-result-end c =
    let x = c.args.self.now in
    let h : 2 + c.bays.result ≤ length c.body.result.now = omega (arith, c.bays.ensures, bays_is (held x) x.index, counts_in (held x) x.index x.found, ap (λ (l : List ℕ). length l) c.body.ensures) in
    search rules

pub returns : goal.returns
returns c =
    let x = c.args.self.now in
    let k : 2 + c.bays.result - 2 ≡ length (items x.index.own_at) = omega (arith, c.bays.ensures, bays_is (held x) x.index) in
    (λ i. take (k i) (drop 2 (c.body.ensures i))) ∙ sym (counts_same (held x) x.index x.found)
