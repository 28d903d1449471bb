use Rattle.std.proofs.Common.{◌≡◌, ℕ, ◌<◌, ◌≤◌, List, length, get_or, drop, sym, ap, ◌∙◌, subst, refl, arith}
use Rattle.reader.specs.Indexed.{items}
use Rattle.layout.specs.Kept.{held}
use Rattle.layout.specs.Places.{rule_starts, rule_cut}
use Rattle.layout.proofs.kept.Kept.rule.Goals as goal

pub from_place-requires : goal.from_place-requires
from_place-requires c =
    let x = c.args.self.now in
    subst (λ (l : List ℕ). (i : ℕ) → i < length c.as_slice.result.now → get_or c.as_slice.result.now i 0 ≤ length l) (sym c.body.ensures)
    (subst (λ (l : List ℕ). (i : ℕ) → i < length l → get_or l i 0 ≤ length (held x)) (sym c.as_slice.ensures) (rule_starts (held x) x.index x.found))

pub returns : goal.returns
returns c =
    let x = c.args.self.now in
    let places = c.as_slice.ensures in
    let there : c.args.rule < length (items x.index.rule_at) = omega (arith, c.in_ok-rest.ensures.0, ap (λ (l : List ℕ). length l) places) in
    let is : c.in_ok-rest.rest.now ≡ drop (get_or (items x.index.rule_at) c.args.rule 0) (held x) = c.in_ok-rest.ensures.1 ∙ (λ i. drop (get_or (places i) c.args.rule 0) (c.body.ensures i)) in
    let cut = rule_cut (held x) x.index x.found c.args.rule c.from.result c.in_ok-rest.rest.now _ there is refl c.from.ensures in
    record { there = there; scope = c.split_at.ensures.front ∙ cut.0; table = c.split_at.ensures.back ∙ cut.1 }
