use Rattle.std.proofs.Common.{ℕ, ◌<◌, List, length, get_or, sym, subst, arith}
use Rattle.layout.specs.Kept.{held}
use Rattle.layout.specs.Places.{few_bays, scope_within, mask_past}
use Rattle.layout.proofs.kept.Kept.scope.Goals as goal

pub mask-requires : goal.mask-requires
mask-requires c =
    let x = c.args.self.now in
    let at = c.in-Some.ensures in
    subst (λ (l : List ℕ). (i : ℕ) → i < length l → get_or l i 0 < 24) (sym at.scope)
    (λ i h. omega (arith, scope_within (held x) x.index x.found c.args.rule at.there i h, few_bays (held x) x.index x.found))

pub returns-in_default : goal.returns-in_default
returns-in_default c = mask_past (held c.args.self.now) c.args.self.now.index c.args.rule c.in_default.ensures
