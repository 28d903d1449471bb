use Rattle.std.proofs.Common.{◌≡◌, ℕ, ◌<◌, ◌-◌, List, length, get_or, sym, ap, ◌∙◌, subst, arith}
use Rattle.reader.specs.Indexed.{items}
use Rattle.layout.specs.Meant.{place_of}
use Rattle.std.proofs.Math.Nat.{one-le-pow}
use Rattle.layout.specs.Kept.{held}
use Rattle.layout.specs.Places.{few_scope, scope_within, counts_long, plan_long, cell_read, cell_none}
use Rattle.layout.proofs.kept.Kept.cell.Goals as goal

pub returns-in_err-scope : goal.returns-in_err-scope
returns-in_err-scope c = c.from_residual.ensures ∙ cell_none (held c.args.self.now) c.args.self.now.index c.args.rule c.args.plan.now c.in_err-scope.ensures

pub place-requires : goal.place-requires
place-requires c =
    let x = c.args.self.now in
    let at = c.in_ok-scope.ensures in
    let scope = c.in_ok-scope.scope.now in
    let long : length c.counts.result.now ≡ length (items x.index.own_at) = ap (λ (l : List ℕ). length l) c.counts.ensures ∙ counts_long (held x) x.index in
    record {
      few = omega (arith, few_scope (held x) x.index x.found c.args.rule at.there, ap (λ (l : List ℕ). length l) at.scope);
      small = omega (arith, one-le-pow (4 - length scope) 256 (omega arith));
      within = subst (λ (l : List ℕ). (i : ℕ) → i < length l → get_or l i 0 < length c.counts.result.now) (sym at.scope) (λ i h. omega (arith, scope_within (held x) x.index x.found c.args.rule at.there i h, long));
      whole = omega (arith, long, plan_long (held x) x.index x.found c.args.plan.now c.requires);
    }

pub nth_price-requires : goal.nth_price-requires
nth_price-requires c =
    let x = c.args.self.now in
    let at = c.in_ok-scope.ensures in
    (cell_read (held x) x.index x.found c.args.rule c.args.plan.now c.in_ok-scope.scope.now c.in_ok-scope.table.now c.place.result 0 at.there c.requires at.scope at.table (c.place.ensures ∙ ap (λ (l : List ℕ). place_of l c.args.plan.now 0 c.in_ok-scope.scope.now) c.counts.ensures)).0

pub returns : goal.returns
returns c =
    let x = c.args.self.now in
    let at = c.in_ok-scope.ensures in
    (cell_read (held x) x.index x.found c.args.rule c.args.plan.now c.in_ok-scope.scope.now c.in_ok-scope.table.now c.place.result c.nth_price.result at.there c.requires at.scope at.table (c.place.ensures ∙ ap (λ (l : List ℕ). place_of l c.args.plan.now 0 c.in_ok-scope.scope.now) c.counts.ensures)).1 c.nth_price.ensures
