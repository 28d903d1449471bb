use Rattle.std.proofs.Common.{length, sym, refl, ap, ◌∙◌, arith}
use Rattle.std.proofs.lemmas.Bool.{ne_eqb, eq-eqb}
use Rattle.pickers.specs.Gathered.{mask_in}
use Rattle.pickers.specs.Perms.{permutes_is}
use Rattle.pickers.proofs.order.Order.new.Goals as goal

pub invariant_of-result : goal.invariant_of-result
invariant_of-result c = let w = c.in-Ok.ensures.1 in record { each = permutes_is c.in-Ok.bays (ap length w.same ∙ w.long) ∙ eq-eqb _ _ (sym c.gathered.ensures ∙ c.if-gathered-first.true ∙ c.first.ensures.few (omega arith)) }

pub returns-else-gathered-first : goal.returns-else-gathered-first
returns-else-gathered-first c =
    let w = c.in-Ok.ensures.1 in
    (permutes_is c.args.list.now w.long ∙ ne_eqb _ _ (λ e. c.if-gathered-first.false (c.gathered.ensures ∙ ap mask_in w.same ∙ e ∙ sym (c.first.ensures.few (omega arith)))), refl)
