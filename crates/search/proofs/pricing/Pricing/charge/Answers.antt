use Rattle.std.proofs.Common.{◌≡◌, ℕ, length, sym, ap, ◌∙◌, ap₂}
use Rattle.model.specs.Sets.{has}
use Rattle.search.proofs.Flags.{back_start, back_next}
use Rattle.search.proofs.Steps.{charge_end, charge_off, charge_past, charge_on}
use Rattle.search.specs.Force.{charge_from}
use Rattle.search.specs.Places.{byte_of}
use Rattle.search.proofs.pricing.Pricing.charge.Goals.{else-on-via-then-on+else-has, else-on-via-else-on}
use Rattle.search.proofs.pricing.Pricing.charge.Goals as goal

pub loop-number-init : goal.loop-number-init
loop-number-init g c =
    let x = c.args.self.now.terms.now in
    let force = c.args.force.now in
    let s = c.into_iter-number-iterator.ensures.into_iter_gives in
    let r = c.rev-number-items.ensures.source in
    let is : c.into_iter-number-iterator.result.iter.iter.rest.now ≡ force = ap (λ i. i.iter.iter.rest.now) s ∙ ap (λ i. i.iter.rest.now) r ∙ ap (λ i. i.rest.now) c.enumerate.ensures.source ∙ c.iter.ensures.rest in
    let charge = charge_from g.B.Cost.Price.ops (g.B.Book.meaning x.book.now) x.choices.now x.lines.now x.cells.now force c.args.bay (byte_of c.args.self.now.plan) in (
      back_start force _ _ is (ap (λ i. i.iter.count) s ∙ ap (λ i. i.count) r ∙ c.enumerate.ensures.count),
      c.free-total.ensures ∙ sym (charge_end g.B.Cost.Price.ops (g.B.Book.meaning x.book.now) x.choices.now x.lines.now x.cells.now force c.args.bay _) ∙ ap charge (sym (ap length is ∙ c.told-force)),
    )

pub loop-number-preserved-then-has : goal.loop-number-preserved-then-has
loop-number-preserved-then-has g c =
    let K = g.B.Cost.Price.ops in
    let x = c.args.self.now.terms.now in
    let m = g.B.Book.meaning x.book.now in
    let force = c.args.force.now in
    let e = c.in-Some.ensures.steps in
    let n = back_next force c.loop-number.number-iterator.iter.iter.rest.now c.next.new.self.iter.iter.rest.now c.in-Some.number c.in-Some.on.now _ _ c.loop-number.invariant.0 e.0 e.1.0 e.1.1 in
    let charge = charge_from K m x.choices.now x.lines.now x.cells.now force c.args.bay (byte_of c.args.self.now.plan) in (
      n.back,
      c.combine-total.ensures ∙ ap₂ K.combine c.value.ensures (c.loop-number.invariant.1 ∙ ap charge n.one)
          ∙ charge_on K m x.choices.now x.lines.now x.cells.now force c.in-Some.number (n.below c.told-force) c.args.bay _ (n.on_is ∙ c.if-on.true) (ap (λ (s : ℕ). has s c.args.bay) (sym c.scope.ensures) ∙ sym c.if-has.ensures)
          ∙ ap charge (sym n.number_is),
    )

pub loop-number-preserved : goal.loop-number-preserved
loop-number-preserved g c =
    let K = g.B.Cost.Price.ops in
    let x = c.args.self.now.terms.now in
    let m = g.B.Book.meaning x.book.now in
    let force = c.args.force.now in
    let e = c.in-Some.ensures.steps in
    let n = back_next force c.loop-number.number-iterator.iter.iter.rest.now c.next.new.self.iter.iter.rest.now c.in-Some.number c.in-Some.on.now _ _ c.loop-number.invariant.0 e.0 e.1.0 e.1.1 in
    let charge = charge_from K m x.choices.now x.lines.now x.cells.now force c.args.bay (byte_of c.args.self.now.plan) in (
      n.back,
      c.loop-number.invariant.1 ∙ ap charge n.one
          ∙ elim c.else-on.branch [
            | else-on-via-then-on+else-has w ↦ charge_past K m x.choices.now x.lines.now x.cells.now force c.in-Some.number (n.below c.told-force) c.args.bay _ (n.on_is ∙ w.if-on.true) (ap (λ (s : ℕ). has s c.args.bay) (sym w.scope.ensures) ∙ sym w.if-has.ensures)
            | else-on-via-else-on w ↦ charge_off K m x.choices.now x.lines.now x.cells.now force c.in-Some.number (n.below c.told-force) c.args.bay _ (n.on_is ∙ w.if-on.false)
          ]
          ∙ ap charge (sym n.number_is),
    )
