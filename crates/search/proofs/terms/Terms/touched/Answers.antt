use Rattle.std.proofs.Common.{◌≡◌, ℕ, Bool, ◌||◌, length, sym, ap, ◌∙◌, ap₂}
use Rattle.std.proofs.Math.Bool.{or_comm}
use Rattle.model.proofs.Bits.{has_or, has_none}
use Rattle.model.specs.Sets.{has}
use Rattle.search.proofs.Flags.{back_start, back_next}
use Rattle.search.proofs.Steps.{shares_end, shares_off, shares_past, shares_on}
use Rattle.search.specs.Force.{shares}
use Rattle.search.proofs.terms.Terms.touched.Goals as goal

pub loop-number-init : goal.loop-number-init
loop-number-init g c =
    let m = g.B.Book.meaning c.args.self.now.book.now in
    let lines = c.args.self.now.lines.now in
    let force = c.args.force.now in
    let s = c.into_iter-number-iterator.ensures.into_iter_gives in
    let r = c.rev-number-items.ensures.source in
    let is : c.into_iter-number-iterator.result.iter.iter.rest.now ≡ force = ap (λ i. i.iter.iter.rest.now) s ∙ ap (λ i. i.iter.rest.now) r ∙ ap (λ i. i.rest.now) c.enumerate.ensures.source ∙ c.iter.ensures.rest in (
      back_start force _ _ is (ap (λ i. i.iter.count) s ∙ ap (λ i. i.count) r ∙ c.enumerate.ensures.count),
      λ i. has_none i ∙ sym (shares_end m lines force c.args.bay i) ∙ ap (λ (n : ℕ). shares m lines force c.args.bay n i) (sym (ap length is ∙ c.told-force)),
    )

pub loop-number-preserved-then-has : goal.loop-number-preserved-then-has
loop-number-preserved-then-has g c =
    let m = g.B.Book.meaning c.args.self.now.book.now in
    let lines = c.args.self.now.lines.now in
    let force = c.args.force.now in
    let e = c.in-Some.ensures.steps in
    let n = back_next force c.loop-number.number-iterator.iter.iter.rest.now c.next.new.self.iter.iter.rest.now c.in-Some.number c.in-Some.on.now _ _ c.loop-number.invariant.0 e.0 e.1.0 e.1.1 in (
      n.back,
      λ i. let share = λ (k : ℕ). shares m lines force c.args.bay k i in
          has_or c.loop-number.bays c.scope-scope.result i
          ∙ or_comm (has c.loop-number.bays i) (has c.scope-scope.result i)
          ∙ ap₂ (λ (x y : Bool). x || y) (ap (λ (s : ℕ). has s i) c.scope-scope.ensures) (c.loop-number.invariant.1 i ∙ ap share n.one)
          ∙ shares_on m lines force c.args.bay i c.in-Some.number (n.below c.told-force) (n.on_is ∙ c.if-on.true) (ap (λ (s : ℕ). has s c.args.bay) (sym c.scope-scope.ensures) ∙ sym c.if-has.ensures)
          ∙ ap share (sym n.number_is),
    )

pub loop-number-preserved-else-has : goal.loop-number-preserved-else-has
loop-number-preserved-else-has g c =
    let m = g.B.Book.meaning c.args.self.now.book.now in
    let lines = c.args.self.now.lines.now in
    let force = c.args.force.now in
    let e = c.in-Some.ensures.steps in
    let n = back_next force c.loop-number.number-iterator.iter.iter.rest.now c.next.new.self.iter.iter.rest.now c.in-Some.number c.in-Some.on.now _ _ c.loop-number.invariant.0 e.0 e.1.0 e.1.1 in (
      n.back,
      λ i. let share = λ (k : ℕ). shares m lines force c.args.bay k i in
          c.loop-number.invariant.1 i ∙ ap share n.one
          ∙ shares_past m lines force c.args.bay i c.in-Some.number (n.below c.told-force) (n.on_is ∙ c.if-on.true) (ap (λ (s : ℕ). has s c.args.bay) (sym c.scope-scope.ensures) ∙ sym c.if-has.ensures)
          ∙ ap share (sym n.number_is),
    )

pub loop-number-preserved : goal.loop-number-preserved
loop-number-preserved g c =
    let m = g.B.Book.meaning c.args.self.now.book.now in
    let lines = c.args.self.now.lines.now in
    let force = c.args.force.now in
    let e = c.in-Some.ensures.steps in
    let n = back_next force c.loop-number.number-iterator.iter.iter.rest.now c.next.new.self.iter.iter.rest.now c.in-Some.number c.in-Some.on.now _ _ c.loop-number.invariant.0 e.0 e.1.0 e.1.1 in (
      n.back,
      λ i. let share = λ (k : ℕ). shares m lines force c.args.bay k i in
          c.loop-number.invariant.1 i ∙ ap share n.one
          ∙ shares_off m lines force c.args.bay i c.in-Some.number (n.below c.told-force) (n.on_is ∙ c.if-on.false)
          ∙ ap share (sym n.number_is),
    )
