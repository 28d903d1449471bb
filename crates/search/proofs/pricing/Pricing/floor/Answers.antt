use Rattle.std.proofs.Common.{◌≡◌, ℕ, length, sym, ap, ◌∙◌, ap₂}
use Rattle.search.proofs.Flags.{back_start, back_next}
use Rattle.search.proofs.Steps.{floor_end, floor_off, floor_on}
use Rattle.search.specs.Force.{floor_from}
use Rattle.search.specs.Places.{byte_of}
use Rattle.search.proofs.pricing.Pricing.floor.Goals as goal

pub loop-number-init : goal.loop-number-init
loop-number-init g c =
    let x = c.args.self.now.terms.now in
    let force = c.args.force.now in
    let s = c.into_iter-number-iterator.ensures.into_iter_gives in
    let r = c.rev-number-items.ensures.source in
    let is : c.into_iter-number-iterator.result.iter.iter.rest.now ≡ force = ap (λ i. i.iter.iter.rest.now) s ∙ ap (λ i. i.iter.rest.now) r ∙ ap (λ i. i.rest.now) c.enumerate.ensures.source ∙ c.iter.ensures.rest in
    let floor = λ (n : ℕ). floor_from g.B.Cost.Price.ops (g.B.Book.meaning x.book.now) x.choices.now x.lines.now x.cells.now force c.args.left (byte_of c.args.self.now.plan) n in (
      back_start force _ _ is (ap (λ i. i.iter.count) s ∙ ap (λ i. i.count) r ∙ c.enumerate.ensures.count),
      c.free-total.ensures ∙ sym (floor_end g.B.Cost.Price.ops (g.B.Book.meaning x.book.now) x.choices.now x.lines.now x.cells.now force c.args.left _) ∙ ap floor (sym (ap length is ∙ c.told-force)),
    )

pub loop-number-preserved-then-on : goal.loop-number-preserved-then-on
loop-number-preserved-then-on g c =
    let K = g.B.Cost.Price.ops in
    let x = c.args.self.now.terms.now in
    let m = g.B.Book.meaning x.book.now in
    let force = c.args.force.now in
    let e = c.in-Some.ensures.steps in
    let n = back_next force c.loop-number.number-iterator.iter.iter.rest.now c.next.new.self.iter.iter.rest.now c.in-Some.number c.in-Some.on.now _ _ c.loop-number.invariant.0 e.0 e.1.0 e.1.1 in
    let floor = floor_from K m x.choices.now x.lines.now x.cells.now force c.args.left (byte_of c.args.self.now.plan) in (
      n.back,
      c.combine-total.ensures ∙ ap₂ K.combine c.lowest.ensures (c.loop-number.invariant.1 ∙ ap floor n.one)
          ∙ floor_on K m x.choices.now x.lines.now x.cells.now force c.in-Some.number (n.below c.told-force) c.args.left _ (n.on_is ∙ c.if-on.true)
          ∙ ap floor (sym n.number_is),
    )

pub loop-number-preserved : goal.loop-number-preserved
loop-number-preserved g c =
    let K = g.B.Cost.Price.ops in
    let x = c.args.self.now.terms.now in
    let m = g.B.Book.meaning x.book.now in
    let force = c.args.force.now in
    let e = c.in-Some.ensures.steps in
    let n = back_next force c.loop-number.number-iterator.iter.iter.rest.now c.next.new.self.iter.iter.rest.now c.in-Some.number c.in-Some.on.now _ _ c.loop-number.invariant.0 e.0 e.1.0 e.1.1 in
    let floor = floor_from K m x.choices.now x.lines.now x.cells.now force c.args.left (byte_of c.args.self.now.plan) in (
      n.back,
      c.loop-number.invariant.1 ∙ ap floor n.one
          ∙ floor_off K m x.choices.now x.lines.now x.cells.now force c.in-Some.number (n.below c.told-force) c.args.left _ (n.on_is ∙ c.if-on.false)
          ∙ ap floor (sym n.number_is),
    )
