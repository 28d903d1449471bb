use Rattle.std.proofs.Common.{◌≡◌, refl, ap, ap₂, ◌∙◌, sym, arith}
use Rattle.model.specs.Terms.{Plan}
use Rattle.search.proofs.Steps.{least_kept, least_taken, least_at_kept, least_at_taken}
use Rattle.search.specs.Force.{trial, charge_from}
use Rattle.search.specs.Places.{byte_of}
use Rattle.search.proofs.pricing.Pricing.settle.Goals.{then-not-at_most, else-not-at_most}
use Rattle.search.proofs.pricing.Pricing.settle.Goals as goal

pub loop-choice-init : goal.loop-choice-init
loop-choice-init g c = (
  c.charge.ensures
      ∙ ap₂ (λ t (π : Plan). charge_from g.B.Cost.Price.ops (g.B.Book.meaning t.book.now) t.choices.now t.lines.now t.cells.now c.args.force.now c.args.bay π 0) c.with_choice.ensures.terms c.with_choice.ensures.plan,
  refl,
)

pub loop-choice-preserved : goal.loop-choice-preserved
loop-choice-preserved g c =
    let K = g.B.Cost.Price.ops in
    let x = c.args.self.now.terms.now in
    let m = g.B.Book.meaning x.book.now in
    let f = trial K m x.choices.now x.lines.now x.cells.now c.args.force.now c.args.bay (byte_of c.args.self.now.plan) in
    let price : c.charge-price.result ≡ f c.loop-choice.choice =
    c.charge-price.ensures
    ∙ ap₂ (λ t (π : Plan). charge_from K (g.B.Book.meaning t.book.now) t.choices.now t.lines.now t.cells.now c.args.force.now c.args.bay π 0) c.with_choice-in-loop-choice.ensures.terms c.with_choice-in-loop-choice.ensures.plan in
    elim c.if-not-at_most.branch [
      | then-not-at_most w ↦ (
        ap (λ s. s.0) w.best-is ∙ least_taken K c.loop-choice.choice f c.loop-choice.best.0 c.charge-price.result (omega arith) c.loop-choice.invariant.0 price (sym c.at_most.ensures ∙ w.if-not-at_most.true),
        ap (λ s. s.1.0) w.best-is ∙ least_at_taken K c.loop-choice.choice f c.loop-choice.best.0 c.charge-price.result (omega arith) c.loop-choice.invariant.0 price (sym c.at_most.ensures ∙ w.if-not-at_most.true),
      )
      | else-not-at_most w ↦ (
        ap (λ s. s.0) w.best-is ∙ least_kept K c.loop-choice.choice f c.loop-choice.best.0 c.charge-price.result (omega arith) c.loop-choice.invariant.0 price (sym c.at_most.ensures ∙ w.if-not-at_most.false),
        ap (λ s. s.1.0) w.best-is ∙ c.loop-choice.invariant.1 ∙ least_at_kept K c.loop-choice.choice f c.loop-choice.best.0 c.charge-price.result (omega arith) c.loop-choice.invariant.0 price (sym c.at_most.ensures ∙ w.if-not-at_most.false),
      )
    ]
