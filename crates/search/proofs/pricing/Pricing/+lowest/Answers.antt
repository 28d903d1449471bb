use Rattle.std.proofs.Common.{◌≡◌, ℕ, ◌+◌, ◌<◌, get_or, sym, ap, ap₂, ◌∙◌, arith}
use Rattle.model.specs.Sets.{has}
use Rattle.model.specs.Terms.{Plan, put}
use Rattle.search.proofs.Steps.{least_kept, least_taken, least_price_end, least_price_skip, least_price_pass, least_price_over}
use Rattle.search.specs.Force.{term, lowest_from, lowest_over_from}
use Rattle.search.specs.Places.{byte_of}
use Rattle.search.proofs.pricing.Pricing.+lowest.Goals.{then-not-has-via-then-not-has, then-not-has-via-else-not-has+then-not-has-2, then-not-at_most, else-not-at_most}
use Rattle.search.proofs.pricing.Pricing.+lowest.Goals as goal

pub returns-then-bay-ge24 : goal.returns-then-bay-ge24
returns-then-bay-ge24 g t c =
    let K = g.B.Cost.Price.ops in
    let x = c.args.self.now.terms.now in
    let u = term K (g.B.Book.meaning x.book.now) x.choices.now x.lines.now x.cells.now c.args.number in
    c.value.ensures ∙ sym (least_price_end K (byte_of x.choices.now) u c.args.left c.args.bay (byte_of c.args.self.now.plan) (omega arith))

pub returns-then-not-has : goal.returns-then-not-has
returns-then-not-has g t c =
    let K = g.B.Cost.Price.ops in
    let x = c.args.self.now.terms.now in
    let u = term K (g.B.Book.meaning x.book.now) x.choices.now x.lines.now x.cells.now c.args.number in
    c.lowest.ensures ∙ elim c.then-not-has.branch [
      | then-not-has-via-else-not-has+then-not-has-2 w ↦ sym (least_price_pass K (byte_of x.choices.now) u c.args.left c.args.bay (byte_of c.args.self.now.plan) (omega arith) (sym c.has.ensures ∙ w.if-not-has.false) (ap (λ (s : ℕ). has s c.args.bay) (sym w.scope.ensures) ∙ sym w.has-else-not-has.ensures ∙ w.if-not-has-2.true))
      | then-not-has-via-then-not-has w ↦ sym (least_price_skip K (byte_of x.choices.now) u c.args.left c.args.bay (byte_of c.args.self.now.plan) (omega arith) (sym c.has.ensures ∙ w.if-not-has.true))
    ]

pub loop-choice-init : goal.loop-choice-init
loop-choice-init g t c =
    let h = lowest_from g.B.Cost.Price.ops in
    c.lowest-best.ensures ∙ ap₂ (λ t (π : Plan). h (g.B.Book.meaning t.book.now) t.choices.now t.lines.now t.cells.now c.args.number c.args.left (c.args.bay + 1) π) c.with_choice.ensures.terms c.with_choice.ensures.plan

pub loop-choice-preserved : goal.loop-choice-preserved
loop-choice-preserved g t c =
    let K = g.B.Cost.Price.ops in
    let x = c.args.self.now.terms.now in
    let f = λ (n : ℕ). lowest_from K (g.B.Book.meaning x.book.now) x.choices.now x.lines.now x.cells.now c.args.number c.args.left (c.args.bay + 1) (put c.args.bay n (byte_of c.args.self.now.plan)) in
    let price : c.lowest-price.result ≡ f c.loop-choice.choice =
    c.lowest-price.ensures
    ∙ ap₂ (λ t (π : Plan). lowest_from K (g.B.Book.meaning t.book.now) t.choices.now t.lines.now t.cells.now c.args.number c.args.left (c.args.bay + 1) π) c.with_choice-in-loop-choice.ensures.terms c.with_choice-in-loop-choice.ensures.plan in
    elim c.if-not-at_most.branch [
      | then-not-at_most w ↦ w.best-is ∙ least_taken K c.loop-choice.choice f c.loop-choice.best c.lowest-price.result (omega arith) c.loop-choice.invariant price (sym c.at_most.ensures ∙ w.if-not-at_most.true)
      | else-not-at_most w ↦ w.best-is ∙ least_kept K c.loop-choice.choice f c.loop-choice.best c.lowest-price.result (omega arith) c.loop-choice.invariant price (sym c.at_most.ensures ∙ w.if-not-at_most.false)
    ]

pub returns : goal.returns
returns g t c =
    let K = g.B.Cost.Price.ops in
    let x = c.args.self.now.terms.now in
    let m = g.B.Book.meaning x.book.now in
    let u = term K m x.choices.now x.lines.now x.cells.now c.args.number in
    let some : 0 < get_or x.choices.now c.args.bay 0 = c.requires.opened c.args.bay (sym c.has.ensures ∙ c.if-not-has.false) in
    let all : c.loop-choice.choice ≡ get_or x.choices.now c.args.bay 0 = omega (arith, ap (λ (n : ℕ). get_or x.choices.now n 0) c.from.ensures) in
    c.loop-choice.invariant
    ∙ ap (λ (n : ℕ). lowest_over_from K m x.choices.now x.lines.now x.cells.now c.args.number c.args.left c.args.bay n (byte_of c.args.self.now.plan)) all
    ∙ sym (least_price_over K (byte_of x.choices.now) u c.args.left c.args.bay (byte_of c.args.self.now.plan) (omega arith) (sym c.has.ensures ∙ c.if-not-has.false)
    (ap (λ (s : ℕ). has s c.args.bay) (sym c.scope.ensures) ∙ sym c.has-else-not-has.ensures ∙ c.if-not-has-2.false))
