use Rattle.std.proofs.Common.{◌≡◌, ◌≤◌, ◌<◌, ◌-◌, ℕ, List, length, take, get_or, sym, ap, ◌∙◌, arith}
use Rattle.std.proofs.lemmas.List.{get_or_default, get_or-take}
use Rattle.model.specs.Books.{begins}
use Rattle.books.proofs.Plans.{begins_next, begins_not}
use Rattle.books.proofs.plan.is_plan.Goals as goal

-- a byte of the front of the plan, which is as long as the book has bays
choice_at : (plan choices : List ℕ) (bays bay : ℕ) → choices ≡ take (bays - 0) plan → bays ≤ length plan → bay < bays → get_or choices bay 0 ≡ get_or plan bay 255
choice_at plan choices bays bay same enough within =
    ap (λ (l : List ℕ). get_or l bay 0) same ∙ get_or-take (bays - 0) plan bay 0 (omega arith) ∙ get_or_default plan bay 0 255 (omega arith)

pub returns-then-choice-choices : goal.returns-then-choice-choices
returns-then-choice-choices g c =
    let m = g.B.Book.meaning c.args.book.now in
    let plan = c.args.plan.now in
    let front = c.in-Some.ensures.lookup.0 in
    let here = choice_at plan c.in-Some.choices.now c.bays.result c.loop-bay.bay front.2 front.1 (omega (arith, front.3)) in
    sym (begins_not m.choices m.bays c.loop-bay.bay plan (omega (arith, c.bays.ensures, front.3)) (omega (arith, c.choices.ensures, here)))

pub loop-bay-preserved : goal.loop-bay-preserved
loop-bay-preserved g c =
    let m = g.B.Book.meaning c.args.book.now in
    let plan = c.args.plan.now in
    let front = c.in-Some.ensures.lookup.0 in
    let here = choice_at plan c.in-Some.choices.now c.bays.result c.loop-bay.bay front.2 front.1 (omega (arith, front.3)) in
    begins_next m.choices c.loop-bay.bay plan c.loop-bay.invariant (omega (arith, c.choices.ensures, here))

pub returns : goal.returns
returns g c =
    let m = g.B.Book.meaning c.args.book.now in
    let all : c.loop-bay.bay ≡ m.bays = omega (arith, c.bays.ensures, c.in-Some.ensures.lookup.0.3) in
    sym c.loop-bay.invariant ∙ ap (λ (n : ℕ). begins m.choices n c.args.plan.now) all
