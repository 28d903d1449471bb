use Rattle.std.proofs.Common.{ℕ, ◌-◌, length, ℤ, sym, ap, ◌∙◌, subst, w8, to_z, of_z, ◌≡◌, rules}
use Rattle.std.specs.Prelude.{is_some, unwrap_or}
use Rattle.course.specs.Masks.{decided}
use Rattle.course.specs.Views.{answers_of}
use Rattle.search.specs.Visit.{Decided}
use Rattle.search.proofs.Kits.{mapped}
use Rattle.search.proofs.Deciding.{step_decides, decides}
use Rattle.search.proofs.decide.decide_step.Goals as goal

pub returns : goal.returns
returns g c =
    let K = g.P.Price.ops in
    let m = g.B.Book.meaning c.args.given.now.book.now in
    let pick = g.K.Picker.answer c.args.given.now.picker.now in
    let s = c.args.search.now in
    let d = c.step-next.result in
    let k_is : to_z w8 (of_z w8 c.k.result) ≡ s.k.k = search rules in
    let is = c.step-next.ensures.is ∙ ap (λ (k : ℤ). decided pick s.choices k c.nears-nears.result c.args.left.now.remaining (length c.args.scratch.now - c.args.left.now.used)) k_is in
    let by_step = subst (λ (x : ℕ). Decided K m (answers_of pick) s c.args.left.now.remaining c.args.left.now.force.now c.args.left.now.used c.args.scratch.now d.bay (is_some d.table) x (unwrap_or d.table 0)) (sym c.neighbours_of-near.ensures)
    (step_decides K m pick (g.met.K.Picker.remains c.args.given.now.picker.now) s c.args.left.now.remaining c.args.left.now.force.now c.args.left.now.used c.args.scratch.now c.nears-nears.result c.requires.some c.requires.small (λ b i h. rw (c.terms.ensures.book, c.terms.ensures.lines) at ((c.nears-nears.ensures b h).has_is i)) d is) in
    decides K m (answers_of pick) s c.args.left.now c.args.scratch.now d.bay d.table c.neighbours_of-near.result by_step c.map.result
    (mapped (λ (size : ℕ). record { near = c.neighbours_of-near.result; size = size }) _ (λ x y h. search rules) d.table c.map.result c.map.ensures.cases)
