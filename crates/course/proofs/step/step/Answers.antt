use Rattle.std.proofs.Common.{◌≡◌, ap, ◌∙◌, arith, rules, tests, w8, to_z, of_z}
use Rattle.std.proofs.lemmas.Int.{to_z-of_z}
use Rattle.model.specs.Sets.{has}
use Rattle.pickers.specs.Questions.{asked}
use Rattle.course.proofs.Steps.{stepped, decided_at}
use Rattle.course.proofs.step.step.Goals as goal

pub returns-clause-is : goal.returns-clause-is
returns-clause-is g c =
    let k = c.args.k in
    let unused = c.args.unused in
    let k_is : to_z w8 (of_z w8 k) ≡ k = to_z-of_z w8 k c.ranges.k in
    let q_is = c.new-question.ensures.is ∙ ap (asked c.args.remaining c.args.masks c.args.choices.now) k_is in
    let near = c.neighbours-near.result in
    stepped c.args.choices.now k unused c.pick-bay.result near c.product.result c.try_from.result c.ok.result c.filter-table.result _ (omega arith) c.product.ensures c.try_from.ensures c.ok.ensures.value c.filter-table.ensures
    (λ x v h. search (rules, tests, to_z-of_z))
    ∙ decided_at (g.K.Picker.answer c.args.picker.now) c.args.choices.now k c.args.masks c.args.remaining unused c.new-question.result c.pick-bay.result near q_is c.pick-bay.ensures c.neighbours-near.ensures

pub returns-clause-remains : goal.returns-clause-remains
returns-clause-remains g c =
    let pick = g.K.Picker.answer c.args.picker.now in
    let q = asked c.args.remaining c.args.masks c.args.choices.now (to_z w8 (of_z w8 c.args.k)) in
    λ some few. ap (has c.args.remaining) (c.pick-bay.ensures ∙ ap pick c.new-question.ensures.is) ∙ g.met.K.Picker.remains c.args.picker.now q some few
