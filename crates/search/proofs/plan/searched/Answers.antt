use Rattle.std.proofs.Common.{◌≡◌, ℕ, true, length, ℤ, Some, sym, ap, ◌∙◌, ap₂, subst, arith, w64}
use Rattle.std.proofs.lemmas.Int.{to_z-of_z}
use Rattle.course.specs.Views.{answers_of}
use Rattle.model.specs.Searched.{search_in}
use Rattle.search.specs.Start.{Ends, bytes_of, taken, allowed}
use Rattle.search.proofs.Promising.{replied, wrote}
use Rattle.search.proofs.plan.searched.Goals as goal

pub returns : goal.returns
returns g c =
    let o = g.P.Price.ops in
    let L = g.met.P.Price.lawful in
    let m = g.B.Book.meaning c.args.book.now in
    let laws = g.met.B.Book.lawful c.args.book.now in
    let pick = g.K.Picker.answer c.args.picker.now in
    let k = c.args.k in
    let limit = c.args.limit in
    let cells = length c.args.scratch.now in
    let old = c.args.bytes.now in
    let bytes = c.told.new.bytes in
    let offered = g.P.Price.accepts c.args.ceiling in
    let ceiling = c.in_ok-ceiling.ceiling in
    let k_is : c.in_ok-k.k.k ≡ k = c.in_ok-k.ensures.1 ∙ to_z-of_z w64 k c.ranges.k in
    let settles : allowed m k limit (length old) ≡ true = ap₂ (λ (z : ℤ) (b : ℕ). taken z limit b (length old)) (sym (to_z-of_z w64 k c.ranges.k)) (sym c.bays-bays.ensures) ∙ c.in_ok-k.ensures.0 in
    let offers : offered ≡ Some ceiling = sym c.accept.ensures ∙ c.in_ok-ceiling.ensures.ok_part in
    let ends : Ends c.run.result (search_in o m (answers_of pick) k limit cells ceiling) = subst (λ (z : ℤ). Ends c.run.result (search_in o m (answers_of pick) z limit cells ceiling)) k_is c.run.ensures in
    let same : length bytes ≡ length old = omega arith in
    record {
      answers = c.told.ensures.answers _ ends ∙ replied o L m laws pick k limit cells old bytes offered same ceiling settles offers;
      bytes = λ i. c.told.ensures.bytes _ i ends ∙ ap (λ (b : ℕ). bytes_of (search_in o m (answers_of pick) k limit cells ceiling) b old i) c.bays-bays.ensures ∙ wrote o L m laws pick k limit cells old bytes offered same ceiling settles offers i;
    }
