use Rattle.std.proofs.Common.{◌≡◌, ℕ, ◌≤◌, ◌++◌, List, map, length, drop, ℤ, pos, negsuc, Ok, true, ap, ap₂, ◌∙◌, arith, w8, to_z, of_z, rules, int_le}
use Rattle.std.proofs.lemmas.Int.{to_z-of_z}
use Rattle.std.proofs.lemmas.Bool.{and_from}
use Rattle.course.specs.Bounds.{small}
use Rattle.course.specs.Replies.{lines_of}
use Rattle.course.specs.Written.{written}
use Rattle.course.specs.declared.line.Line.{Line}
use Rattle.course.proofs.Answered.{answered, replied, wrote, tells}
use Rattle.course.proofs.course.course.Goals as goal

pub returns : goal.returns
returns g c =
    let o = g.B.Cost.Price.ops in
    let m = g.B.Book.meaning c.args.book.now in
    let laws = g.met.B.Book.lawful c.args.book.now in
    let pick = g.K.Picker.answer c.args.picker.now in
    let remains = g.met.K.Picker.remains c.args.picker.now in
    let k = c.args.k in
    let cells = c.args.cells in
    let was = c.args.lines.now in
    let k_is : to_z w8 (of_z w8 c.k-k.result) ≡ k = search (rules, to_z-of_z) in
    let is_small : small k ≡ true = and_from (int_le (negsuc 0) k) (int_le k (pos 4)) (search rules) (search rules) in
    let room : m.bays ≤ length was = omega (arith, c.bays-bays.ensures) in
    let lines = c.write_lines.new.lines in
    let lines_are : lines ≡ map written (lines_of m pick k cells) = c.write_lines.ensures ∙ ap (λ (x : ℤ). map written (lines_of m pick x cells)) k_is in
    let all_are : lines ++ drop c.bays-bays.result was ≡ map written (lines_of m pick k cells) ++ drop m.bays was = ap₂ (λ (xs : List Line) (n : ℕ). xs ++ drop n was) lines_are c.bays-bays.ensures in
    let n_is = answered o m laws pick remains k cells was is_small room lines c.forecast.result lines_are c.forecast.ensures in
    record {
      answers = ap Ok n_is ∙ replied o m laws pick remains k cells was is_small room;
      writes = all_are ∙ wrote o m laws pick remains k cells was is_small room;
      tells = tells o m laws pick remains k cells was is_small room (lines ++ drop c.bays-bays.result was) c.forecast.result all_are n_is;
    }
