use Rattle.std.proofs.Common.{◌≡◌, ℕ, ◌-◌, ◌^◌, ◌<◌, ◌≤◌, List, ℤ, length, sym, ap, ◌∙◌, subst, ap₂, arith, w8, to_z, of_z}
use lib.Count.{ones}
use Rattle.std.specs.Int.Count.{ones-ones}
use Rattle.std.proofs.lemmas.Int.{to_z-of_z}
use Rattle.course.specs.Masks.{sets_of, tries_of, course_of}
use Rattle.course.proofs.Starts.{full_small, lines_are}
use Rattle.course.proofs.course.write_lines.Goals as goal

pub fill-requires : goal.fill-requires
fill-requires g c =
    let bays = length c.args.lines.now in
    let few : bays ≤ 24 = omega (arith, c.requires, (g.met.B.Book.lawful c.args.book.now).few_bays) in
    let is = c.first.ensures.few (omega arith) in
    record {
      few = subst (λ (x : ℕ). x < 16777216) (sym is) (full_small bays few);
      count = ap ones is ∙ ones-ones bays;
    }

pub returns : goal.returns
returns g c =
    let m = g.B.Book.meaning c.args.book.now in
    let pick = g.K.Picker.answer c.args.picker.now in
    let laws = g.met.B.Book.lawful c.args.book.now in
    let bays = length c.args.lines.now in
    let few : bays ≤ 24 = omega (arith, c.requires, laws.few_bays) in
    let is = c.first.ensures.few (omega arith) ∙ ap (λ (n : ℕ). 2 ^ n - 1) c.requires in
    let k_is : to_z w8 (of_z w8 c.args.k) ≡ c.args.k = to_z-of_z w8 c.args.k c.ranges.k in
    c.fill.ensures
    ∙ ap (λ (x : ℤ). course_of pick c.tries.result x bays c.start.result c.first.result c.args.cells) k_is
    ∙ ap₂ (λ (cs ms : List ℕ). course_of pick cs c.args.k bays ms c.first.result c.args.cells) c.tries.ensures c.start.ensures
    ∙ ap₂ (λ (n r : ℕ). course_of pick (tries_of m.choices) c.args.k n (sets_of m.scope m.rules) r c.args.cells) c.requires is
    ∙ sym (lines_are g.B.Cost.Price.ops m laws pick (g.met.K.Picker.remains c.args.picker.now) c.args.k c.args.cells)
