use Rattle.std.proofs.Common.{◌≡◌, ℕ, ◌-◌, ◌^◌, ◌<◌, length, ap, ◌∙◌, subst, ap₂, le_refl, arith}
use Rattle.course.specs.Views.{answers_of}
use Rattle.model.specs.Sets.{has}
use Rattle.search.specs.Places.{bays_from}
use Rattle.search.specs.Start.{starts, Ends}
use Rattle.search.proofs.Starting.{fits_start, few_start, open_start, small_start, tabled_start, stack_start, length_members, search_start}
use Rattle.search.proofs.plan.run.Goals as goal

pub visit-visited-requires : goal.visit-visited-requires
visit-visited-requires g c =
    let K = g.P.Price.ops in
    let m = g.B.Book.meaning c.args.book.now in
    let laws = g.met.B.Book.lawful c.args.book.now in
    let cs = c.tries.result in
    let mask = c.first.result in
    let lines = c.blank_lines.result in
    let force = c.start_force-force.result in
    let fits = fits_start K m laws cs c.tries.ensures in
    let all : mask ≡ 2 ^ m.bays - 1 = c.first.ensures.few (omega (arith, laws.few_bays, c.bays-bays.ensures)) ∙ ap (λ (x : ℕ). 2 ^ x - 1) c.bays-bays.ensures in
    let h = λ (j : ℕ) (l : j < 112). c.start_force-force.ensures j l ∙ ap₂ (λ (x y : ℕ). starts x y j) c.bays-bays.ensures c.rules.ensures in
    record {
      ok = record {
        fits = fits;
        few = few_start K m laws cs fits;
        legal = λ e l. absurd (omega arith);
        opened = open_start K m laws cs fits mask all;
        small = small_start K m laws cs fits mask all;
        deep = omega (arith, length_members (has mask) 0 24);
        room = omega arith;
        tabled = tabled_start K m laws cs fits lines force (omega arith) h;
        stack = stack_start K m laws cs fits lines;
      };
    }

pub returns : goal.returns
returns g c =
    let K = g.P.Price.ops in
    let m = g.B.Book.meaning c.args.book.now in
    let pick = answers_of (g.K.Picker.answer c.args.picker.now) in
    let laws = g.met.B.Book.lawful c.args.book.now in
    let cs = c.tries.result in
    let mask = c.first.result in
    let lines = c.blank_lines.result in
    let force = c.start_force-force.result in
    let fits = fits_start K m laws cs c.tries.ensures in
    let cells = c.args.scratch.now in
    let all : mask ≡ 2 ^ m.bays - 1 = c.first.ensures.few (omega (arith, laws.few_bays, c.bays-bays.ensures)) ∙ ap (λ (x : ℕ). 2 ^ x - 1) c.bays-bays.ensures in
    let h = λ (j : ℕ) (l : j < 112). c.start_force-force.ensures j l ∙ ap₂ (λ (x y : ℕ). starts x y j) c.bays-bays.ensures c.rules.ensures in
    let n = length (bays_from mask 0) in
    subst (Ends c.end.result)
    (c.visit-visited.ensures.state n (le_refl n)
    ∙ search_start K m laws cs fits lines cells force h mask all pick c.args.k c.args.limit c.args.ceiling)
    c.end.ensures

pub invariant_of-search-clause-sound : goal.invariant_of-search-clause-sound
invariant_of-search-clause-sound g c = c.blank_lines.ensures c.tries.result
