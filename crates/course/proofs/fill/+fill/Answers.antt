use Rattle.std.proofs.Common.{◌≡◌, ℕ, suc, ◌<◌, length, sym, subst, ap, ◌∙◌, arith, rules, w8, to_z, of_z}
use lib.Count.{ones}
use Rattle.std.proofs.lemmas.Int.{to_z-of_z}
use Rattle.model.specs.Sets.{one, minus}
use Rattle.model.proofs.Bits.{has_below, minus_small}
use Rattle.course.proofs.Steps.{some_from_ones, one_fewer, listed}
use Rattle.course.proofs.fill.+fill.Goals as goal

pub bounds-choices-from : goal.bounds-choices-from
bounds-choices-from g t c =
    let m = c.args.left.remaining in
    let is : length c.args.lines.now ≡ suc (length c.in-Some.rest.now) = search rules in
    let some : 0 < m = some_from_ones m (omega (arith, c.requires.count)) in
    subst (λ (b : ℕ). b < 24) (sym c.from.ensures) (has_below 24 m c.step-next.result.bay c.requires.few (c.step-next.ensures.remains some c.requires.few))

pub fill-requires : goal.fill-requires
fill-requires g t c κs within =
    let m = c.args.left.remaining in
    let b = c.step-next.result.bay in
    let r : c.after.result.remaining ≡ minus m (one b) = c.after.ensures.remaining in
    let is : length c.args.lines.now ≡ suc (length c.in-Some.rest.now) = search rules in
    let some : 0 < m = some_from_ones m (omega (arith, c.requires.count)) in (
      omega arith,
      (
        within,
        (
          subst (λ (x : ℕ). x < 16777216) (sym r) (minus_small 24 m (one b) c.requires.few),
          ap ones r ∙ one_fewer m b (length c.args.lines.now) (c.step-next.ensures.remains some c.requires.few) c.requires.count ∙ omega arith,
        ),
      ),
    )

pub returns-in-Some : goal.returns-in-Some
returns-in-Some g t c =
    let left = c.args.left in
    let d = c.step-next.result in
    let k_is : to_z w8 (of_z w8 c.args.k) ≡ c.args.k = to_z-of_z w8 c.args.k c.ranges.k in
    let is : length c.args.lines.now ≡ suc (length c.in-Some.rest.now) = search rules in
    listed (g.K.Picker.answer c.args.picker.now) c.args.choices.now c.args.k (to_z w8 (of_z w8 c.args.k)) (length c.args.lines.now) (length c.in-Some.rest.now) left.masks c.after.result.masks left.remaining c.after.result.remaining left.unused c.after.result.unused d c.from.result c.is_some.result c.fill.new.lines
    k_is is c.step-next.ensures.is c.from.ensures c.is_some.ensures c.after.ensures.masks c.after.ensures.remaining c.after.ensures.unused c.fill.ensures
