use Rattle.std.proofs.Common.{ℕ, ◌+◌, ◌*◌, ◌≤◌, List, sym, ap, ◌∙◌, subst, arith, rules}
use Rattle.model.specs.Lists.{product}
use Rattle.model.specs.Sets.{has}
use Rattle.search.proofs.Members.{members_in, members_out, members_end}
use Rattle.search.proofs.Sizes.{place_step}
use Rattle.search.specs.Places.{place, byte_of}
use Rattle.search.proofs.places.+place.Goals as goal

pub overflow_mul-next : goal.overflow_mul-next
overflow_mul-next t c =
    let s = place_step c.args.choices.now c.args.plan.now c.args.set c.args.bay c.args.so_far (omega arith) (sym c.if-has.ensures) c.requires.open c.requires.legal c.requires.fits in
    let h = s.product in search rules

pub overflow_add-next : goal.overflow_add-next
overflow_add-next t c =
    let s = place_step c.args.choices.now c.args.plan.now c.args.set c.args.bay c.args.so_far (omega arith) (sym c.if-has.ensures) c.requires.open c.requires.legal c.requires.fits in
    let h = s.next in search rules

pub place-requires : goal.place-requires
place-requires t c =
    let s = place_step c.args.choices.now c.args.plan.now c.args.set c.args.bay c.args.so_far (omega arith) (sym c.if-has.ensures) c.requires.open c.requires.legal c.requires.fits in
    (search rules, (omega arith, (c.requires.open, (c.requires.legal, rw (c.from.ensures, c.from-then-has.ensures, c.from-at.ensures) s.fits))))

pub place-requires-else-has : goal.place-requires-else-has
place-requires-else-has t c =
    let e = members_out (has c.args.set) c.args.bay 24 (omega arith) (sym c.if-has.ensures) in
    (search rules, (omega arith, (c.requires.open, (c.requires.legal, subst (λ (bs : List ℕ). (c.args.so_far + 1) * product (byte_of c.args.choices.now) bs ≤ 4096) e c.requires.fits))))

pub returns-then-has : goal.returns-then-has
returns-then-has t c =
    let e = members_in (has c.args.set) c.args.bay 24 (omega arith) (sym c.if-has.ensures) in
    rw (c.from.ensures, c.from-then-has.ensures, c.from-at.ensures) at c.place.ensures ∙ sym (ap (λ (bs : List ℕ). place (byte_of c.args.choices.now) c.args.so_far bs (byte_of c.args.plan.now)) e)

pub returns-else-has : goal.returns-else-has
returns-else-has t c =
    let e = members_out (has c.args.set) c.args.bay 24 (omega arith) (sym c.if-has.ensures) in
    c.place-else-has.ensures ∙ sym (ap (λ (bs : List ℕ). place (byte_of c.args.choices.now) c.args.so_far bs (byte_of c.args.plan.now)) e)

pub returns-then-bay-ge24 : goal.returns-then-bay-ge24
returns-then-bay-ge24 t c = sym (ap (λ (bs : List ℕ). place (byte_of c.args.choices.now) c.args.so_far bs (byte_of c.args.plan.now)) (members_end (has c.args.set) c.args.bay 24 (omega arith)))
