use Rattle.std.proofs.Common.{rules, ◌≡◌, ℕ, min, List, length, IfOk, string_bytes, ◌∙◌, subst, arith, w64}
use Rattle.std.proofs.lemmas.Int.{to_z-of_z}
use Rattle.replies.proofs.Told.{told_plan}
use Rattle.replies.proofs.reply.plan_by.Goals as goal

pub returns : goal.returns
returns g c =
    let m = g.B.Book.meaning c.args.book.now in
    let s = c.args.sought in
    let was = c.args.bytes.now in
    let long : length c.plan-planned.new.bytes ≡ length was = omega arith in
    let front : c.min-bays.result ≡ min m.bays (length was) = omega arith in
    let e = told_plan _ m (g.K.Picker.answer c.args.picker.now) s _ was _ _ c.plan-planned.new.bytes c.plan-planned.result c.min-bays.result
    (to_z-of_z w64 s.k (search rules)) (c.as_mut_slice.ensures.len ∙ c.in_ok-scratch.ensures) front long c.plan-planned.ensures.answers c.plan-planned.ensures.bytes in
    subst (λ (t : List ℕ). IfOk c.to_string.result (λ s. string_bytes s ≡ t)) (c.planned.ensures ∙ e) c.to_string.ensures.ok
