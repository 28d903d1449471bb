use Rattle.std.proofs.Common.{length, arith, w64}
use Rattle.std.proofs.lemmas.Int.{to_z-of_z}
use Rattle.search.specs.declared.answer.Planned.TheVariants.{Refused}
use Rattle.search.proofs.Promising.{promised}
use Rattle.search.proofs.plan.plan.Goals as goal

pub returns-in-Ok-clause-promise : goal.returns-in-Ok-clause-promise
returns-in-Ok-clause-promise g c =
    promised g.P.Price.ops g.met.P.Price.lawful (g.B.Book.meaning c.args.book.now) (g.met.B.Book.lawful c.args.book.now) (g.K.Picker.answer c.args.picker.now) c.args.k c.args.limit (length c.args.scratch.now)
    c.args.bytes.now c.searched.new.bytes (g.P.Price.accepts c.args.ceiling) (omega arith) c.in-Ok.planned (rw (to_z-of_z w64 c.args.k c.ranges.k) at c.in-Ok.ensures.answers) (λ i. rw (to_z-of_z w64 c.args.k c.ranges.k) at (c.searched.ensures.bytes i))

pub returns-in-Err-clause-promise : goal.returns-in-Err-clause-promise
returns-in-Err-clause-promise g c =
    promised g.P.Price.ops g.met.P.Price.lawful (g.B.Book.meaning c.args.book.now) (g.met.B.Book.lawful c.args.book.now) (g.K.Picker.answer c.args.picker.now) c.args.k c.args.limit (length c.args.scratch.now)
    c.args.bytes.now c.searched.new.bytes (g.P.Price.accepts c.args.ceiling) (omega arith) (Refused c.in-Err.refusal) (rw (to_z-of_z w64 c.args.k c.ranges.k) at c.in-Err.ensures.answers) (λ i. rw (to_z-of_z w64 c.args.k c.ranges.k) at (c.searched.ensures.bytes i))
