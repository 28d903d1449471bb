use Rattle.std.proofs.Common.{◌≡◌, true}
use Rattle.model.specs.Books.{begins}
use Rattle.books.proofs.plan.is_plan.Given as goal

abbrev pub invariant-loop-bay : goal.invariant-loop-bay
invariant-loop-bay g l = begins (g.B.Book.meaning l.book).choices l.bay l.plan ≡ true
