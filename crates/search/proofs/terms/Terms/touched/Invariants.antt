use Rattle.std.proofs.Common.{◌≡◌, ℕ, length}
use Rattle.model.specs.Sets.{has}
use Rattle.search.proofs.Flags.{Back}
use Rattle.search.specs.Force.{shares}
use Rattle.search.proofs.terms.Terms.touched.Given as goal

abbrev pub invariant-loop-number : goal.invariant-loop-number
invariant-loop-number g l =
    let flags = l.number-iterator.iter in
    Back l.force flags.iter.rest.now flags.count
    × ((i : ℕ) → has l.bays i ≡ shares (g.B.Book.meaning l.self.book.now) l.self.lines.now l.force l.bay (length flags.iter.rest.now) i)
