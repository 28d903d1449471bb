use Rattle.std.proofs.Common.{◌≡◌, length}
use Rattle.search.proofs.Flags.{Back}
use Rattle.search.specs.Force.{floor_from}
use Rattle.search.specs.Places.{byte_of}
use Rattle.search.proofs.pricing.Pricing.floor.Given as goal

abbrev pub invariant-loop-number : goal.invariant-loop-number
invariant-loop-number g l =
    let x = l.self.terms.now in
    let flags = l.number-iterator.iter in
    Back l.force flags.iter.rest.now flags.count
    × (l.total ≡ floor_from g.B.Cost.Price.ops (g.B.Book.meaning x.book.now) x.choices.now x.lines.now x.cells.now l.force l.left (byte_of l.self.plan) (length flags.iter.rest.now))
