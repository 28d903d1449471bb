use Rattle.std.proofs.Common.{◌≡◌, ◌-◌}
use Rattle.search.specs.Force.{lowest_over_from}
use Rattle.search.specs.Places.{byte_of}
use Rattle.search.proofs.pricing.Pricing.+lowest.Given as goal

abbrev pub decreases-lowest : goal.decreases-lowest
decreases-lowest g l = 24 - l.bay

abbrev pub invariant-loop-choice : goal.invariant-loop-choice
invariant-loop-choice g l = l.best ≡ lowest_over_from g.B.Cost.Price.ops (g.B.Book.meaning l.self.terms.now.book.now) l.self.terms.now.choices.now l.self.terms.now.lines.now l.self.terms.now.cells.now l.number l.left l.bay l.choice (byte_of l.self.plan)
