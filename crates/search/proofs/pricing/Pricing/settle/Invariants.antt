use Rattle.std.proofs.Common.{◌≡◌}
use Rattle.model.specs.Terms.{least, least_at}
use Rattle.search.specs.Force.{trial}
use Rattle.search.specs.Places.{byte_of}
use Rattle.search.proofs.pricing.Pricing.settle.Given as goal

abbrev pub invariant-loop-choice : goal.invariant-loop-choice
invariant-loop-choice g l =
    let f = trial g.B.Cost.Price.ops (g.B.Book.meaning l.self.terms.now.book.now) l.self.terms.now.choices.now l.self.terms.now.lines.now l.self.terms.now.cells.now l.force l.bay (byte_of l.self.plan) in
    (l.best.0 ≡ least g.B.Cost.Price.ops l.choice f) × (l.best.1.0 ≡ least_at g.B.Cost.Price.ops l.choice f)
