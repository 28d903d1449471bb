use Rattle.std.proofs.Common.{◌≡◌, ◌≤◌, length, take}
use Rattle.model.specs.Terms.{read}
use Rattle.search.specs.Places.{byte_of, PlanOk}
use Rattle.search.specs.Visit.{folds_of}
use Rattle.search.proofs.pricing.Pricing.read_back.Given as goal

abbrev pub invariant-loop-line : goal.invariant-loop-line
invariant-loop-line g l =
    let K = g.B.Cost.Price.ops in
    let x = l.self.terms.now in
    let cs = x.choices.now in
    let folds = folds_of K (g.B.Book.meaning x.book.now) cs x.lines.now x.cells.now in
    let rest = l.line-iterator.iter.rest.now in
    record {
      wide : length l.plan ≡ 24;
      legal : PlanOk cs l.plan;
      first : rest ≡ take (length rest) x.lines.now;
      below : length rest ≤ l.depth;
      read : read K (byte_of cs) (folds l.depth) (byte_of l.self.plan) ≡ read K (byte_of cs) (folds (length rest)) (byte_of l.plan);
    }
