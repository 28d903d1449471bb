use Rattle.std.proofs.Common.{◌≡◌, length}
use Rattle.search.specs.Places.{byte_of}
use Rattle.search.specs.Visit.{set_in}
use Rattle.search.proofs.state.Search.choices_set.Given as goal

abbrev pub invariant-loop-line : goal.invariant-loop-line
invariant-loop-line g l = (length l.set ≡ 24) × (byte_of l.set ≡ set_in l.self.lines l.line-index)
