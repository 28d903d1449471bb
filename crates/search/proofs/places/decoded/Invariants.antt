use Rattle.search.proofs.Sizes.{Digits}
use Rattle.search.proofs.places.decoded.Given as goal

abbrev pub invariant-loop-bay : goal.invariant-loop-bay
invariant-loop-bay l = Digits l.choices l.set l.bay l.at l.fn.plan l.picks l.left
