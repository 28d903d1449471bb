-- What the loop of `number` keeps: the digits that are left go on from the number held so far.
use Rattle.std.proofs.Common.{◌≡◌, length}
use Rattle.commands.specs.Numbers.{numeral, onwards, held}
use Rattle.commands.proofs.number.number.Given as goal

abbrev pub invariant-loop-rest : goal.invariant-loop-rest
invariant-loop-rest l = held (numeral l.bytes) ≡ held (onwards l.n.number l.rest)

abbrev pub decreases-loop-rest : goal.decreases-loop-rest
decreases-loop-rest l = length l.rest
