use Rattle.std.proofs.Common.{length}
use Rattle.layout.proofs.tables.+place.Given as goal

abbrev pub decreases-place : goal.decreases-place
decreases-place l = length l.scope.now
