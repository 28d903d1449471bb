use Rattle.std.proofs.Common.{◌+◌, ◌*◌, length}
use Rattle.course.proofs.forecast.+forecasts.Given as goal

abbrev pub decreases-branched : goal.decreases-branched
decreases-branched l = 2 * length l.rest.now + 1

abbrev pub decreases-forecast : goal.decreases-forecast
decreases-forecast l = 2 * length l.course.now

abbrev pub decreases-folded : goal.decreases-folded
decreases-folded l = 2 * length l.rest.now + 1
