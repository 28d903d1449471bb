use Rattle.std.proofs.Common.{length}
use Rattle.course.proofs.fill.+fill.Given as goal

abbrev pub decreases-fill : goal.decreases-fill
decreases-fill g l = length l.lines.now
