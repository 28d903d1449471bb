use Rattle.std.proofs.Common.{◌-◌}
use Rattle.search.proofs.places.+place.Given as goal

abbrev pub decreases-place : goal.decreases-place
decreases-place l = 24 - l.bay
