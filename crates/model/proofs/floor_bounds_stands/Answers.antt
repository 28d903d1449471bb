use Rattle.model.proofs.Floors.{floor_bounds}
use Rattle.model.proofs.floor_bounds_stands.Goals as goal

pub returns : goal.returns
returns g c = floor_bounds
