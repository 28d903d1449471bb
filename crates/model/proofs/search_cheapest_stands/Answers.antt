use Rattle.model.proofs.Least.{search_cheapest}
use Rattle.model.proofs.search_cheapest_stands.Goals as goal

pub returns : goal.returns
returns g c = search_cheapest
