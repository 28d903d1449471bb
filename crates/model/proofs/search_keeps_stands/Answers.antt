use Rattle.model.proofs.Searching.{search_keeps}
use Rattle.model.proofs.search_keeps_stands.Goals as goal

pub returns : goal.returns
returns g c = search_keeps
