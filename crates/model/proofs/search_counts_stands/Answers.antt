use Rattle.model.proofs.Visits.{search_counts}
use Rattle.model.proofs.search_counts_stands.Goals as goal

pub returns : goal.returns
returns g c = search_counts
