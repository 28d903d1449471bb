use Rattle.model.proofs.Counted.{forecast_counts}
use Rattle.model.proofs.forecast_counts_stands.Goals as goal

pub returns : goal.returns
returns c = forecast_counts
