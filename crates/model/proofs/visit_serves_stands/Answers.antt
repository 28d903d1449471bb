use Rattle.model.proofs.Serves.{visit_serves}
use Rattle.model.proofs.visit_serves_stands.Goals as goal

pub returns : goal.returns
returns g c = visit_serves
