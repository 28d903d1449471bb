use Rattle.format.proofs.Refused.{refuses}
use Rattle.format.proofs.refuses_stands.Goals as goal

pub returns : goal.returns
returns c = refuses
