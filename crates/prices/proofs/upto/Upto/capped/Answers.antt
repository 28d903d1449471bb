use Rattle.prices.specs.Kept.{upto_path}
use Rattle.prices.proofs.upto.Upto.capped.Goals as goal

pub returns : goal.returns
returns g c = upto_path c.min.ensures
