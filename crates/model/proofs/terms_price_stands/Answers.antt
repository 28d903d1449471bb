use Rattle.model.proofs.Costs.{terms_price}
use Rattle.model.proofs.terms_price_stands.Goals as goal

pub returns : goal.returns
returns g c = terms_price
