use Rattle.model.proofs.Costs.{terms_course}
use Rattle.model.proofs.terms_course_stands.Goals as goal

pub returns : goal.returns
returns g c = terms_course
