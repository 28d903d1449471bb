use Rattle.model.proofs.Listed.{course_lists}
use Rattle.model.proofs.course_lists_stands.Goals as goal

pub returns : goal.returns
returns g c = course_lists
