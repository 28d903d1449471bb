use Rattle.std.proofs.Common.{rules}
use Rattle.bays.proofs.Filled.{filled}
use Rattle.course.proofs.start.tries.Goals as goal

pub returns : goal.returns
returns g c =
    filled _ (g.B.Book.meaning c.args.book.now).choices 0 24 (λ k y q h r. search rules) _ c.from_fn.ensures.items
