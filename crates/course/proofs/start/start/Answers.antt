use Rattle.std.proofs.Common.{rules}
use Rattle.bays.proofs.Filled.{filled}
use Rattle.course.specs.Masks.{touched}
use Rattle.course.proofs.start.start.Goals as goal

pub returns : goal.returns
returns g c =
    let m = g.B.Book.meaning c.args.book.now in
    filled _ (λ b. touched m.scope b m.rules) 0 24 (λ k y q h r. search rules) _ c.from_fn.ensures.items
