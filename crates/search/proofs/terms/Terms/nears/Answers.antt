use Rattle.std.proofs.Common.{rules}
use Rattle.bays.proofs.Filled.{all_made}
use Rattle.search.specs.Visit.{Nears}
use Rattle.search.proofs.terms.Terms.nears.Goals as goal

pub returns : goal.returns
returns g c =
    let x = c.args.self.now in
    all_made _ (Nears (g.B.Book.meaning x.book.now) x.lines.now c.args.force.now c.args.remaining) 0 24 (λ k y q l r. (search rules, search rules)) _ c.from_fn.ensures.items
