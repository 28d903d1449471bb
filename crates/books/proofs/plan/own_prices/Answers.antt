use Rattle.std.proofs.Common.{rules, ◌∙◌}
use Rattle.std.proofs.lemmas.Iterator.{YieldsList-from_slice, YieldsList-from_take}
use Rattle.std.proofs.lemmas.Iterator.Consumers.{YieldsList-from_enumerate, fold_from_yields_List}
use Rattle.books.proofs.Plans.{owns_by_fold}
use Rattle.books.proofs.plan.own_prices.Goals as goal

pub returns : goal.returns
returns g c =
    let o = g.B.Cost.Price.ops in
    let m = g.B.Book.meaning c.args.book.now in
    let plan = c.args.plan.now in
    fold_from_yields_List _ (λ sum p. o.combine sum (m.own p.0 p.1)) o.free _ (rw c.free.ensures at c.fold.ensures.ran)
    (YieldsList-from_enumerate (YieldsList-from_take m.bays (YieldsList-from_slice plan cc) cc) cc) (λ a x b q k. search rules)
    ∙ owns_by_fold o m.own plan m.bays c.requires
