use Rattle.std.proofs.Common.{rules, ◌∙◌, arith}
use Rattle.std.proofs.lemmas.Iterator.{YieldsList-from_range}
use Rattle.std.proofs.lemmas.Iterator.Consumers.{fold_from_yields_List}
use Rattle.books.proofs.Plans.{sum_by_fold}
use Rattle.books.proofs.plan.rule_prices.Goals as goal

pub returns : goal.returns
returns g c =
    let o = g.B.Cost.Price.ops in
    let m = g.B.Book.meaning c.args.book.now in
    let plan = c.args.plan.now in
    fold_from_yields_List _ (λ sum r. o.combine sum (m.price r plan)) o.free _ (rw c.free.ensures at c.fold.ensures.ran)
    (YieldsList-from_range 0 c.rules.result m.rules (cc) (omega (arith, c.rules.ensures))) (λ a x b q k. search rules) ∙ sum_by_fold o (λ r. m.price r plan) m.rules
