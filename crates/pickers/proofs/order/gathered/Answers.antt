use Rattle.std.proofs.Common.{nat_lt, cond, rules, tests, ◌∙◌}
use Rattle.std.proofs.lemmas.Iterator.{YieldsList-from_slice}
use Rattle.std.proofs.lemmas.Iterator.Consumers.{fold_from_yields_List}
use Rattle.bays.specs.Made.{with_one}
use Rattle.pickers.proofs.Kept.{fold_kept}
use Rattle.pickers.proofs.order.gathered.Goals as goal

pub returns : goal.returns
returns c =
    fold_from_yields_List _ (λ seen x. cond (nat_lt x 24) (with_one seen x) seen) 0 c.fold.result c.fold.ensures.ran
    (YieldsList-from_slice c.args.list.now cc)
    (λ a x b q k. search (rules, tests))
    ∙ fold_kept (λ x. nat_lt x 24) with_one 0 c.args.list.now
