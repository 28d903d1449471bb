use Rattle.std.proofs.Common.{◌∙◌, arith, rules}
use Rattle.std.proofs.lemmas.Iterator.Consumers.{fold_from_yields_List}
use Rattle.std.proofs.lemmas.Iterator.Adapters.{YieldsList-from_rev_slice}
use Rattle.reader.proofs.Tables.{taken, product_is}
use Rattle.reader.proofs.counts.product.Goals as goal

pub returns : goal.returns
returns c =
    fold_from_yields_List _ (taken c.args.counts.now) 1 c.fold.result c.fold.ensures.ran (YieldsList-from_rev_slice c.args.scope.now cc) (λ a x b q k. search rules)
    ∙ product_is c.args.counts.now (λ i. omega (arith, c.type_inv.counts i)) c.args.scope.now c.requires
