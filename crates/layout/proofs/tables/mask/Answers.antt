use Rattle.std.proofs.Common.{rules, ◌∙◌}
use Rattle.std.proofs.lemmas.Iterator.Consumers.{fold_from_yields_List}
use Rattle.std.proofs.lemmas.Iterator.Adapters.{YieldsList-from_rev_slice}
use Rattle.bays.specs.Made.{with_one}
use Rattle.layout.proofs.Masked.{masked}
use Rattle.layout.proofs.tables.mask.Goals as goal

pub returns : goal.returns
returns c =
    fold_from_yields_List _ with_one 0 c.fold.result c.fold.ensures.ran (YieldsList-from_rev_slice c.args.scope.now cc) (λ a x b q k. search rules)
    ∙ masked c.args.scope.now c.requires
