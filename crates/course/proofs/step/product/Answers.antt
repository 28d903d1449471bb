use Rattle.std.proofs.Common.{◌*◌, get_or, ◌∙◌, rules, tests}
use Rattle.std.proofs.lemmas.Iterator.{YieldsList-from_range, YieldsList-from_map}
use Rattle.std.proofs.lemmas.Iterator.Consumers.{YieldsList-at, YieldsList-from_filter, fold_from_yields_List}
use Rattle.model.specs.Sets.{has}
use Rattle.course.specs.Masks.{capped_cells}
use Rattle.course.proofs.Products.{product_folds}
use Rattle.course.proofs.step.product.Goals as goal

pub returns : goal.returns
returns c =
    fold_from_yields_List _ (λ a n. capped_cells (a * n)) 1 c.fold.result c.fold.ensures.ran
    (YieldsList-from_map _ (λ b. get_or c.args.choices.now b 0)
    (YieldsList-at c.map.ensures.source (YieldsList-from_filter _ (has c.args.near) (YieldsList-from_range 0 24 24 c.filter.ensures.source (search rules)) c.filter.ensures.closure (λ x b q k. search (rules, tests))))
    c.map.ensures.closure (λ x r q k. search rules))
    (λ a x b q k. search rules)
    ∙ product_folds c.args.choices.now c.args.near
