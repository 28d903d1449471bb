use Rattle.std.proofs.Common.{◌∙◌, rules, tests}
use Rattle.std.proofs.lemmas.Iterator.{YieldsList-from_range}
use Rattle.std.proofs.lemmas.Iterator.Consumers.{YieldsList-from_filter}
use Rattle.model.specs.Sets.{has}
use Rattle.fewest.specs.Minima.{better, chosen_is}
use Rattle.fewest.proofs.Reduced.{reduced}
use Rattle.fewest.proofs.least.Goals as goal

pub returns : goal.returns
returns g c = λ below compares ranks.
    let m = c.args.question.now.remaining in
    reduced _ (better below) (λ a x b q k. search (rules, tests, compares.answers)) c.reduce.result c.reduce.ensures.ran
    (YieldsList-from_filter _ (has m) (YieldsList-from_range 0 24 24 c.filter.ensures.source (search rules)) c.filter.ensures.closure (λ x b q k. search (rules, tests)))
    ∙ chosen_is below ranks m
