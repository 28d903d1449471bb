use Rattle.std.proofs.Common.{arith}
use Rattle.search.proofs.Steps.{bytes_put, choice_inside}
use Rattle.search.proofs.pricing.Pricing.with_choice.Goals as goal

pub returns-clause-plan : goal.returns-clause-plan
returns-clause-plan g c = rw c.from.ensures (bytes_put c.args.self.now.plan c.args.bay c.args.choice (omega (arith, choice_inside c.args.self.now.terms.now.choices.now c.args.bay c.args.choice c.requires)))
