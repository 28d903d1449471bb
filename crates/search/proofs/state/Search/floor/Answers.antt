use Rattle.std.proofs.Common.{sym, subst}
use Rattle.search.specs.Places.{PlanOk}
use Rattle.search.proofs.Settled.{set_ok_in}
use Rattle.search.proofs.state.Search.floor.Goals as goal

pub invariant_of-pricing-clause-legal : goal.invariant_of-pricing-clause-legal
invariant_of-pricing-clause-legal g c = let a = c.args.self.now in subst (λ cs. PlanOk cs c.choices_set.result) (sym c.terms-terms.ensures.choices) (set_ok_in a.choices a.lines a.depth c.choices_set.result c.requires.ok.legal c.choices_set.ensures)
