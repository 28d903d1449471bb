use Rattle.std.proofs.Common.{◌≡◌, ℕ, Bool, false, rules}
use Rattle.bays.proofs.Filled.{all_made}
use Rattle.search.specs.Start.{starts}
use Rattle.search.proofs.start.start_force.Goals as goal

pub returns : goal.returns
returns c = all_made _ (λ (k : ℕ) (y : Bool). y ≡ starts c.args.bays c.args.rules k) false 112 (λ k y q l r. search rules) _ c.from_fn.ensures.items
