use Rattle.std.proofs.Common.{◌≡◌, ℕ, map, ap, ◌∙◌, refl, rules}
use Rattle.std.specs.List.{range_with_len}
use Rattle.bays.proofs.Filled.{filled}
use Rattle.pickers.specs.Orders.{permutes}
use Rattle.pickers.proofs.order.Order.rising.Goals as goal

pub invariant_of-result : goal.invariant_of-result
invariant_of-result c =
    let is : c.from_fn.result ≡ map (λ (b : ℕ). b) (range_with_len 0 24) = filled _ (λ b. b) 0 24 (λ k y q h r. search rules) _ c.from_fn.ensures.items in
    record { each = ap permutes is ∙ refl }

pub returns : goal.returns
returns c = filled _ (λ b. b) 0 24 (λ k y q h r. search rules) _ c.from_fn.ensures.items
