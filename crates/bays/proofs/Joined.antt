-- Which neighbours a bay has after a fold.
use Rattle.std.proofs.Common.{◌≡◌, ℕ, Bool, true, false, cond, not, ◌&&◌, ◌||◌, eqb, refl, ap, ◌∙◌}
use lib.Bits.{bit_or}
use Rattle.model.specs.Sets.{has, one, minus}
use Rattle.model.proofs.Bits.{has_or, has_minus, has_one}
use Rattle.bays.specs.Neighbours.{joined}

pub joined_has : (m near bay n k : ℕ) → has (joined m near bay n) k ≡ cond (has near n) (((has m k || has near k) && not (eqb n k)) && not (eqb bay k)) (has m k)
joined_has m near bay n k = go (has near n)
  where
    inside : has (minus (minus (bit_or m near) (one n)) (one bay)) k ≡ (((has m k || has near k) && not (eqb n k)) && not (eqb bay k))
    inside =
        has_minus (minus (bit_or m near) (one n)) (one bay) k
        ∙ ap (λ (x : Bool). x && not (has (one bay) k)) (has_minus (bit_or m near) (one n) k ∙ ap (λ (x : Bool). x && not (has (one n) k)) (has_or m near k) ∙ ap (λ (x : Bool). (has m k || has near k) && not x) (has_one n k))
        ∙ ap (λ (x : Bool). ((has m k || has near k) && not (eqb n k)) && not x) (has_one bay k)

    go : (t : Bool) → has (cond t (minus (minus (bit_or m near) (one n)) (one bay)) m) k ≡ cond t (((has m k || has near k) && not (eqb n k)) && not (eqb bay k)) (has m k)
    go true = inside
    go false = refl
