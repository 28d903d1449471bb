-- The set of a scope's bays, gathered from the last to the first.
use Rattle.std.specs.Prelude.{◌≡◌, ℕ, suc, ◌<◌, List, [], ◌∷◌, cond, length, reverse, slice_index, refl}
use Rattle.std.proofs.Common.{ap, ◌∙◌, arith, lt-ltb}
use Rattle.std.specs.Int.Bits.{bit_or}
use Rattle.std.specs.List.{fold}
use Rattle.std.proofs.lemmas.List.{reverse-append}
use Rattle.std.proofs.lemmas.List.Sums.{fold-append}
use Rattle.std.proofs.lemmas.Nat.{or_comm}
use Rattle.bays.specs.Made.{with_one}
use Rattle.model.specs.Sets.{one}
use Rattle.layout.specs.Meant.{mask_of}

joined : (m b : ℕ) → b < 24 → with_one m b ≡ bit_or (one b) m
joined m b h = ap (λ t. cond t (bit_or m (one b)) m) (lt-ltb b 32 (omega arith)) ∙ or_comm m (one b)

pub masked : (xs : List ℕ) → ((i : ℕ) → i < length xs → slice_index xs i < 24) → fold with_one 0 (reverse xs) ≡ mask_of xs
masked [] h = refl
masked (b ∷ xs) h =
    ap (fold with_one 0) (reverse-append (b ∷ []) xs)
    ∙ fold-append with_one 0 (reverse xs) (b ∷ [])
    ∙ joined (fold with_one 0 (reverse xs)) b (h 0 (omega arith))
    ∙ ap (bit_or (one b)) (masked xs (λ i l. h (suc i) (omega arith)))
