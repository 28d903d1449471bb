-- Sets of bays: what a scope's set holds.
use Rattle.std.specs.Prelude.{◌≡◌, ℕ, ◌+◌, ◌-◌, ◌^◌, ◌<◌, true, List, [], ◌∷◌, length, take, drop, slice_index}
use Rattle.std.proofs.Common.{ap, ◌∙◌, arith, eqb-true, eq-eqb, pow_pos}
use Rattle.std.specs.Int.Bits.{bit_or}
use Rattle.std.proofs.lemmas.Nat.{or_lt}
use Rattle.std.proofs.Math.Pow.{pow-lt}
use Rattle.std.proofs.lemmas.List.{take_rest, length-drop, get_or-drop}
use Rattle.model.specs.Sets.{has}
use Rattle.model.proofs.Bits.{bit_of_or}
use Rattle.format.specs.House.{Rising}
use Rattle.layout.specs.Meant.{mask_of}

-- a scope without its first bay, as a slice pattern leaves it
abbrev pub rest_of : List ℕ → List ℕ
rest_of scope = take (length scope - 1) (drop 1 scope)

pub rest_length : (scope : List ℕ) → length (rest_of scope) ≡ length scope - 1
rest_length scope = ap length (take_rest scope 1) ∙ length-drop 1 scope

-- the bays after the first of a scope are as they were
pub rest_within : (scope : List ℕ) (n : ℕ) → ((i : ℕ) → i < length scope → slice_index scope i < n) → (i : ℕ) → i < length (rest_of scope) → slice_index (rest_of scope) i < n
rest_within scope n h i l = rw (take_rest scope 1, get_or-drop 1 scope i 0) (h (1 + i) (omega (arith, rest_length scope)))

-- a set that is joined to another keeps its bays
pub has_left : (m n i : ℕ) → has m i ≡ true → has (bit_or m n) i ≡ true
has_left m n i h = eq-eqb _ _ (omega (arith, bit_of_or m n i, eqb-true _ _ h))

pub has_right : (m n i : ℕ) → has n i ≡ true → has (bit_or m n) i ≡ true
has_right m n i h = eq-eqb _ _ (omega (arith, bit_of_or m n i, eqb-true _ _ h))

pub mask_below : (lo bays : ℕ) (scope : List ℕ) → Rising lo bays scope → mask_of scope < 2 ^ bays
mask_below lo bays [] r = pow_pos bays
mask_below lo bays (b ∷ scope) r = or_lt bays (2 ^ b) (mask_of scope) (pow-lt {i = b} {j = bays} r.0.1) (mask_below (b + 1) bays scope r.1)
