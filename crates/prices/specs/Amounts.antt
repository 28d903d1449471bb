-- Amounts up to a limit, and the two ways in which they are a price kind.
use Rattle.std.specs.Prelude.{◌≡◌, ℕ, ◌+◌, ◌≤◌, min, max, Option, nat_le}
use Rattle.std.proofs.Common.{arith}
use Rattle.model.specs.Prices.{Ops}
use Rattle.prices.specs.Offers.{accepted}
use Rattle.prices.specs.declared.upto.Upto.{Upto}

abbrev pub upto : (cap n : ℕ) → n ≤ cap → Upto cap
upto cap n h = record { number = n; within = h }

-- the amount that a number counts; the limit where the number is above it
abbrev pub capped : (cap : ℕ) → ℕ → Upto cap
capped cap n = upto cap (min n cap) (omega arith)

abbrev pub taken : (cap : ℕ) → ℕ → Option (Upto cap)
taken cap n = accepted n cap (upto cap n)

-- numbers combine in any order and grouping, with 0 as the one that changes nothing, and a larger one never gives less
pub record Combines (together : ℕ → ℕ → ℕ) : Type 0 where
  pub assoc : (a b c : ℕ) → together (together a b) c ≡ together a (together b c)
  pub comm : (a b : ℕ) → together a b ≡ together b a
  pub neutral : (a : ℕ) → together 0 a ≡ a
  pub mono : (a b c : ℕ) → a ≤ b → together a c ≤ together b c

-- combined as numbers are, capped at the limit
abbrev pub combined : (cap : ℕ) → (ℕ → ℕ → ℕ) → Ops (Upto cap)
combined cap together = record {
  free = capped cap 0;
  forbidden = capped cap cap;
  combine = λ p q. capped cap (together p.number q.number);
  at_most = λ p q. nat_le p.number q.number;
}

-- combined by addition, capped at the limit
abbrev pub sums : (cap : ℕ) → Ops (Upto cap)
sums cap = combined cap (λ m n. m + n)

-- combined by the larger
abbrev pub larger : (cap : ℕ) → Ops (Upto cap)
larger cap = combined cap max
