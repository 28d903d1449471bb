-- The price of a plan over a book.
use Rattle.std.specs.Prelude.{ℕ, zero, suc, cond, List, slice_index}
use Rattle.model.specs.Prices.{Ops}
use Rattle.model.specs.Books.{Meaning, planned}

-- the combination of the first n prices of a sequence
abbrev pub sum_below : {P : Type 0} → Ops P → (ℕ → P) → ℕ → P
sum_below o f zero = o.free
sum_below o f (suc n) = o.combine (sum_below o f n) (f n)

-- the own prices of the first n bays, and the prices of the first n rules
abbrev pub owns : {P : Type 0} → Ops P → Meaning P → List ℕ → ℕ → P
owns o m plan n = sum_below o (λ i. m.own i (slice_index plan i)) n

abbrev pub charges : {P : Type 0} → Ops P → Meaning P → List ℕ → ℕ → P
charges o m plan n = sum_below o (λ r. m.price r plan) n

-- all own prices and all rules' prices; forbidden where the bytes begin with no plan
abbrev pub plan_price : {P : Type 0} → Ops P → Meaning P → List ℕ → P
plan_price o m plan = cond (planned m plan) (o.combine (owns o m plan m.bays) (charges o m plan m.rules)) o.forbidden
