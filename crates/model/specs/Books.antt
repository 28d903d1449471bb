-- What a book says, and the laws that it keeps.
use Rattle.std.specs.Prelude.{◌≡◌, ℕ, zero, suc, ◌^◌, ◌<◌, ◌≤◌, Bool, true, false, ◌&&◌, List, nat_lt, slice_index, slice_index_or}
use Rattle.model.specs.Prices.{Ops}
use Rattle.model.specs.Sets.{has}

-- its bays and rules, the choices of a bay, the own price of a bay's choice, the bays of a rule as a set, and the
-- price of a rule under a plan, one byte a bay
pub record Meaning (P : Type 0) : Type 0 where
  pub bays : ℕ
  pub rules : ℕ
  pub choices : ℕ → ℕ
  pub own : ℕ → ℕ → P
  pub scope : ℕ → ℕ
  pub price : ℕ → List ℕ → P

-- whether bytes begin with a choice for each of the first n bays; a missing byte counts as 255, which is no choice
abbrev pub begins : (ℕ → ℕ) → ℕ → List ℕ → Bool
begins choices zero plan = true
begins choices (suc n) plan = begins choices n plan && nat_lt (slice_index_or plan n 255) (choices n)

-- whether bytes begin with a plan of the book
abbrev pub planned : {P : Type 0} → Meaning P → List ℕ → Bool
planned m plan = begins m.choices m.bays plan

pub record BookLaws {P : Type 0} (o : Ops P) (m : Meaning P) : Type 0 where
  -- the limits
  pub some_bay : 1 ≤ m.bays
  pub few_bays : m.bays ≤ 24
  pub few_rules : m.rules ≤ 64
  pub some_choice : (i : ℕ) → i < m.bays → 1 ≤ m.choices i
  pub few_choices : (i : ℕ) → i < m.bays → m.choices i ≤ 8
  -- a scope names bays of the book
  pub own_bays : (r : ℕ) → m.scope r < 2 ^ m.bays
  -- what the book lacks
  pub no_bay : (i : ℕ) → m.bays ≤ i → m.choices i ≡ 0
  pub no_own : (i j : ℕ) → m.choices i ≤ j → m.own i j ≡ o.forbidden
  pub no_rule : (r : ℕ) → m.rules ≤ r → m.scope r ≡ 0
  pub no_price : (r : ℕ) (plan : List ℕ) → m.rules ≤ r → m.price r plan ≡ o.forbidden
  pub no_plan : (r : ℕ) (plan : List ℕ) → planned m plan ≡ false → m.price r plan ≡ o.forbidden
  -- a rule's price depends on its scope only
  pub local : (r : ℕ) (p q : List ℕ) → planned m p ≡ true → planned m q ≡ true → ((i : ℕ) → has (m.scope r) i ≡ true → slice_index p i ≡ slice_index q i) → m.price r p ≡ m.price r q
