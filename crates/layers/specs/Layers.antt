-- What each layer makes of the book below it.
use Rattle.std.specs.Prelude.{ℕ, Bool, false, cond, ◌&&◌, List, Some, None, Option, ◌==◌, nat_lt, slice_index, slice_index_or}
use Rattle.model.specs.Books.{Meaning, planned}
use Rattle.model.specs.Prices.{Ops}

-- quiet hours: of each of 24 bays, the own price of every choice after its last one is forbidden
abbrev pub quiet : {P : Type 0} → Ops P → List ℕ → Meaning P → Meaning P
quiet o last m = record {
  bays = m.bays;
  rules = m.rules;
  choices = m.choices;
  own = λ i j. cond (nat_lt i 24 && nat_lt (slice_index last i) j) o.forbidden (m.own i j);
  scope = m.scope;
  price = m.price;
}

-- whether a rule of the book is suspended
abbrev pub is_off : {P : Type 0} → List Bool → Meaning P → ℕ → Bool
is_off off m r = nat_lt r m.rules && slice_index_or off r false

-- suspensions: a suspended rule has no bays, and is free under any plan
abbrev pub suspended : {P : Type 0} → Ops P → List Bool → Meaning P → Meaning P
suspended o off m = record {
  bays = m.bays;
  rules = m.rules;
  choices = m.choices;
  own = m.own;
  scope = λ r. cond (is_off off m r) 0 (m.scope r);
  price = λ r plan. cond (is_off off m r && planned m plan) o.free (m.price r plan);
}

-- the own price of a choice where a bay has this pin: forbidden if another choice is pinned
abbrev pub under_pin : {P : Type 0} → Ops P → Option ℕ → ℕ → P → P
under_pin o None j p = p
under_pin o (Some c) j p = cond (c == j) p o.forbidden

-- pins: the own price of every choice but the pinned one is forbidden
abbrev pub pinned : {P : Type 0} → Ops P → List (Option ℕ) → Meaning P → Meaning P
pinned o pins m = record {
  bays = m.bays;
  rules = m.rules;
  choices = m.choices;
  own = λ i j. under_pin o (slice_index_or pins i None) j (m.own i j);
  scope = m.scope;
  price = m.price;
}

-- whether a rule of the book is suspended, where `off` says which are
abbrev pub off_by : {P : Type 0} → (ℕ → Bool) → Meaning P → ℕ → Bool
off_by off m r = nat_lt r m.rules && off r

-- suspensions by a function: a suspended rule has no bays, and is free under any plan
abbrev pub suspended_by : {P : Type 0} → Ops P → (ℕ → Bool) → Meaning P → Meaning P
suspended_by o off m = record {
  bays = m.bays;
  rules = m.rules;
  choices = m.choices;
  own = m.own;
  scope = λ r. cond (off_by off m r) 0 (m.scope r);
  price = λ r plan. cond (off_by off m r && planned m plan) o.free (m.price r plan);
}

-- pins by a function: the own price of every choice but the pinned one is forbidden
abbrev pub pinned_by : {P : Type 0} → Ops P → (ℕ → Option ℕ) → Meaning P → Meaning P
pinned_by o pin m = record {
  bays = m.bays;
  rules = m.rules;
  choices = m.choices;
  own = λ i j. under_pin o (pin i) j (m.own i j);
  scope = m.scope;
  price = m.price;
}
