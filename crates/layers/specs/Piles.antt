-- What layers do to plans and neighbours, whatever they lie on and whatever lies on them.
use Rattle.std.specs.Prelude.{◌≡◌, ℕ, ◌<◌, ◌≤◌, Bool, true, false, List, Some, None, Option, ◌≢◌, slice_index, slice_index_or}
use Rattle.model.specs.Books.{Meaning}
use Rattle.model.specs.Course.{linked}
use Rattle.model.specs.Plans.{plan_price}
use Rattle.model.specs.Prices.{Ops, PriceLaws}
use Rattle.layers.specs.Layers.{quiet, suspended, pinned}

-- the plan has the pinned choice at each pinned bay of the book
abbrev pub KeepsPins : ℕ → List (Option ℕ) → List ℕ → Type 0
KeepsPins bays pins plan = (b c : ℕ) → b < bays → slice_index_or pins b None ≡ Some c → slice_index plan b ≡ c

-- the plan has no choice after a bay's last one
abbrev pub KeepsHours : ℕ → List ℕ → List ℕ → Type 0
KeepsHours bays last plan = (b : ℕ) → b < bays → b < 24 → slice_index plan b ≤ slice_index last b

-- no rule of the book is suspended
abbrev pub AllInForce : ℕ → List Bool → Type 0
AllInForce rules off = (r : ℕ) → r < rules → slice_index_or off r false ≡ false

-- where no layer speaks, a plan costs what it costs below
pub record Silent {P : Type 0} (o : Ops P) (m : Meaning P) (plan : List ℕ) : Type 0 where
  pub pins : (pins : List (Option ℕ)) → KeepsPins m.bays pins plan → plan_price o (pinned o pins m) plan ≡ plan_price o m plan
  pub hours : (last : List ℕ) → KeepsHours m.bays last plan → plan_price o (quiet o last m) plan ≡ plan_price o m plan
  pub rules : (off : List Bool) → AllInForce m.rules off → plan_price o (suspended o off m) plan ≡ plan_price o m plan

abbrev pub LayersSilent : Type 0 → Type 0
LayersSilent P = (o : Ops P) (m : Meaning P) (plan : List ℕ) → Silent o m plan

-- a bay of the book whose own price under the plan is forbidden
pub record Barred {P : Type 0} (o : Ops P) (m : Meaning P) (plan : List ℕ) : Type 0 where
  pub bay : ℕ
  pub there : bay < m.bays
  pub price : m.own bay (slice_index plan bay) ≡ o.forbidden

-- a plan that breaks a pin or a quiet hour is barred, stays so under any further layer, and costs the forbidden price
pub record Bars {P : Type 0} (o : Ops P) (m : Meaning P) (plan : List ℕ) : Type 0 where
  pub pin : (pins : List (Option ℕ)) (b c : ℕ) → b < m.bays → slice_index_or pins b None ≡ Some c → (slice_index plan b ≢ c) → Barred o (pinned o pins m) plan
  pub hour : (last : List ℕ) (b : ℕ) → b < m.bays → b < 24 → slice_index last b < slice_index plan b → Barred o (quiet o last m) plan
  pub under_pins : (pins : List (Option ℕ)) → Barred o m plan → Barred o (pinned o pins m) plan
  pub under_hours : (last : List ℕ) → Barred o m plan → Barred o (quiet o last m) plan
  pub under_suspensions : (off : List Bool) → Barred o m plan → Barred o (suspended o off m) plan
  pub forbids : Barred o m plan → plan_price o m plan ≡ o.forbidden

abbrev pub LayersBar : Type 0 → Type 0
LayersBar P = (o : Ops P) → PriceLaws o → (m : Meaning P) (plan : List ℕ) → Bars o m plan

-- two books that differ in one rule at most
pub record Alike {P : Type 0} (r : ℕ) (m n : Meaning P) : Type 0 where
  pub bays : m.bays ≡ n.bays
  pub rules : m.rules ≡ n.rules
  pub choices : m.choices ≡ n.choices
  pub own : m.own ≡ n.own
  pub scope : (s : ℕ) → (s ≢ r) → m.scope s ≡ n.scope s
  pub price : (s : ℕ) (plan : List ℕ) → (s ≢ r) → m.price s plan ≡ n.price s plan

-- a suspended rule changes no plan's price and makes no neighbours: whatever the rule says, all is the same
pub record Unheard {P : Type 0} (o : Ops P) (off : List Bool) (m n : Meaning P) : Type 0 where
  pub price : (plan : List ℕ) → plan_price o (suspended o off m) plan ≡ plan_price o (suspended o off n) plan
  pub neighbours : (i j : ℕ) → linked (suspended o off m) i j ≡ linked (suspended o off n) i j

abbrev pub SuspensionsSilence : Type 0 → Type 0
SuspensionsSilence P = (o : Ops P) (off : List Bool) (r : ℕ) (m n : Meaning P) → slice_index_or off r false ≡ true → Alike r m n → Unheard o off m n
