-- What the caller of a search is promised, in words of plans and their prices.
use Rattle.std.specs.Prelude.{◌≡◌, ℕ, ◌<◌, ◌≤◌, Bool, true, false, ◌⊎◌, List, Some, None, Option as Maybe}
use Rattle.model.specs.Prices.{Ops}
use Rattle.model.specs.Books.{Meaning}
use Rattle.model.specs.Searched.{Below, NoneBelow}
use Rattle.refusals.specs.Numbers.{number_of}
use Rattle.search.specs.declared.answer.Planned.{Planned}
use Rattle.search.specs.declared.answer.Planned.TheVariants.{Found, NoPlan, Stopped, Refused}

-- visits within a forecast and a limit
pub record Within (f limit visits : ℕ) : Type 0 where
  pub foreseen : visits ≤ f
  pub limited : visits ≤ limit

-- the settings were allowed, and this ceiling was offered
pub record Taken {P : Type 0} (settings : Bool) (offered : Maybe P) (ceiling : P) : Type 0 where
  pub settles : settings ≡ true
  pub offers : offered ≡ Some ceiling

-- bytes begin with a plan of this price, which is below the ceiling, and no plan costs less; so not every plan costs the
-- ceiling or more
pub record Cheapest {P : Type 0} (o : Ops P) (m : Meaning P) (ceiling price : P) (bytes : List ℕ) : Type 0 where
  pub found : Below o m ceiling price bytes
  pub least : NoneBelow o m price
  pub some : NoneBelow o m ceiling → ⊥

-- Found: the bytes begin with a cheapest plan, and the price stated is its price. No plan: every plan costs the ceiling or
-- more. Either way the visits are within the forecast and the limit. Stopped: at the limit, which is below the forecast.
-- Refused: the settings were not allowed, or else the ceiling that was offered is no price.
abbrev pub Promise : {P : Type 0} → Ops P → Meaning P → Bool → Maybe P → (f limit : ℕ) → List ℕ → Planned P → Type 0
Promise {P} o m settings offered f limit bytes (Found price visits) = (ceiling : P) × Taken settings offered ceiling × Cheapest o m ceiling price bytes × Within f limit visits
Promise {P} o m settings offered f limit bytes (NoPlan visits) = (ceiling : P) × Taken settings offered ceiling × NoneBelow o m ceiling × Within f limit visits
Promise {P} o m settings offered f limit bytes (Stopped visits) = (ceiling : P) × Taken settings offered ceiling × (visits ≡ limit) × (limit < f)
Promise o m settings offered f limit bytes (Refused e) = ((settings ≡ false) × (number_of e ≡ 10)) ⊎ ((settings ≡ true) × (offered ≡ None) × (number_of e ≡ 5))
