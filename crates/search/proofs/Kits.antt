-- Small steps on tests and lists.
use Rattle.std.proofs.Common.{◌≡◌, Bool, true, false, Some, None, Option as Maybe, ap}
use Rattle.std.specs.Prelude.{MatchOption, IsSomeAnd}
use Rattle.std.specs.Option.{option_map}
use Rattle.std.proofs.lemmas.Bool.{both_ways}

pub clash : {A : Type 0} {t : Bool} → t ≡ true → t ≡ false → A
clash {t = t} p q = absurd (both_ways t q p)

-- what is mapped by a function that has one answer
pub mapped : {A B : Type 0} (f : A → B) (P : A → B → Type 0) → ((x : A) (y : B) → P x y → y ≡ f x) → (t : Maybe A) (r : Maybe B) → MatchOption t (r ≡ None) (λ x. IsSomeAnd r (P x)) → r ≡ option_map f t
mapped f P one None r h = h
mapped f P one (Some x) None h = absurd h
mapped f P one (Some x) (Some y) h = ap Some (one x y h)
