-- When one term stands for another, while some bays are set: a table may stand for the terms that it was made of.
use Rattle.std.specs.Prelude.{◌≡◌, ℕ, ◌<◌, true, List, [], ◌∷◌}
use Rattle.model.specs.Lists.{member}
use Rattle.model.specs.Terms.{Plan, Term, floor, Legal, Completes, Fold, read}
use Rattle.model.specs.Search.{Setup, Sofar, visit}

-- u touches the bays left as t does, and has t's price at each legal completion of σ
pub record Stands {P : Type 0} (choices : ℕ → ℕ) (bays left : List ℕ) (σ : Plan) (u t : Term P) : Type 0 where
  pub touches : (i : ℕ) → member i left ≡ true → u.scope i ≡ t.scope i
  pub agrees : (π : Plan) → Legal choices bays π → Completes left σ π → u.value π ≡ t.value π

-- each term of a list stands for its fellow of another
pub data AllStand {P : Type 0} (choices : ℕ → ℕ) (bays left : List ℕ) (σ : Plan) : List (Term P) → List (Term P) → Type 0 where
  none_left : AllStand choices bays left σ [] []
  and_stand : {u t : Term P} {us ts : List (Term P)} → Stands choices bays left σ u t → AllStand choices bays left σ us ts → AllStand choices bays left σ (u ∷ us) (t ∷ ts)

-- folds that are read alike from each legal completion of σ
abbrev pub ReadAlike : {P : Type 0} → Setup P → (bays left : List ℕ) → Plan → List (Fold P) → List (Fold P) → Type 0
ReadAlike S bays left σ fu ft =
    (π : Plan) → Legal S.passing.choices bays π → Completes left σ π → read S.ops S.passing.choices fu π ≡ read S.ops S.passing.choices ft π

-- a visit with terms that stand for others, and folds that are read alike, is the visit with those
abbrev pub VisitServes : Type 0 → Type 0
VisitServes P = (S : Setup P) → S.bound ≡ floor S.ops S.passing.choices → (bays : List ℕ) → ((i : ℕ) → member i bays ≡ true → 0 < S.passing.choices i)
    → (n : ℕ) (left : List ℕ) → ((i : ℕ) → member i left ≡ true → member i bays ≡ true) → (us ts : List (Term P)) (unused : ℕ) (σ : Plan) (fu ft : List (Fold P))
    → Legal S.passing.choices bays σ → AllStand S.passing.choices bays left σ us ts → ReadAlike S bays left σ fu ft
    → (s : Sofar P) → visit S n left us unused σ fu s ≡ visit S n left ts unused σ ft s
