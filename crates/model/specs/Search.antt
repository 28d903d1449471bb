-- The search: each visit folds or branches a bay, and ends where the best is at most the floor.
use Rattle.std.specs.Prelude.{ℕ, zero, suc, ◌+◌, ◌-◌, Bool, true, false, ◌&&◌, ◌||◌, List, [], ◌∷◌, length, ◌==◌}
use Rattle.std.proofs.Math.Option.{Option, none, some}
use Rattle.model.specs.Prices.{Ops}
use Rattle.model.specs.Lists.{any}
use Rattle.model.specs.Course.{Passing, decide, drop_bay}
use Rattle.model.specs.Terms.{Plan, put, Term, folded, Fold, read}

-- what stays the same during a search: how bays are passed, the price kind, the bound that a visit takes for its floor,
-- and the limit of visits
pub record Setup (P : Type 0) : Type 0 where
  pub passing : Passing
  pub ops : Ops P
  pub bound : List (Term P) → List ℕ → Plan → P
  pub limit : ℕ

-- whether two bays share a term
abbrev pub share : {P : Type 0} → List (Term P) → ℕ → ℕ → Bool
share ts i j = any (λ t. t.scope i && t.scope j) ts

-- what a search has so far: its visits, its best price and the plan that has it, and whether it stopped at the limit
pub record Sofar (P : Type 0) : Type 0 where
  pub count : ℕ
  pub best : P
  pub plan : Option Plan
  pub stopped : Bool

abbrev pub halted : {P : Type 0} → Sofar P → Sofar P
halted s = record { count = s.count; best = s.best; plan = s.plan; stopped = true }

abbrev pub counted : {P : Type 0} → Sofar P → Sofar P
counted s = record { count = s.count + 1; best = s.best; plan = s.plan; stopped = s.stopped }

abbrev pub arrived : {P : Type 0} → P → Plan → Sofar P → Sofar P
arrived p π s = record { count = s.count; best = p; plan = some π; stopped = s.stopped }

-- The search stops where the count equals the limit; else the visit counts. It ends where the best is at most the
-- floor; else the rest of it follows.
abbrev pub gate : {P : Type 0} → Bool → Bool → (Sofar P → Sofar P) → Sofar P → Sofar P
gate true y rest s = halted s
gate false true rest s = counted s
gate false false rest s = rest (counted s)

abbrev pub enter : {P : Type 0} → Setup P → P → (Sofar P → Sofar P) → Sofar P → Sofar P
enter S low rest s = gate (s.stopped || s.count == S.limit) (S.ops.at_most s.best low) rest s

-- each choice in rising order
abbrev pub each : {A : Type 0} → ℕ → (ℕ → A → A) → A → A
each zero f s = s
each (suc n) f s = f n (each n f s)

-- A visit. `n` bounds how many bays are left, `ts` are the terms in force, `σ` has the choices being tried, and `folds`
-- are the bays folded so far, the newest first. Where no bay is left the floor becomes the best, and its plan is read;
-- else a bay is picked, and folded or branched.
abbrev pub visit : {P : Type 0} → Setup P → ℕ → List ℕ → List (Term P) → ℕ → Plan → List (Fold P) → Sofar P → Sofar P
visit S zero left ts unused σ folds =
    let low = S.bound ts left σ in
    enter S low (arrived low (read S.ops S.passing.choices folds σ))
visit S (suc n) left ts unused σ folds =
    let low = S.bound ts left σ in
    enter S low (elim left [
      | [] ↦ arrived low (read S.ops S.passing.choices folds σ)
      | r ∷ rs ↦
          let d = decide S.passing (share ts) unused r rs in
          let b = d.bay in
          elim d.fold [
            | true ↦ visit S n (drop_bay b (r ∷ rs)) (folded S.ops S.passing.choices b ts) (unused - d.cells) σ (record { bay = b; terms = ts } ∷ folds)
            | false ↦ each (S.passing.choices b) (λ c. visit S n (drop_bay b (r ∷ rs)) ts unused (put b c σ) folds)
          ]
    ])

-- the start of a search: the best is the ceiling
abbrev pub begun : {P : Type 0} → P → Sofar P
begun ceiling = record { count = 0; best = ceiling; plan = none; stopped = false }

-- a search of these bays under these terms
abbrev pub search : {P : Type 0} → Setup P → List ℕ → List (Term P) → ℕ → P → Sofar P
search S bays terms cells ceiling = visit S (length bays) bays terms cells (λ _. 0) [] (begun ceiling)
