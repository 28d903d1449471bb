-- What `reduce` gives over a chain of numbers, where its closure's calls answer as a function does.
use Rattle.std.proofs.Common.{◌≡◌, ℕ, List, [], ◌∷◌, Option, Some, None, ap, subst}
use Rattle.std.specs.Fn.{Called}
use Rattle.std.specs.Iterator.{ReducesItems, FoldTurn}
use Rattle.std.specs.List.{FoldsTo, reduce}
use Rattle.std.proofs.lemmas.Iterator.{YieldsList}
use Rattle.std.proofs.lemmas.Iterator.Consumers.{reduce_from_yields_List}
use denote.Param.Members.{Mut}

module _ {F : Type 0} (g : Mut F (ℕ × (ℕ × Unit {0})) ℕ) (h : ℕ → ℕ → ℕ) {f : F} (computes : (a x b : ℕ) (q : F) → Called g f (a, (x, tt)) b q → (q ≡ f) × (b ≡ h a x)) where
  turned : (xs : List ℕ) (a : ℕ) (q : F) (y : ℕ) → FoldsTo {P = F × ℕ} (FoldTurn g) (f, a) xs (q, y) → FoldsTo (λ p z c. c ≡ h p z) a xs y
  turned [] a q y e = ap (λ (p : F × ℕ). p.1) e
  turned (x ∷ xs) a q y t =
      let here = computes a x t.0.1 t.0.0 t.1 in
      (t.0.1, here.1, turned xs t.0.1 q y (subst (λ (k : F). FoldsTo {P = F × ℕ} (FoldTurn g) (k, t.0.1) xs (q, y)) here.0 t.2))

  pub reduced : {S : Type 0} {steps : S → Option ℕ → S → Type 0} {s : S} {all : List ℕ} (r : Option ℕ) → ReducesItems steps g s f r → YieldsList steps (λ x. x) s all → r ≡ reduce h all
  reduced {s = s} None d road = reduce_from_yields_List h s None d road
  reduced {s = s} (Some y) t road = reduce_from_yields_List h s (Some y) (t.0, t.1, t.3, turned t.1 t.0 t.2 y t.4) road
