-- An array that is made by a function of the index.
use Rattle.std.proofs.Common.{◌≡◌, ℕ, zero, suc, ◌+◌, ◌<◌, ◌≤◌, List, map, get_or, sym, subst, ⊎_elim, arith}
use Rattle.std.specs.List.{range_with_len}
use Rattle.std.specs.Fn.{Called}
use Rattle.std.specs.Array.{IsFromFnResult, IsFromFnResultFrom}
use Rattle.std.proofs.lemmas.Bool.{cases_lt}
use Rattle.std.proofs.lemmas.List.FromFn.{fill_by_all}
use denote.Param.Members.{Mut}

-- what holds of each element and its index
module _ {F B : Type 0} (g : Mut F (ℕ × Unit {0}) B) (Q : ℕ → B → Type 0) (d : B) {f : F} (top : ℕ) (gives : (k : ℕ) (y : B) (q : F) → k < top → Called g f (k, tt) y q → (q ≡ f) × Q k y) where
  each_has : (ys : List B) (n i : ℕ) → i + n ≡ top → IsFromFnResultFrom g f ys i n → (k : ℕ) → i ≤ k → k < top → Q k (get_or ys k d)
  each_has ys zero i t r k low high = absurd (omega arith)
  each_has ys (suc n) i t r k low high =
      let here = gives i r.1 r.0 (omega arith) r.3 in
      ⊎_elim
      (λ lt. each_has ys n (i + 1) (omega arith) (subst (λ q. IsFromFnResultFrom g q ys (i + 1) n) here.0 r.4) k (omega arith) high)
      (λ ge. let e : i ≡ k = omega arith in subst (λ (x : ℕ). Q x (get_or ys x d)) e (subst (Q i) (sym (r.2.1 d)) here.1))
      (cases_lt i k)

  pub all_made : (ys : List B) → IsFromFnResult g f ys top → (k : ℕ) → k < top → Q k (get_or ys k d)
  all_made ys made k l = each_has ys top 0 (omega arith) made.each k (omega arith) l

-- each element is the function's value at its index
module _ {F B : Type 0} (g : Mut F (ℕ × Unit {0}) B) (h : ℕ → B) (d : B) {f : F} (top : ℕ) (gives : (k : ℕ) (y : B) (q : F) → k < top → Called g f (k, tt) y q → (q ≡ f) × (y ≡ h k)) where
  pub filled : (ys : List B) → IsFromFnResult g f ys top → ys ≡ map h (range_with_len 0 top)
  filled ys made = fill_by_all h ys top d made.long (all_made g (λ k y. y ≡ h k) d top gives ys made)
