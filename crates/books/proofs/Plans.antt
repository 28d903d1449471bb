-- What a fold over bays or rules comes to, and what it takes for bytes to begin with a plan.
use Rattle.std.proofs.Common.{◌≡◌, ℕ, zero, suc, ◌+◌, ◌<◌, ◌≤◌, true, false, ◌&&◌, ltb, List, [], ◌∷◌, ◌++◌, length, get_or, take, refl, ap, length-take-le, ◌∙◌, arith, add-one, lt-ltb, le-ltb}
use Rattle.std.specs.List.{fold, range_with_len, enumerate_from}
use Rattle.std.proofs.Math.Decide.{dec_lt}
use Rattle.std.proofs.Math.Seq.{take-suc}
use Rattle.std.proofs.lemmas.List.Sums.{fold_push}
use mathlib.Core.Bool.{and-false}
use Rattle.model.proofs.Kept.{counting_more}
use Rattle.model.specs.Prices.{Ops}
use Rattle.model.specs.Books.{begins}
use Rattle.model.specs.Plans.{sum_below}

counting_next : (n : ℕ) → range_with_len 0 (suc n) ≡ range_with_len 0 n ++ n ∷ []
counting_next n = counting_more 0 n ∙ ap (λ k. range_with_len 0 n ++ k ∷ []) (omega arith)

module _ {P : Type 0} (o : Ops P) where
  pub sum_by_fold : (f : ℕ → P) (n : ℕ) → fold (λ sum i. o.combine sum (f i)) o.free (range_with_len 0 n) ≡ sum_below o f n
  sum_by_fold f zero = refl
  sum_by_fold f (suc n) =
      let add : P → ℕ → P = λ sum i. o.combine sum (f i) in
      ap (fold add o.free) (counting_next n) ∙ fold_push add o.free (range_with_len 0 n) n ∙ ap (λ sum. add sum n) (sum_by_fold f n)

  enumerate_push : (a : ℕ) (xs : List ℕ) (x : ℕ) → enumerate_from a (xs ++ x ∷ []) ≡ enumerate_from a xs ++ (a + length xs, x) ∷ []
  enumerate_push a [] x = ap (λ n. (n, x) ∷ []) (omega arith)
  enumerate_push a (y ∷ xs) x = ap (λ r. (a, y) ∷ r) (enumerate_push (a + 1) xs x ∙ ap (λ n. enumerate_from (a + 1) xs ++ (n, x) ∷ []) (omega arith))

  pub owns_by_fold : (own : ℕ → ℕ → P) (plan : List ℕ) (n : ℕ) → n ≤ length plan
      → fold (λ sum p. o.combine sum (own p.0 p.1)) o.free (enumerate_from 0 (take n plan)) ≡ sum_below o (λ i. own i (get_or plan i 0)) n
  owns_by_fold own plan zero h = refl
  owns_by_fold own plan (suc n) h =
      let add : P → ℕ × ℕ → P = λ sum p. o.combine sum (own p.0 p.1) in
      let x : ℕ = get_or plan n 0 in
      ap (λ xs. fold add o.free (enumerate_from 0 xs)) (take-suc plan n 0 (omega arith))
      ∙ ap (fold add o.free) (enumerate_push 0 (take n plan) x)
      ∙ fold_push add o.free (enumerate_from 0 (take n plan)) (0 + length (take n plan), x)
      ∙ ap (λ i. add (fold add o.free (enumerate_from 0 (take n plan))) (i, x)) (omega (arith, length-take-le n plan (omega arith)))
      ∙ ap (λ sum. add sum (n, x)) (owns_by_fold own plan n (omega arith))

-- `layout` reads plans bay by bay too
pub begins_next : (choices : ℕ → ℕ) (n : ℕ) (plan : List ℕ) → begins choices n plan ≡ true → get_or plan n 255 < choices n → begins choices (n + 1) plan ≡ true
begins_next choices n plan before here = rw add-one (ap (λ b. b && ltb (get_or plan n 255) (choices n)) before ∙ lt-ltb _ _ here)

pub begins_not : (choices : ℕ → ℕ) (n i : ℕ) (plan : List ℕ) → i < n → choices i ≤ get_or plan i 255 → begins choices n plan ≡ false
begins_not choices zero i plan h over = absurd (omega arith)
begins_not choices (suc n) i plan h over =
    elim (dec_lt i n) [
      | yes lt ↦ ap (λ b. b && ltb (get_or plan n 255) (choices n)) (begins_not choices n i plan lt over)
      | no ge ↦ (let same : n ≡ i = omega arith in let over' : choices n ≤ get_or plan n 255 = rw same over in ap (λ b. begins choices n plan && b) (le-ltb _ _ over') ∙ and-false (begins choices n plan))
    ]
