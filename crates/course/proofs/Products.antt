-- Products over the bays of a set, and the rules over a bay.
use Rattle.std.proofs.Common.{◌≡◌, ℕ, zero, suc, ◌*◌, Bool, true, false, cond, List, [], ◌∷◌, map, filter, fold, get_or, refl, ap, ◌∙◌, ⊎_elim, mul_assoc, mul-zero, mul-one, le-mul_of_pos_right, add-one, arith, sym}
use lib.Bits.{bit_or}
use Rattle.std.specs.List.{range_with_len}
use Rattle.std.proofs.lemmas.Bool.{cases_lt}
use Rattle.std.proofs.lemmas.List.Elements.{filter-append}
use Rattle.std.proofs.lemmas.List.FromFn.{map-range_with_len_more}
use Rattle.std.proofs.lemmas.List.Sums.{fold-append}
use Rattle.model.specs.Sets.{has}
use Rattle.model.specs.Lists.{keep, product}
use Rattle.course.specs.Masks.{bays_of, capped_cells, product_of, touched}

-- a cap on the way is the cap at the end
cap_mul : (n c : ℕ) → capped_cells (capped_cells n * c) ≡ capped_cells (n * c)
cap_mul n zero = omega (arith, mul-zero (capped_cells n), mul-zero n)
cap_mul n (suc c) =
    ⊎_elim
    (λ h. let e : capped_cells n ≡ n = omega arith in ap (λ (x : ℕ). capped_cells (x * suc c)) e)
    (λ h. omega (arith, le-mul_of_pos_right {m = suc c} (capped_cells n) (omega arith), le-mul_of_pos_right {m = suc c} n (omega arith)))
    (cases_lt n 340282366920938463463374607431768211455)

capped_fold : (f : ℕ → ℕ) (xs : List ℕ) (a : ℕ) → fold (λ c n. capped_cells (c * n)) (capped_cells a) (map f xs) ≡ capped_cells (a * product f xs)
capped_fold f [] a = ap capped_cells (sym (mul-one a))
capped_fold f (x ∷ xs) a =
    ap (λ (n : ℕ). fold (λ c n. capped_cells (c * n)) n (map f xs)) (cap_mul a (f x)) ∙ capped_fold f xs (a * f x) ∙ ap capped_cells (mul_assoc a (f x) (product f xs))

filter_keeps : (p : ℕ → Bool) (xs : List ℕ) → filter p xs ≡ keep p xs
filter_keeps p [] = refl
filter_keeps p (x ∷ xs) = ap (λ (ys : List ℕ). cond (p x) (x ∷ ys) ys) (filter_keeps p xs)

pub product_folds : (cs : List ℕ) (m : ℕ) → fold (λ c n. capped_cells (c * n)) 1 (map (λ b. get_or cs b 0) (filter (has m) (range_with_len 0 24))) ≡ capped_cells (product_of cs m)
unfolding product_of bays_of
product_folds cs m =
    capped_fold (λ b. get_or cs b 0) (filter (has m) (range_with_len 0 24)) 1
    ∙ ap (λ (xs : List ℕ). capped_cells (1 * product (λ b. get_or cs b 0) xs)) (filter_keeps (has m) (range_with_len 0 24))
    ∙ ap capped_cells (omega arith)

pub touched_folds : (scopes : ℕ → ℕ) (b n : ℕ) → fold bit_or 0 (filter (λ s. has s b) (map scopes (range_with_len 0 n))) ≡ touched scopes b n
touched_folds scopes b zero = refl
touched_folds scopes b (suc n) =
    ap (λ (xs : List ℕ). fold bit_or 0 (filter (λ s. has s b) xs)) (ap (λ (k : ℕ). map scopes (range_with_len 0 k)) (sym (add-one n)) ∙ map-range_with_len_more scopes 0 n n (omega arith))
    ∙ ap (fold bit_or 0) (filter-append (λ s. has s b) (map scopes (range_with_len 0 n)) (scopes n ∷ []))
    ∙ fold-append bit_or 0 (filter (λ s. has s b) (map scopes (range_with_len 0 n))) (filter (λ s. has s b) (scopes n ∷ []))
    ∙ ap (λ (m : ℕ). fold bit_or m (filter (λ s. has s b) (scopes n ∷ []))) (touched_folds scopes b n)
    ∙ go (has (scopes n) b)
  where
    go : (t : Bool) → fold bit_or (touched scopes b n) (cond t (scopes n ∷ []) []) ≡ cond t (bit_or (touched scopes b n) (scopes n)) (touched scopes b n)
    go true = refl
    go false = refl
