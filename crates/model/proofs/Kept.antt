-- What is kept of a list, and what is in it.
use Rattle.std.proofs.Common.{◌≡◌, ℕ, zero, suc, ◌+◌, ◌<◌, ◌≤◌, Bool, true, false, cond, ◌&&◌, ◌||◌, eqb, ltb, List, [], ◌∷◌, ◌++◌, length, sym, refl, ap, ◌∙◌, ⊎_elim, arith}
use mathlib.Core.Path.{fun_ext}
use Rattle.std.specs.List.{range_with_len}
use Rattle.std.proofs.lemmas.Bool.{cases_lt, eqb-true, eq-eqb, ne_eqb, lt-ltb, le-ltb, both_ways}
use Rattle.model.specs.Lists.{keep, any, member}

pub same_bools : (x y : Bool) → (x ≡ true → y ≡ true) → (y ≡ true → x ≡ true) → x ≡ y
same_bools true y f g = sym (f refl)
same_bools false true f g = g refl
same_bools false false f g = refl

pub turn : (a b : ℕ) → eqb a b ≡ eqb b a
turn a b = same_bools (eqb a b) (eqb b a) (λ e. eq-eqb b a (sym (eqb-true a b e))) (λ e. eq-eqb a b (sym (eqb-true b a e)))

pub keep_keep : (p q : ℕ → Bool) (xs : List ℕ) → keep p (keep q xs) ≡ keep (λ i. q i && p i) xs
keep_keep p q [] = refl
keep_keep p q (x ∷ xs) = go (q x) (keep_keep p q xs)
  where
    inner : (t : Bool) {ys zs : List ℕ} → ys ≡ zs → cond t (x ∷ ys) ys ≡ cond t (x ∷ zs) zs
    inner t e = ap (λ (ys : List ℕ). cond t (x ∷ ys) ys) e

    go : (t : Bool) → keep p (keep q xs) ≡ keep (λ i. q i && p i) xs → keep p (cond t (x ∷ keep q xs) (keep q xs)) ≡ cond (t && p x) (x ∷ keep (λ i. q i && p i) xs) (keep (λ i. q i && p i) xs)
    go true ih = inner (p x) ih
    go false ih = ih

pub keep_same : (p q : ℕ → Bool) (xs : List ℕ) → ((i : ℕ) → p i ≡ q i) → keep p xs ≡ keep q xs
keep_same p q xs h = ap (λ (f : ℕ → Bool). keep f xs) (fun_ext h)

pub keep_append : {A : Type 0} (p : A → Bool) (xs ys : List A) → keep p (xs ++ ys) ≡ keep p xs ++ keep p ys
keep_append p [] ys = refl
keep_append {A} p (x ∷ xs) ys = go (p x) (keep_append p xs ys)
  where
    go : (t : Bool) → keep p (xs ++ ys) ≡ keep p xs ++ keep p ys → cond t (x ∷ keep p (xs ++ ys)) (keep p (xs ++ ys)) ≡ cond t (x ∷ keep p xs) (keep p xs) ++ keep p ys
    go true ih = ap (λ (zs : List A). x ∷ zs) ih
    go false ih = ih

pub any_append : {A : Type 0} (p : A → Bool) (xs ys : List A) → any p (xs ++ ys) ≡ (any p xs || any p ys)
any_append p [] ys = refl
any_append p (x ∷ xs) ys = ap (λ (t : Bool). p x || t) (any_append p xs ys) ∙ sym (assoc (p x) (any p xs) (any p ys))
  where
    assoc : (x y z : Bool) → ((x || y) || z) ≡ (x || (y || z))
    assoc true y z = refl
    assoc false y z = refl

pub member_keep : (p : ℕ → Bool) (b : ℕ) (xs : List ℕ) → member b (keep p xs) ≡ (p b && member b xs)
member_keep p b [] = none (p b)
  where
    none : (x : Bool) → false ≡ (x && false)
    none true = refl
    none false = refl
member_keep p b (x ∷ xs) = at (eqb b x) refl (p x) refl (member_keep p b xs)
  where
    at : (e : Bool) → eqb b x ≡ e → (t : Bool) → p x ≡ t → member b (keep p xs) ≡ (p b && member b xs) → member b (cond t (x ∷ keep p xs) (keep p xs)) ≡ (p b && (e || member b xs))
    at true e true t ih = ap (λ (y : Bool). y || member b (keep p xs)) e ∙ sym (ap (λ (y : Bool). y && true) (ap p (eqb-true b x e) ∙ t))
    at true e false t ih = let f : p b ≡ false = ap p (eqb-true b x e) ∙ t in ih ∙ ap (λ (y : Bool). y && member b xs) f ∙ sym (ap (λ (y : Bool). y && true) f)
    at false e true t ih = ap (λ (y : Bool). y || member b (keep p xs)) e ∙ ih
    at false e false t ih = ih

pub keep_short : {A : Type 0} (p : A → Bool) (xs : List A) → length (keep p xs) ≤ length xs
keep_short p [] = omega arith
keep_short p (x ∷ xs) = go (p x) (keep_short p xs)
  where
    go : (t : Bool) → length (keep p xs) ≤ length xs → length (cond t (x ∷ keep p xs) (keep p xs)) ≤ suc (length xs)
    go true h = omega arith
    go false h = omega arith

-- what is taken away makes the list shorter
pub keep_fewer : (p : ℕ → Bool) (b : ℕ) (xs : List ℕ) → member b xs ≡ true → p b ≡ false → length (keep p xs) < length xs
keep_fewer p b [] m e = absurd (both_ways false refl m)
keep_fewer p b (x ∷ xs) m e = at (eqb b x) refl (p x) refl (λ k. keep_fewer p b xs k e)
  where
    at : (q : Bool) → eqb b x ≡ q → (t : Bool) → p x ≡ t → (member b xs ≡ true → length (keep p xs) < length xs) → length (cond t (x ∷ keep p xs) (keep p xs)) < suc (length xs)
    at true q true t ih = absurd (both_ways (p b) e (ap p (eqb-true b x q) ∙ t))
    at true q false t ih = let h = keep_short p xs in omega arith
    at false q true t ih = let h = ih (sym (ap (λ (y : Bool). y || member b xs) q) ∙ m) in omega arith
    at false q false t ih = let h = keep_short p xs in omega arith

pub counting_in : (a n b : ℕ) → a ≤ b → b < a + n → member b (range_with_len a n) ≡ true
counting_in a zero b l h = absurd (omega arith)
counting_in a (suc n) b l h = go (eqb b a) refl (λ k. counting_in (a + 1) n b k (omega arith))
  where
    go : (t : Bool) → eqb b a ≡ t → (a + 1 ≤ b → member b (range_with_len (a + 1) n) ≡ true) → (t || member b (range_with_len (a + 1) n)) ≡ true
    go true e ih = refl
    go false e ih = let ne : b ≡ a → ⊥ = (λ s. both_ways (eqb b a) e (eq-eqb b a s)) in ih (omega (arith, ne))

counting_below : (a n b : ℕ) → b < a → member b (range_with_len a n) ≡ false
counting_below a zero b h = refl
counting_below a (suc n) b h = ap (λ (t : Bool). t || member b (range_with_len (a + 1) n)) (ne_eqb b a (λ e. omega arith)) ∙ counting_below (a + 1) n b (omega arith)

counting_past : (a n b : ℕ) → a + n ≤ b → member b (range_with_len a n) ≡ false
counting_past a zero b h = refl
counting_past a (suc n) b h = ap (λ (t : Bool). t || member b (range_with_len (a + 1) n)) (ne_eqb b a (λ e. omega arith)) ∙ counting_past (a + 1) n b (omega arith)

-- the first n numbers
pub member_counting : (n b : ℕ) → member b (range_with_len 0 n) ≡ ltb b n
member_counting n b =
    ⊎_elim (λ l. counting_in 0 n b (omega arith) (omega arith) ∙ sym (lt-ltb b n l)) (λ g. counting_past 0 n b (omega arith) ∙ sym (le-ltb b n g)) (cases_lt b n)

pub counting_more : (a n : ℕ) → range_with_len a (suc n) ≡ range_with_len a n ++ (a + n) ∷ []
counting_more a zero = ap (λ (x : ℕ). x ∷ []) (omega arith)
counting_more a (suc n) = ap (λ (xs : List ℕ). a ∷ xs) (counting_more (a + 1) n ∙ ap (λ (x : ℕ). range_with_len (a + 1) n ++ x ∷ []) (omega arith))
