-- The members of a set.
use Rattle.std.proofs.Common.{◌≡◌, ℕ, zero, suc, ◌+◌, ◌-◌, ◌<◌, ◌≤◌, Bool, true, false, cond, ◌&&◌, eqb, List, [], ◌∷◌, ◌++◌, map, sym, refl, ap, ◌∙◌, ap₂, le_refl, arith, eq-eqb, eqb-true}
use mathlib.Core.Bool.{false≢true}
use native.Mathlib.Decide.{dec_lt}
use Rattle.std.specs.List.{range_with_len}
use Rattle.course.specs.Masks.{bays_of}
use Rattle.model.proofs.Kept.{keep_keep}
use Rattle.model.specs.Lists.{member, keep}
use Rattle.std.proofs.lemmas.Bool.{or_right}
use Rattle.search.specs.Places.{members, bays_from}

pub members_end : (p : ℕ → Bool) (b n : ℕ) → n ≤ b → members p b (n - b) ≡ []
unfolding members
members_end p b n h = let z : n - b ≡ 0 = omega arith in rw z refl

pub members_in : (p : ℕ → Bool) (b n : ℕ) → b < n → p b ≡ true → members p b (n - b) ≡ b ∷ members p (b + 1) (n - (b + 1))
unfolding members
members_in p b n h e = let z : n - b ≡ suc (n - (b + 1)) = omega arith in rw (z, e) refl

pub members_out : (p : ℕ → Bool) (b n : ℕ) → b < n → p b ≡ false → members p b (n - b) ≡ members p (b + 1) (n - (b + 1))
unfolding members
members_out p b n h e = let z : n - b ≡ suc (n - (b + 1)) = omega arith in rw (z, e) refl

pub members_sound : (p : ℕ → Bool) (i a k : ℕ) → member i (members p a k) ≡ true → (p i ≡ true) × (a ≤ i) × (i < a + k)
unfolding members
members_sound p i a zero h = absurd (false≢true h)
members_sound p i a (suc k) h = go (p a) (eqb i a) refl refl h (members_sound p i (a + 1) k)
  where
    go : (x y : Bool) → p a ≡ x → eqb i a ≡ y → member i (cond x (a ∷ members p (a + 1) k) (members p (a + 1) k)) ≡ true → (member i (members p (a + 1) k) ≡ true → (p i ≡ true) × (a + 1 ≤ i) × (i < a + 1 + k))
        → (p i ≡ true) × (a ≤ i) × (i < a + suc k)
    go true true e q h f = let z : i ≡ a = eqb-true i a q in (ap p z ∙ e, omega arith, omega arith)
    go true false e q h f = let r = f (rw q at h) in (r.0, omega (arith, r.1), omega (arith, r.2))
    go false y e q h f = let r = f h in (r.0, omega (arith, r.1), omega (arith, r.2))

pub members_complete : (p : ℕ → Bool) (i a k : ℕ) → p i ≡ true → a ≤ i → i < a + k → member i (members p a k) ≡ true
unfolding members
members_complete p i a zero e h l = absurd (omega arith)
members_complete p i a (suc k) e h l = elim (dec_lt a i) [
  | yes lt ↦ later (p a) (members_complete p i (a + 1) k e (omega arith) (omega arith))
  | no ge ↦ (let z : i ≡ a = omega arith in let pa : p a ≡ true = ap p (sym z) ∙ e in rw (pa, eq-eqb i a z) refl)
]
  where
    later : (x : Bool) → member i (members p (a + 1) k) ≡ true → member i (cond x (a ∷ members p (a + 1) k) (members p (a + 1) k)) ≡ true
    later true r = or_right (eqb i a) _ r
    later false r = r

pub members_same : (p q : ℕ → Bool) (a k : ℕ) → ((i : ℕ) → a ≤ i → i < a + k → p i ≡ q i) → members p a k ≡ members q a k
unfolding members
members_same p q a zero h = refl
members_same p q a (suc k) h = ap₂ (λ (x : Bool) (r : List ℕ). cond x (a ∷ r) r) (h a (le_refl a) (omega arith)) (members_same p q (a + 1) k (λ i l u. h i (omega arith) (omega arith)))

pub keep_members : (q p : ℕ → Bool) (a k : ℕ) → keep q (members p a k) ≡ members (λ i. p i && q i) a k
unfolding members
keep_members q p a k = keep_keep q p (range_with_len a k)

-- the bays of a set are the course's
pub bays_same : (m : ℕ) → bays_from m 0 ≡ bays_of m
unfolding members bays_of
bays_same m = refl

pub map_members : {A : Type 0} (f g : ℕ → A) (p : ℕ → Bool) (a k : ℕ) → ((i : ℕ) → p i ≡ true → a ≤ i → i < a + k → f i ≡ g i) → map f (members p a k) ≡ map g (members p a k)
unfolding members
map_members f g p a zero h = refl
map_members f g p a (suc k) h = go (p a) refl (map_members f g p (a + 1) k (λ i e l u. h i e (omega arith) (omega arith)))
  where
    go : (x : Bool) → p a ≡ x → map f (members p (a + 1) k) ≡ map g (members p (a + 1) k) → map f (cond x (a ∷ members p (a + 1) k) (members p (a + 1) k)) ≡ map g (cond x (a ∷ members p (a + 1) k) (members p (a + 1) k))
    go true e r = ap₂ ◌∷◌ (h a e (le_refl a) (omega arith)) r
    go false e r = r

pub keep_map : {A : Type 0} (q : A → Bool) (f : ℕ → A) (xs : List ℕ) → keep q (map f xs) ≡ map f (keep (λ x. q (f x)) xs)
keep_map q f [] = refl
keep_map {A = A} q f (x ∷ xs) = go (q (f x)) (keep_map q f xs)
  where
    go : (y : Bool) → keep q (map f xs) ≡ map f (keep (λ x. q (f x)) xs) → cond y (f x ∷ keep q (map f xs)) (keep q (map f xs)) ≡ map f (cond y (x ∷ keep (λ x. q (f x)) xs) (keep (λ x. q (f x)) xs))
    go true e = ap (λ (l : List A). f x ∷ l) e
    go false e = e

none_from : (p : ℕ → Bool) (a k : ℕ) → ((i : ℕ) → a ≤ i → p i ≡ false) → members p a k ≡ []
unfolding members
none_from p a zero h = refl
none_from p a (suc k) h = rw (h a (le_refl a)) (none_from p (a + 1) k (λ i l. h i (omega arith)))

-- a number joins after all others
pub members_add : (p q : ℕ → Bool) (n a k : ℕ) → a ≤ n → n < a + k → p n ≡ true → ((i : ℕ) → i < n → p i ≡ q i) → ((i : ℕ) → n < i → p i ≡ false) → ((i : ℕ) → n ≤ i → q i ≡ false) → members p a k ≡ members q a k ++ (n ∷ [])
unfolding members
members_add p q n a zero l u e old new none = absurd (omega arith)
members_add p q n a (suc k) l u e old new none = elim (dec_lt a n) [
  | yes lt ↦ go (q a) (p a) (old a lt) (members_add p q n (a + 1) k (omega arith) (omega arith) e old new none)
  | no ge ↦ (let z : n ≡ a = omega arith in
      let pa : p a ≡ true = ap p (sym z) ∙ e in
      let qa : q a ≡ false = none a (omega arith) in
      rw (pa, qa) (ap₂ (λ (x : ℕ) (r : List ℕ). x ∷ r) (sym z) (none_from p (a + 1) k (λ i h. new i (omega arith))) ∙ sym (ap (λ (r : List ℕ). r ++ (n ∷ [])) (none_from q (a + 1) k (λ i h. none i (omega arith))))))
]
  where
    go : (y x : Bool) → x ≡ y → members p (a + 1) k ≡ members q (a + 1) k ++ (n ∷ []) → cond x (a ∷ members p (a + 1) k) (members p (a + 1) k) ≡ cond y (a ∷ members q (a + 1) k) (members q (a + 1) k) ++ (n ∷ [])
    go true x s r = rw s (ap (λ (r : List ℕ). a ∷ r) r)
    go false x s r = rw s r
