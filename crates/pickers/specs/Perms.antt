-- Orders of the bays, and the sets of their numbers.
use Rattle.std.specs.Prelude.{◌≡◌, ℕ, zero, suc, ◌+◌, ◌^◌, ◌<◌, ◌≤◌, Bool, true, false, cond, ◌&&◌, ◌||◌, ◌⊎◌, List, [], ◌∷◌, ◌++◌, reverse, Some, None, find, unwrap_or, length, filter, fold, ◌==◌, bit_or, nat_eq, nat_lt}
use Rattle.std.proofs.Math.Path.{refl, ap}
use Rattle.std.proofs.Common.{sym, subst, ◌∙◌, inl, ⊎_elim, arith, pow_pos}
use Rattle.std.proofs.Math.Logic.{inr}
use Rattle.std.specs.Int.Count.{count_trailing_zeros}
use Rattle.std.proofs.lemmas.Bool.{cases_lt, and_parts, and_from, and_right, or_cases, both_ways, eqb-true, eq-eqb, ne_eqb, ltb-true, ltb-false, lt-ltb}
use Rattle.std.proofs.lemmas.List.{reverse-append}
use Rattle.std.proofs.lemmas.Nat.{pow_below, or_lt}
use Rattle.model.specs.Lists.{member, times}
use Rattle.model.specs.Sets.{bit, has, one}
use Rattle.model.proofs.Bits.{has_or, has_one, has_none, has_below, full_bit, same_set, some_bay}
use Rattle.model.proofs.Kept.{same_bools, turn}
use Rattle.bays.specs.Made.{with_one}
use Rattle.pickers.specs.Gathered.{mask_in}
use Rattle.pickers.specs.Orders.{every, permutes, later, last_in, NoneRemains, Last}

pub every_from : (n : ℕ) (p : ℕ → Bool) → ((b : ℕ) → b < n → p b ≡ true) → every n p ≡ true
every_from zero p h = refl
every_from (suc n) p h = and_from (p n) (every n p) (h n (omega arith)) (every_from n p (λ b l. h b (omega arith)))

pub every_at : (n : ℕ) (p : ℕ → Bool) → every n p ≡ true → (b : ℕ) → b < n → p b ≡ true
every_at zero p h b l = absurd (omega arith)
every_at (suc n) p h b l =
    let parts = and_parts (p n) (every n p) h in
    ⊎_elim (λ lt. every_at n p parts.1 b lt) (λ ge. let e : n ≡ b = omega arith in subst (λ (x : ℕ). p x ≡ true) e parts.0) (cases_lt b n)

-- what has been gathered
abbrev gathered : ℕ → List ℕ → ℕ
gathered m xs = fold with_one m (filter (λ x. nat_lt x 24) xs)

with_has : (m x b : ℕ) → x < 24 → has (with_one m x) b ≡ (has m b || b == x)
with_has m x b h = ap (λ (t : Bool). has (cond t (bit_or m (one x)) m) b) (lt-ltb x 32 (omega arith)) ∙ has_or m (one x) b ∙ ap (λ (y : Bool). has m b || y) (has_one x b ∙ turn x b)

gathered_has : (xs : List ℕ) (m b : ℕ) → b < 24 → has (gathered m xs) b ≡ (has m b || member b xs)
gathered_has [] m b h = or_none (has m b)
  where
    or_none : (y : Bool) → y ≡ (y || false)
    or_none true = refl
    or_none false = refl
gathered_has (x ∷ xs) m b h = go (nat_lt x 24) refl (gathered_has xs (with_one m x) b h) (gathered_has xs m b h)
  where
    assoc : (x y z : Bool) → ((x || y) || z) ≡ (x || (y || z))
    assoc true y z = refl
    assoc false y z = refl

    go : (t : Bool) → nat_lt x 24 ≡ t → has (gathered (with_one m x) xs) b ≡ (has (with_one m x) b || member b xs) → has (gathered m xs) b ≡ (has m b || member b xs)
        → has (fold with_one m (cond t (x ∷ filter (λ x. nat_lt x 24) xs) (filter (λ x. nat_lt x 24) xs))) b ≡ (has m b || (b == x || member b xs))
    go true e with it = with ∙ ap (λ (y : Bool). y || member b xs) (with_has m x b (ltb-true x 24 e)) ∙ assoc (has m b) (b == x) (member b xs)
    go false e with it = let g = ltb-false x 24 e in it ∙ ap (λ (y : Bool). has m b || (y || member b xs)) (sym (ne_eqb b x (λ p. omega arith)))

gathered_small : (xs : List ℕ) (m : ℕ) → m < 2 ^ 24 → gathered m xs < 2 ^ 24
gathered_small [] m h = h
gathered_small (x ∷ xs) m h = go (nat_lt x 24) refl (gathered_small xs (with_one m x)) (gathered_small xs m h)
  where
    with_small : (t : Bool) → x < 24 → cond t (bit_or m (one x)) m < 2 ^ 24
    with_small true l = or_lt 24 m (one x) h (pow_below x 24 l)
    with_small false l = h

    go : (t : Bool) → nat_lt x 24 ≡ t → (with_one m x < 2 ^ 24 → gathered (with_one m x) xs < 2 ^ 24) → gathered m xs < 2 ^ 24
        → fold with_one m (cond t (x ∷ filter (λ x. nat_lt x 24) xs) (filter (λ x. nat_lt x 24) xs)) < 2 ^ 24
    go true e with it = with (with_small (nat_lt x 32) (ltb-true x 24 e))
    go false e with it = it

pub full_is : (xs : List ℕ) → (mask_in xs == 16777215) ≡ every 24 (λ b. member b xs)
full_is xs = same_bools (mask_in xs == 16777215) (every 24 (λ b. member b xs)) forth back
  where
    at : (b : ℕ) → b < 24 → has (mask_in xs) b ≡ member b xs
    at b h = gathered_has xs 0 b h ∙ ap (λ (y : Bool). y || member b xs) (has_none b)

    forth : nat_eq (mask_in xs) 16777215 ≡ true → every 24 (λ b. member b xs) ≡ true
    forth e = every_from 24 (λ b. member b xs) (λ b h. sym (at b h) ∙ ap (λ (m : ℕ). has m b) (eqb-true (mask_in xs) 16777215 e) ∙ eq-eqb (bit 16777215 b) 1 (full_bit 24 b h))

    back : every 24 (λ b. member b xs) ≡ true → (mask_in xs == 16777215) ≡ true
    back e = eq-eqb (mask_in xs) 16777215 (same_set 24 (mask_in xs) 16777215 (gathered_small xs 0 (pow_pos 24)) (lib.Dec.lit< tt)
        (λ b h. eqb-true (bit (mask_in xs) b) 1 (at b h ∙ every_at 24 (λ b. member b xs) e b h) ∙ sym (full_bit 24 b h)))

-- the last that remains
module _ (m : ℕ) (small : m < 2 ^ 24) where
  -- what is found in a list: the last bay that remains, or that none does
  Found : List ℕ → ℕ → ℕ → Type 0
  Found xs d b = Last m xs b ⊎ (NoneRemains m xs × (b ≡ d))

  later_is : (d x : ℕ) → later m d x ≡ cond (has m x) x d
  later_is d x = go (has m x) refl
    where
      go : (t : Bool) → has m x ≡ t → cond (nat_lt x 24 && t) x d ≡ cond t x d
      go true e = ap (λ (y : Bool). cond (y && true) x d) (lt-ltb x 24 (has_below 24 m x small e))
      go false e = ap (λ (y : Bool). cond y x d) (and_right (nat_lt x 24) false refl)

  seek : (xs : List ℕ) (d : ℕ) → Found xs d (last_in m xs d)
  unfolding Found
  seek [] d = inr (tt, refl)
  seek (x ∷ xs) d = go (has m x) refl (seek xs (later m d x))
    where
      further : (b : ℕ) → Last m xs b → Last m (x ∷ xs) b
      further b l = record { before = x ∷ l.before; after = l.after; stands = ap (λ (ys : List ℕ). x ∷ ys) l.stands; remains = l.remains; none = l.none }

      go : (t : Bool) → has m x ≡ t → Found xs (later m d x) (last_in m xs (later m d x)) → Found (x ∷ xs) d (last_in m xs (later m d x))
      go t e (inl l) = inl (further _ l)
      go true e (inr n) =
          let b : last_in m xs (later m d x) ≡ x = n.1 ∙ later_is d x ∙ ap (λ (y : Bool). cond y x d) e in
          inl (record { before = []; after = xs; stands = ap (λ (y : ℕ). y ∷ xs) (sym b); remains = ap (has m) b ∙ e; none = n.0 })
      go false e (inr n) = inr ((e, n.0), n.1 ∙ later_is d x ∙ ap (λ (y : Bool). cond y x d) e)

  none_of : (b : ℕ) (xs : List ℕ) → NoneRemains m xs → member b xs ≡ true → has m b ≡ false
  none_of b [] n e = absurd (both_ways false refl e)
  none_of b (x ∷ xs) n e =
      ⊎_elim (λ s. ap (has m) (eqb-true b x s) ∙ n.0) (λ s. none_of b xs n.1 s) (or_cases (b == x) (member b xs) e)

-- 24 places for 24 numbers
abbrev total : ℕ → (ℕ → ℕ) → ℕ
total zero f = 0
total (suc n) f = total n f + f n

total_add : (n : ℕ) (f g : ℕ → ℕ) → total n (λ b. f b + g b) ≡ total n f + total n g
total_add zero f g = refl
total_add (suc n) f g = omega (arith, total_add n f g)

total_none : (n x : ℕ) → n ≤ x → total n (λ b. cond (b == x) 1 0) ≡ 0
total_none zero x h = refl
total_none (suc n) x h = omega (arith, total_none n x (omega arith), ap {B = ℕ} (λ (t : Bool). cond t 1 0) (ne_eqb n x (λ e. omega arith)))

total_one : (n x : ℕ) → total n (λ b. cond (b == x) 1 0) ≤ 1
total_one zero x = omega arith
total_one (suc n) x = go (n == x) refl (total_one n x)
  where
    go : (t : Bool) → (n == x) ≡ t → total n (λ b. cond (b == x) 1 0) ≤ 1 → total n (λ b. cond (b == x) 1 0) + cond t 1 0 ≤ 1
    go true e ih = omega (arith, total_none n x (omega (arith, eqb-true n x e)))
    go false e ih = omega arith

total_times : (n : ℕ) (xs : List ℕ) → total n (λ b. times b xs) ≤ length xs
total_times n [] = nothing n
  where
    nothing : (n : ℕ) → total n (λ b. 0) ≤ 0
    nothing zero = omega arith
    nothing (suc n) = omega (arith, nothing n)
total_times n (x ∷ xs) = omega (arith, total_add n (λ b. cond (b == x) 1 0) (λ b. times b xs), total_one n x, total_times n xs)

total_least : (n : ℕ) (f : ℕ → ℕ) → ((b : ℕ) → b < n → 1 ≤ f b) → n ≤ total n f
total_least zero f h = omega arith
total_least (suc n) f h = omega (arith, total_least n f (λ b l. h b (omega arith)), h n (omega arith))

each_one : (n : ℕ) (f : ℕ → ℕ) → ((b : ℕ) → b < n → 1 ≤ f b) → total n f ≤ n → (b : ℕ) → b < n → f b ≡ 1
each_one zero f h t b l = absurd (omega arith)
each_one (suc n) f h t b l =
    let low : n ≤ total n f = total_least n f (λ c k. h c (omega arith)) in
    let here : f n ≡ 1 = omega (arith, h n (omega arith)) in
    ⊎_elim (λ lt. each_one n f (λ c k. h c (omega arith)) (omega arith) b lt) (λ ge. let e : n ≡ b = omega arith in subst (λ (x : ℕ). f x ≡ 1) e here) (cases_lt b n)

some_times : (b : ℕ) (xs : List ℕ) → member b xs ≡ true → 1 ≤ times b xs
some_times b [] e = absurd (both_ways false refl e)
some_times b (x ∷ xs) e = go (b == x) e (some_times b xs)
  where
    go : (t : Bool) → (t || member b xs) ≡ true → (member b xs ≡ true → 1 ≤ times b xs) → 1 ≤ cond t 1 0 + times b xs
    go true e ih = omega arith
    go false e ih = omega (arith, ih e)

times_some : (b : ℕ) (xs : List ℕ) → 1 ≤ times b xs → member b xs ≡ true
times_some b [] h = absurd (omega arith)
times_some b (x ∷ xs) h = go (b == x) h (times_some b xs)
  where
    go : (t : Bool) → 1 ≤ cond t 1 0 + times b xs → (1 ≤ times b xs → member b xs ≡ true) → (t || member b xs) ≡ true
    go true h ih = refl
    go false h ih = ih (omega arith)

pub once_is : (xs : List ℕ) → length xs ≡ 24 → every 24 (λ b. member b xs) ≡ every 24 (λ b. nat_eq (times b xs) 1)
once_is xs e = same_bools (every 24 (λ b. member b xs)) (every 24 (λ b. nat_eq (times b xs) 1))
    (λ h. every_from 24 (λ b. nat_eq (times b xs) 1) (λ b l. eq-eqb (times b xs) 1 (each_one 24 (λ b. times b xs) (λ c k. some_times c xs (every_at 24 (λ b. member b xs) h c k)) (omega (arith, total_times 24 xs)) b l)))
    (λ h. every_from 24 (λ b. member b xs) (λ b l. held xs h b l))
  where
    held : (xs : List ℕ) → every 24 (λ b. nat_eq (times b xs) 1) ≡ true → (b : ℕ) → b < 24 → member b xs ≡ true
    held xs h b l = times_some b xs (omega (arith, eqb-true (times b xs) 1 (every_at 24 (λ b. nat_eq (times b xs) 1) h b l)))

-- an order has a bay that remains, so it finds the last
pub order_last : (xs : List ℕ) → permutes xs ≡ true → (m : ℕ) → 0 < m → m < 2 ^ 24 → Last m xs (last_in m xs 0)
unfolding Found
order_last xs e m p q =
    let b = count_trailing_zeros 24 m in
    let h = some_bay m p q in
    let l = has_below 24 m b q h in
    let once = (and_parts (length xs == 24) (every 24 (λ b. nat_eq (times b xs) 1)) e).1 in
    let there : member b xs ≡ true = times_some b xs (omega (arith, eqb-true (times b xs) 1 (every_at 24 (λ b. nat_eq (times b xs) 1) once b l))) in
    ⊎_elim (λ f. f) (λ n. absurd (both_ways (has m b) (none_of m q b xs n.0 there) h)) (seek m q xs 0)

pub permutes_is : (xs : List ℕ) → length xs ≡ 24 → permutes xs ≡ (mask_in xs == 16777215)
permutes_is xs e = ap (λ (t : Bool). t && every 24 (λ b. nat_eq (times b xs) 1)) (eq-eqb (length xs) 24 e) ∙ sym (full_is xs ∙ once_is xs e)

-- an order has no number past 23
abbrev Small : List ℕ → Type 0
Small [] = Unit {0}
Small (x ∷ xs) = (x < 24) × Small xs

small_from : (xs : List ℕ) → length xs ≤ total 24 (λ b. times b xs) → Small xs
small_from [] h = tt
small_from (x ∷ xs) h = ⊎_elim
    (λ l. (l, small_from xs (omega (arith, total_add 24 (λ b. cond (b == x) 1 0) (λ b. times b xs), total_one 24 x))))
    (λ g. absurd (omega (arith, total_add 24 (λ b. cond (b == x) 1 0) (λ b. times b xs), total_none 24 x g, total_times 24 xs)))
    (cases_lt x 24)

order_small : (xs : List ℕ) → permutes xs ≡ true → Small xs
order_small xs e =
    let parts = and_parts (length xs == 24) (every 24 (λ b. nat_eq (times b xs) 1)) e in
    small_from xs (omega (arith, eqb-true (length xs) 24 parts.0, total_least 24 (λ b. times b xs) (λ b l. omega (arith, eqb-true (times b xs) 1 (every_at 24 (λ b. nat_eq (times b xs) 1) parts.1 b l)))))

-- the last that remains is the first from the back
from_back : (m : ℕ) (xs : List ℕ) (d : ℕ) → Small xs → last_in m xs d ≡ unwrap_or (find (has m) (reverse xs)) d
from_back m [] d s = refl
from_back m (x ∷ xs) d s =
    from_back m xs (later m d x) s.1
    ∙ sym (ap (λ (ys : List ℕ). unwrap_or (find (has m) ys) d) (reverse-append (x ∷ []) xs) ∙ pushed (reverse xs))
  where
    pushed : (ys : List ℕ) → unwrap_or (find (has m) (ys ++ x ∷ [])) d ≡ unwrap_or (find (has m) ys) (later m d x)
    pushed [] = go (has m x) ∙ sym (ap (λ (t : Bool). cond (t && has m x) x d) (lt-ltb x 24 s.0))
      where
        go : (t : Bool) → unwrap_or (cond t (Some x) None) d ≡ cond (true && t) x d
        go true = refl
        go false = refl
    pushed (y ∷ ys) = go (has m y) (pushed ys)
      where
        go : (t : Bool) → unwrap_or (find (has m) (ys ++ x ∷ [])) d ≡ unwrap_or (find (has m) ys) (later m d x) → unwrap_or (cond t (Some y) (find (has m) (ys ++ x ∷ []))) d ≡ unwrap_or (cond t (Some y) (find (has m) ys)) (later m d x)
        go true e = refl
        go false e = e

pub last_from_back : (m : ℕ) (xs : List ℕ) → permutes xs ≡ true → (d : ℕ) → last_in m xs d ≡ unwrap_or (find (has m) (reverse xs)) d
last_from_back m xs e d = from_back m xs d (order_small xs e)
