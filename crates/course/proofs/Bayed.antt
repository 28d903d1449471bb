-- The bays of a set as a list.
use Rattle.std.proofs.Common.{◌≡◌, ℕ, zero, suc, ◌+◌, ◌*◌, ◌/◌, ◌^◌, ◌<◌, Bool, true, false, cond, not, ◌&&◌, eqb, ◌∷◌, length, sym, refl, ap, ◌∙◌, arith}
use native.Mathlib.Nat.{pow-succ'}
use lib.Count.{ones, ones_step}
use Rattle.std.specs.List.{range_with_len}
use Rattle.std.proofs.lemmas.Bool.{eqb-true, eq-eqb, both_ways}
use Rattle.model.specs.Sets.{bit, has, one, minus}
use Rattle.model.proofs.Bits.{bit_suc, bit_zero, same_set, has_minus, has_one, has_below, bit_below}
use Rattle.model.proofs.Kept.{keep_keep, keep_same, turn, member_keep, counting_in}
use Rattle.model.specs.Lists.{keep, member}
use Rattle.model.specs.Course.{drop_bay}
use Rattle.course.specs.Masks.{bays_of}
use Rattle.course.specs.Views.{mask, set_of}

pub bays_member : (m b : ℕ) → m < 2 ^ 24 → member b (bays_of m) ≡ has m b
unfolding bays_of
bays_member m b h = member_keep (has m) b (range_with_len 0 24) ∙ go (has m b) refl
  where
    go : (t : Bool) → has m b ≡ t → (t && member b (range_with_len 0 24)) ≡ t
    go true e = counting_in 0 24 b (omega arith) (omega (arith, has_below 24 m b h e))
    go false e = refl

pub drop_is : (m b : ℕ) → drop_bay b (bays_of m) ≡ bays_of (minus m (one b))
unfolding bays_of
drop_is m b =
    keep_keep (λ i. not (eqb i b)) (has m) (range_with_len 0 24)
    ∙ keep_same (λ i. has m i && not (eqb i b)) (has (minus m (one b))) (range_with_len 0 24) (λ i. sym (has_minus m (one b) i ∙ ap (λ (x : Bool). has m i && not x) (has_one b i ∙ turn b i)))

-- how many
shifted : (p : ℕ → Bool) (a n : ℕ) → length (keep p (range_with_len (a + 1) n)) ≡ length (keep (λ i. p (suc i)) (range_with_len a n))
shifted p a zero = refl
shifted p a (suc n) = ap (λ (k : ℕ). length (cond (p k) (k ∷ keep p (range_with_len (a + 1 + 1) n)) (keep p (range_with_len (a + 1 + 1) n)))) (omega arith) ∙ go (p (suc a)) (shifted p (a + 1) n)
  where
    go : (t : Bool) → length (keep p (range_with_len (a + 1 + 1) n)) ≡ length (keep (λ i. p (suc i)) (range_with_len (a + 1) n)) → length (cond t (suc a ∷ keep p (range_with_len (a + 1 + 1) n)) (keep p (range_with_len (a + 1 + 1) n))) ≡ length (cond t (a ∷ keep (λ i. p (suc i)) (range_with_len (a + 1) n)) (keep (λ i. p (suc i)) (range_with_len (a + 1) n)))
    go true e = ap suc e
    go false e = e

ones_zero : ones 0 ≡ 0
unfolding ones
ones_zero = refl

counted : (n m : ℕ) → m < 2 ^ n → length (keep (has m) (range_with_len 0 n)) ≡ ones m
counted zero m h = let z : m ≡ 0 = omega arith in sym (ap ones z ∙ ones_zero)
counted (suc n) m h =
    go (has m 0) refl (shifted (has m) 0 n ∙ ap length (keep_same (λ i. has m (suc i)) (has (m / 2)) (range_with_len 0 n) (λ i. ap (λ (x : ℕ). eqb x 1) (bit_suc m i))) ∙ counted n (m / 2) (omega (arith, pow-succ' 2 n)))
  where
    go : (t : Bool) → has m 0 ≡ t → length (keep (has m) (range_with_len 1 n)) ≡ ones (m / 2) → length (cond t (0 ∷ keep (has m) (range_with_len 1 n)) (keep (has m) (range_with_len 1 n))) ≡ ones m
    go true e ih = let b = eqb-true (bit m 0) 1 e in omega (arith, ones_step m, bit_zero m)
    go false e ih = let b : bit m 0 ≡ 1 → ⊥ = (λ s. both_ways (has m 0) e (eq-eqb (bit m 0) 1 s)) in omega (arith, ones_step m, bit_zero m)

pub bays_count : (m : ℕ) → m < 2 ^ 24 → length (bays_of m) ≡ ones m
unfolding bays_of
bays_count m h = counted 24 m h

-- a number from its digits
pub mask_small : (n : ℕ) (p : ℕ → Bool) → mask n p < 2 ^ n
mask_small zero p = omega arith
mask_small (suc n) p = go (p 0) (mask_small n (λ i. p (suc i)))
  where
    go : (t : Bool) → mask n (λ i. p (suc i)) < 2 ^ n → cond t 1 0 + 2 * mask n (λ i. p (suc i)) < 2 ^ suc n
    go true h = omega (arith, pow-succ' 2 n)
    go false h = omega (arith, pow-succ' 2 n)

pub mask_bit : (n : ℕ) (p : ℕ → Bool) (b : ℕ) → b < n → bit (mask n p) b ≡ cond (p b) 1 0
mask_bit zero p b h = absurd (omega arith)
mask_bit (suc n) p zero h = go (p 0)
  where
    go : (t : Bool) → bit (cond t 1 0 + 2 * mask n (λ i. p (suc i))) 0 ≡ cond t 1 0
    go true = omega (arith, bit_zero (1 + 2 * mask n (λ i. p (suc i))))
    go false = omega (arith, bit_zero (0 + 2 * mask n (λ i. p (suc i))))
mask_bit (suc n) p (suc b) h = bit_suc (mask (suc n) p) b ∙ ap (λ (x : ℕ). bit x b) (half (p 0)) ∙ mask_bit n (λ i. p (suc i)) b (omega arith)
  where
    half : (t : Bool) → (cond t 1 0 + 2 * mask n (λ i. p (suc i))) / 2 ≡ mask n (λ i. p (suc i))
    half true = omega arith
    half false = omega arith

bit_as : (m b : ℕ) → bit m b ≡ cond (has m b) 1 0
bit_as m b = go (has m b) refl
  where
    go : (t : Bool) → has m b ≡ t → bit m b ≡ cond t 1 0
    go true e = eqb-true (bit m b) 1 e
    go false e = let n : bit m b ≡ 1 → ⊥ = (λ s. both_ways (has m b) e (eq-eqb (bit m b) 1 s)) in omega (arith, bit_below m b)

pub set_is : (m : ℕ) (p : ℕ → Bool) → m < 2 ^ 24 → ((b : ℕ) → p b ≡ has m b) → set_of p ≡ m
unfolding set_of
set_is m p h e = same_set 24 (mask 24 p) m (mask_small 24 p) h (λ b l. mask_bit 24 p b l ∙ ap (λ (t : Bool). cond t 1 0) (e b) ∙ sym (bit_as m b))
