-- Sets of bays as numbers: which bays are in what the operations give.
use Rattle.std.proofs.Common.{◌≡◌, ℕ, zero, suc, ◌+◌, ◌-◌, ◌/◌, ◌%◌, ◌^◌, ◌<◌, ◌≤◌, min, max, Bool, true, false, not, ◌&&◌, ◌||◌, eqb, sym, refl, ap, ◌∙◌, ⊎_elim, arith, pow_pos, pow_mono}
use native.Mathlib.Nat.{pow-succ', div-div-eq-div-mul, div-eq_of_lt, zero-div}
use lib.Bits.{bit_and, bit_or, bit_xor, differ, and_step, or_step, xor_step, and_shr, or_shr, xor_shr, and_zero_r, xor_zero_r}
use lib.Count.{ones, ones_step, count_trailing_zeros, under}
use Rattle.std.proofs.lemmas.Nat.{xor_lt, and_le_l}
use Rattle.std.proofs.lemmas.Bool.Decides.{nat_tests}
use Rattle.std.proofs.lemmas.Bool.{cases_eq, cases_lt, eq-eqb, eqb-true, ne_eqb}
use Rattle.model.specs.Sets.{bit, has, one, minus}

low_and : (x y : ℕ) → bit_and x y % 2 ≡ min (x % 2) (y % 2)
low_and x y = omega (arith, and_step x y)

low_or : (x y : ℕ) → bit_or x y % 2 ≡ max (x % 2) (y % 2)
low_or x y = omega (arith, or_step x y)

pub bit_of_and : (m n b : ℕ) → bit (bit_and m n) b ≡ min (bit m b) (bit n b)
bit_of_and m n b = ap (λ (x : ℕ). x % 2) (and_shr m n b) ∙ low_and (m / 2 ^ b) (n / 2 ^ b)

pub bit_of_or : (m n b : ℕ) → bit (bit_or m n) b ≡ max (bit m b) (bit n b)
bit_of_or m n b = ap (λ (x : ℕ). x % 2) (or_shr m n b) ∙ low_or (m / 2 ^ b) (n / 2 ^ b)

pub bit_below : (m b : ℕ) → bit m b < 2
bit_below m b = omega arith

differ_is : (x y : ℕ) → x < 2 → y < 2 → differ x y ≡ (x - y) + (y - x)
differ_is zero zero p q = refl
differ_is zero (suc zero) p q = refl
differ_is zero (suc (suc y)) p q = omega arith
differ_is (suc zero) zero p q = refl
differ_is (suc zero) (suc zero) p q = refl
differ_is (suc zero) (suc (suc y)) p q = omega arith
differ_is (suc (suc x)) y p q = omega arith

low_xor : (x y : ℕ) → bit_xor x y % 2 ≡ (x % 2 - y % 2) + (y % 2 - x % 2)
low_xor x y = omega (arith, xor_step x y, differ_is (x % 2) (y % 2) (omega arith) (omega arith))

pub bit_of_xor : (m n b : ℕ) → bit (bit_xor m n) b ≡ (bit m b - bit n b) + (bit n b - bit m b)
bit_of_xor m n b = ap (λ (x : ℕ). x % 2) (xor_shr m n b) ∙ low_xor (m / 2 ^ b) (n / 2 ^ b)

pub bit_minus : (m g b : ℕ) → bit (minus m g) b ≡ bit m b - bit g b
bit_minus m g b = omega (arith, bit_of_xor m (bit_and m g) b, bit_of_and m g b)

-- the same as tests
pub has_or : (m n b : ℕ) → has (bit_or m n) b ≡ (has m b || has n b)
has_or m n b = grind (arith, nat_tests, bit_of_or m n b)

pub has_and : (m n b : ℕ) → has (bit_and m n) b ≡ (has m b && has n b)
has_and m n b = grind (arith, nat_tests, bit_of_and m n b)

pub has_minus : (m g b : ℕ) → has (minus m g) b ≡ (has m b && not (has g b))
has_minus m g b = grind (arith, nat_tests, bit_minus m g b)

-- one digit down
pub bit_suc : (m b : ℕ) → bit m (suc b) ≡ bit (m / 2) b
bit_suc m b = ap (λ (x : ℕ). m / x % 2) (pow-succ' 2 b) ∙ ap (λ (x : ℕ). x % 2) (sym (div-div-eq-div-mul m 2 (2 ^ b)))

pub bit_zero : (m : ℕ) → bit m zero ≡ m % 2
bit_zero m = omega arith

half_pow : (a : ℕ) → 2 ^ suc a / 2 ≡ 2 ^ a
half_pow a = omega (arith, pow-succ' 2 a)

pub bit_one_same : (a : ℕ) → bit (one a) a ≡ 1
bit_one_same zero = refl
bit_one_same (suc a) = bit_suc (2 ^ suc a) a ∙ ap (λ (x : ℕ). bit x a) (half_pow a) ∙ bit_one_same a

pub bit_one_other : (a b : ℕ) → (a ≡ b → ⊥) → bit (one a) b ≡ 0
bit_one_other zero zero h = absurd (h refl)
bit_one_other zero (suc b) h = bit_suc 1 b ∙ ap (λ (x : ℕ). x % 2) (zero-div (2 ^ b))
bit_one_other (suc a) zero h = omega (arith, pow-succ' 2 a)
bit_one_other (suc a) (suc b) h = bit_suc (2 ^ suc a) b ∙ ap (λ (x : ℕ). bit x b) (half_pow a) ∙ bit_one_other a b (λ e. h (ap suc e))

pub has_one : (a b : ℕ) → has (one a) b ≡ eqb a b
has_one a b =
    ⊎_elim (λ e. ap (λ (x : ℕ). has (one a) x) (sym e) ∙ eq-eqb (bit (one a) a) 1 (bit_one_same a) ∙ sym (eq-eqb a b e)) (λ n. let z = bit_one_other a b n in grind (arith, nat_tests, z, n)) (cases_eq a b)

-- two sets with the same bays are the same number
pub same_set : (k m n : ℕ) → m < 2 ^ k → n < 2 ^ k → ((b : ℕ) → b < k → bit m b ≡ bit n b) → m ≡ n
same_set zero m n p q h = omega arith
same_set (suc k) m n p q h =
    let halves : m / 2 ≡ n / 2 = same_set k (m / 2) (n / 2) (omega (arith, pow-succ' 2 k)) (omega (arith, pow-succ' 2 k)) (λ b l. sym (bit_suc m b) ∙ h (suc b) (omega arith) ∙ bit_suc n b) in
    let lows : m % 2 ≡ n % 2 = sym (bit_zero m) ∙ h zero (omega arith) ∙ bit_zero n in
    omega arith

minus_half : (m g : ℕ) → minus m g / 2 ≡ minus (m / 2) (g / 2)
minus_half m g = xor_shr m (bit_and m g) 1 ∙ ap (bit_xor (m / 2)) (and_shr m g 1)

minus_none : (m : ℕ) → minus m 0 ≡ m
minus_none m = ap (bit_xor m) (and_zero_r m) ∙ xor_zero_r m

-- a bay in the set counts one
pub ones_minus : (m b : ℕ) → bit m b ≡ 1 → ones (minus m (one b)) + 1 ≡ ones m
ones_minus m zero h =
    let x = minus m 1 in
    let low : x % 2 ≡ 0 = omega (arith, bit_minus m 1 0, bit_zero m) in
    let rest : x / 2 ≡ m / 2 = minus_half m 1 ∙ minus_none (m / 2) in
    omega (arith, ones_step x, ones_step m, ap ones rest, bit_zero m)
ones_minus m (suc b) h =
    let x = minus m (one (suc b)) in
    let low : x % 2 ≡ m % 2 = omega (arith, bit_minus m (one (suc b)) 0, bit_zero m, bit_one_other (suc b) 0 (λ e. omega arith)) in
    let rest : x / 2 ≡ minus (m / 2) (one b) = minus_half m (one (suc b)) ∙ ap (minus (m / 2)) (half_pow b) in
    omega (arith, ones_step x, ones_step m, ap ones rest, ones_minus (m / 2) b (sym (bit_suc m b) ∙ h))

-- the lowest bay of a set
pub lowest_in : (k m : ℕ) → 0 < m → m < 2 ^ k → bit m (count_trailing_zeros k m) ≡ 1
unfolding count_trailing_zeros
lowest_in zero m p q = omega arith
lowest_in (suc k) m p q = go (λ p' q'. lowest_in k (m / 2) p' q') (m % 2) refl
  where
    go : (0 < m / 2 → m / 2 < 2 ^ k → bit (m / 2) (count_trailing_zeros k (m / 2)) ≡ 1) → (d : ℕ) → m % 2 ≡ d → bit m (under d (count_trailing_zeros k (m / 2))) ≡ 1
    go ih zero e = bit_suc m (count_trailing_zeros k (m / 2)) ∙ ih (omega arith) (omega (arith, pow-succ' 2 k))
    go ih (suc d) e = omega (arith, bit_zero m)

-- the empty set
pub has_none : (b : ℕ) → has 0 b ≡ false
has_none b = ne_eqb (bit 0 b) 1 (λ e. omega (arith, div-eq_of_lt {n = 0} {m = 2 ^ b} (pow_pos b)))

-- a set below 2 ^ n has bays below n only
pub has_below : (n m b : ℕ) → m < 2 ^ n → has m b ≡ true → b < n
has_below n m b h t =
    ⊎_elim (λ l. l)
    (λ g. let z : m / 2 ^ b ≡ 0 = div-eq_of_lt (omega (arith, pow_mono g)) in
    let o : bit m b ≡ 1 = eqb-true (bit m b) 1 t in
    absurd (omega arith))
    (cases_lt b n)

pub has_beyond : (n m b : ℕ) → m < 2 ^ n → n ≤ b → has m b ≡ false
has_beyond n m b h k = go (has m b) refl
  where
    go : (t : Bool) → has m b ≡ t → t ≡ false
    go true e = absurd (omega (arith, has_below n m b h e))
    go false e = refl

-- the set of the first n bays
pub full_bit : (n b : ℕ) → b < n → bit (2 ^ n - 1) b ≡ 1
full_bit zero b h = absurd (omega arith)
full_bit (suc n) zero h = omega (arith, pow-succ' 2 n, pow_pos n)
full_bit (suc n) (suc b) h =
    bit_suc (2 ^ suc n - 1) b ∙ ap (λ (x : ℕ). bit x b) half ∙ full_bit n b (omega arith)
  where
    half : (2 ^ suc n - 1) / 2 ≡ 2 ^ n - 1
    half = omega (arith, pow-succ' 2 n, pow_pos n)

-- some bay is in a set that is not empty
pub some_bay : (m : ℕ) → 0 < m → m < 2 ^ 24 → has m (count_trailing_zeros 24 m) ≡ true
some_bay m p q = eq-eqb (bit m (count_trailing_zeros 24 m)) 1 (lowest_in 24 m p q)

pub minus_small : (n m g : ℕ) → m < 2 ^ n → minus m g < 2 ^ n
minus_small n m g h = xor_lt n m (bit_and m g) h (omega (arith, and_le_l m g))

-- a bay beyond the width of a set is not taken from it
pub minus_beyond : (n m b : ℕ) → m < 2 ^ n → n ≤ b → minus m (one b) ≡ m
minus_beyond n m b h k =
    same_set n (minus m (one b)) m (minus_small n m (one b) h) h (λ i l. omega (arith, bit_minus m (one b) i, bit_one_other b i (λ e. omega arith)))
