-- How large a table is, and where its cells are.
use Rattle.std.proofs.Common.{◌≡◌, ℕ, zero, suc, ◌+◌, ◌-◌, ◌*◌, ◌/◌, ◌%◌, ◌^◌, ◌<◌, ◌≤◌, Bool, true, false, cond, List, ◌∷◌, get_or, set, sym, refl, ap, ◌∙◌, subst, ap₂, mul-le-mul_right, mod-lt, mul_assoc, add-mul, mul-pos, le-mul_of_pos_right, arith}
use native.Mathlib.Nat.{pow-succ'}
use Rattle.model.specs.Lists.{product}
use Rattle.model.specs.Sets.{has}
use Rattle.std.proofs.Math.Nat.{div-div-eq-div-mul, div-one, dvd-mul_left, mod-eq_of_lt, mod-mod_of_dvd, mul_comm}
use Rattle.std.proofs.Math.Arith.{mod-mul}
use Rattle.std.proofs.lemmas.Nat.{div-mul-add}
use Rattle.std.proofs.lemmas.List.{set_comm}
use Rattle.search.proofs.Members.{members_in, members_out, members_end}
use Rattle.search.specs.Places.{members, bays_from, byte_of, decoded, Open, PlanOk}

pub size_step : (c r l : ℕ) → c ≤ 8 → r ≤ 8 ^ l → c * r ≤ 8 ^ suc l
size_step c r l h k = omega (arith, mul-le-mul_right r h, pow-succ' 8 l)

pub eight_four : (l : ℕ) → l ≤ 4 → 8 ^ l ≤ 4096
eight_four zero h = omega arith
eight_four (suc zero) h = omega arith
eight_four (suc (suc zero)) h = omega arith
eight_four (suc (suc (suc zero))) h = omega arith
eight_four (suc (suc (suc (suc zero)))) h = omega arith
eight_four (suc (suc (suc (suc (suc l))))) h = absurd (omega arith)

pub product_pos : (cs : List ℕ) (mask b k : ℕ) → Open cs mask → 0 < product (byte_of cs) (members (has mask) b k)
unfolding members
product_pos cs mask b zero o = omega arith
product_pos cs mask b (suc k) o = go (has mask b) refl (product_pos cs mask (b + 1) k o)
  where
    go : (x : Bool) → has mask b ≡ x → 0 < product (byte_of cs) (members (has mask) (b + 1) k) → 0 < product (byte_of cs) (cond x (b ∷ members (has mask) (b + 1) k) (members (has mask) (b + 1) k))
    go true e h = mul-pos {m = get_or cs b 0} {n = product (byte_of cs) (members (has mask) (b + 1) k)} (o b e) h
    go false e h = h

pub record Stepped (c a x n : ℕ) : Type 0 where
  pub fits : (a * c + x + 1) * n ≤ 4096
  pub product : a * c < 4096
  pub next : a * c + x < 4096

pub stepped : (c a x n : ℕ) → x < c → 0 < n → (a + 1) * (c * n) ≤ 4096 → Stepped c a x n
stepped c a x n low pos f =
    let all : (a + 1) * c * n ≤ 4096 = rw (mul_assoc (a + 1) c n) f in
    let top : a * c + x + 1 ≤ (a + 1) * c = omega (arith, add-mul a 1 c) in
    let fit : (a * c + x + 1) * n ≤ 4096 = omega (arith, mul-le-mul_right n top) in
    let small : a * c + x + 1 ≤ (a * c + x + 1) * n = le-mul_of_pos_right {m = n} (a * c + x + 1) pos in
    record { fits = fit; product = omega arith; next = omega arith }

pub place_step : (cs plan : List ℕ) (mask b a : ℕ) → b < 24 → has mask b ≡ true → Open cs mask → PlanOk cs plan → (a + 1) * product (byte_of cs) (bays_from mask b) ≤ 4096
    → Stepped (get_or cs b 0) a (get_or plan b 0) (product (byte_of cs) (bays_from mask (b + 1)))
place_step cs plan mask b a h e o l f =
    stepped (get_or cs b 0) a (get_or plan b 0) (product (byte_of cs) (bays_from mask (b + 1))) (l b (o b e)) (product_pos cs mask (b + 1) (24 - (b + 1)) o)
    (subst (λ (bs : List ℕ). (a + 1) * product (byte_of cs) bs ≤ 4096) (members_in (has mask) b 24 h e) f)

-- a number below so many blocks of a size: its place in its block, and the number of its block
low_digits : (at c rest : ℕ) → 0 < c → 0 < rest → at % (c * rest) % rest ≡ at % rest
low_digits at c rest hc hr = mod-mod_of_dvd rest at (dvd-mul_left rest c)

next_digit : (at c rest : ℕ) → 0 < c → 0 < rest → at % (c * rest) / rest ≡ at / rest % c
next_digit at c rest hc hr = ap (λ (n : ℕ). n / rest) (mod-mul at hc hr) ∙ div-mul-add (at / rest % c) rest (at % rest) (mod-lt at hr)

-- a choice that stands before the bays set may be set after them
decoded_set : (cs : List ℕ) (p : ℕ → Bool) (a k at : ℕ) (plan : List ℕ) (b v : ℕ) → b < a → decoded cs p a k at (set plan b v) ≡ set (decoded cs p a k at plan) b v
unfolding decoded
decoded_set cs p a zero at plan b v h = refl
decoded_set cs p a (suc k) at plan b v h = go (p a) (decoded_set cs p (a + 1) k (at % rest) (set plan a (at / rest)) b v (omega arith)) (decoded_set cs p (a + 1) k at plan b v (omega arith))
  where
    rest : ℕ
    rest = product (byte_of cs) (members p (a + 1) k)

    go : (x : Bool) → decoded cs p (a + 1) k (at % rest) (set (set plan a (at / rest)) b v) ≡ set (decoded cs p (a + 1) k (at % rest) (set plan a (at / rest))) b v
        → decoded cs p (a + 1) k at (set plan b v) ≡ set (decoded cs p (a + 1) k at plan) b v
        → cond x (decoded cs p (a + 1) k (at % rest) (set (set plan b v) a (at / rest))) (decoded cs p (a + 1) k at (set plan b v))
        ≡ set (cond x (decoded cs p (a + 1) k (at % rest) (set plan a (at / rest))) (decoded cs p (a + 1) k at plan)) b v
    go true e f = ap (decoded cs p (a + 1) k (at % rest)) (set_comm plan b a v (at / rest) (omega arith)) ∙ e
    go false e f = f

pub decoded_in : (cs : List ℕ) (p : ℕ → Bool) (b at : ℕ) (plan : List ℕ) → b < 24 → p b ≡ true
    → decoded cs p b (24 - b) at plan ≡ decoded cs p (b + 1) (24 - (b + 1)) (at % product (byte_of cs) (members p (b + 1) (24 - (b + 1)))) (set plan b (at / product (byte_of cs) (members p (b + 1) (24 - (b + 1)))))
unfolding decoded
decoded_in cs p b at plan h e = let z : 24 - b ≡ suc (24 - (b + 1)) = omega arith in rw (z, e) refl

pub decoded_out : (cs : List ℕ) (p : ℕ → Bool) (b at : ℕ) (plan : List ℕ) → b < 24 → p b ≡ false → decoded cs p b (24 - b) at plan ≡ decoded cs p (b + 1) (24 - (b + 1)) at plan
unfolding decoded
decoded_out cs p b at plan h e = let z : 24 - b ≡ suc (24 - (b + 1)) = omega arith in rw (z, e) refl

pub decoded_end : (cs : List ℕ) (p : ℕ → Bool) (b at : ℕ) (plan : List ℕ) → 24 ≤ b → decoded cs p b (24 - b) at plan ≡ plan
unfolding decoded
decoded_end cs p b at plan h = let z : 24 - b ≡ 0 = omega arith in rw z refl

-- what is decoded of the bays from b on, and what is left for those before
pub record Digits (cs : List ℕ) (mask b at : ℕ) (plan picks : List ℕ) (left : ℕ) : Type 0 where
  pub picked : picks ≡ decoded cs (has mask) b (24 - b) (at % product (byte_of cs) (bays_from mask b)) plan
  pub rest : left ≡ at / product (byte_of cs) (bays_from mask b)

pub no_digits : (cs : List ℕ) (mask at : ℕ) (plan : List ℕ) → Digits cs mask 24 at plan plan at
no_digits cs mask at plan = record {
  picked = sym (decoded_end cs (has mask) 24 _ plan (omega arith));
  rest = sym (ap (λ (bs : List ℕ). at / product (byte_of cs) bs) (members_end (has mask) 24 24 (omega arith)) ∙ div-one at);
}

module _ (cs : List ℕ) (mask b at : ℕ) (plan picks : List ℕ) (left n : ℕ) (z : n ≡ b + 1) (h : b < 24) (after : Digits cs mask n at plan picks left) where
  d : Digits cs mask (b + 1) at plan picks left
  d = subst (λ (x : ℕ). Digits cs mask x at plan picks left) z after

  pub more_digits : Open cs mask → has mask b ≡ true → Digits cs mask b at plan (set picks b (left % get_or cs b 0)) (left / get_or cs b 0)
  more_digits o e =
      let c = get_or cs b 0 in
      let rest = product (byte_of cs) (bays_from mask (b + 1)) in
      let hc : 0 < c = o b e in
      let hr : 0 < rest = product_pos cs mask (b + 1) (24 - (b + 1)) o in
      let all : product (byte_of cs) (bays_from mask b) ≡ c * rest = ap (product (byte_of cs)) (members_in (has mask) b 24 h e) in
      record {
        picked = ap₂ (λ (l : List ℕ) (x : ℕ). set l b (x % c)) d.picked d.rest
            ∙ sym (ap (λ (n : ℕ). decoded cs (has mask) b (24 - b) (at % n) plan) all
            ∙ decoded_in cs (has mask) b (at % (c * rest)) plan h e
            ∙ ap₂ (λ (x y : ℕ). decoded cs (has mask) (b + 1) (24 - (b + 1)) x (set plan b y)) (low_digits at c rest hc hr) (next_digit at c rest hc hr)
            ∙ decoded_set cs (has mask) (b + 1) (24 - (b + 1)) (at % rest) plan b (at / rest % c) (omega arith));
        rest = ap (λ (x : ℕ). x / c) d.rest ∙ div-div-eq-div-mul at rest c ∙ ap (λ (n : ℕ). at / n) (mul_comm rest c ∙ sym all);
      }

  pub same_digits : has mask b ≡ false → Digits cs mask b at plan picks left
  same_digits e =
      let all : product (byte_of cs) (bays_from mask b) ≡ product (byte_of cs) (bays_from mask (b + 1)) = ap (product (byte_of cs)) (members_out (has mask) b 24 h e) in
      record {
        picked = d.picked ∙ sym (ap (λ (n : ℕ). decoded cs (has mask) b (24 - b) (at % n) plan) all ∙ decoded_out cs (has mask) b _ plan h e);
        rest = d.rest ∙ ap (λ (n : ℕ). at / n) (sym all);
      }

pub all_digits : (cs : List ℕ) (mask n at : ℕ) (plan picks : List ℕ) (left : ℕ) → Digits cs mask n at plan picks left → n ≡ 0 → at < product (byte_of cs) (bays_from mask 0) → picks ≡ decoded cs (has mask) 0 24 at plan
all_digits cs mask n at plan picks left d z h =
    let e = subst (λ (x : ℕ). Digits cs mask x at plan picks left) z d in e.picked ∙ ap (λ (x : ℕ). decoded cs (has mask) 0 24 x plan) (mod-eq_of_lt h)
