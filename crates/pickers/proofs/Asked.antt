-- A question says nothing of the bays that were passed.
use Rattle.std.proofs.Common.{◌≡◌, ℕ, Bool, true, false, cond, not, ◌&&◌, eqb, List, map, get_or, ℤ, sym, refl, ap, ◌∙◌, subst, ap₂, ⊎_elim, arith}
use lib.Bits.{bit_and}
use Rattle.std.specs.List.{range_with_len}
use Rattle.std.proofs.lemmas.List.{get_or_past}
use Rattle.std.proofs.lemmas.List.FromFn.{get_or-map-range_with_len, length-map-range_with_len}
use Rattle.std.proofs.lemmas.Bool.{cases_lt, both_ways, eq-eqb}
use Rattle.model.specs.Sets.{has, one, minus}
use Rattle.model.proofs.Bits.{has_minus, has_and, has_one, has_none}
use Rattle.pickers.specs.Questions.{asked, seen, kept, Canonical}

-- a list made bay by bay, where nothing is made of what is past it
made : (f : ℕ → ℕ) (P : ℕ → Type 0) (b : ℕ) → P (f b) → P 0 → P (get_or (map f (range_with_len 0 24)) b 0)
made f P b here past =
    ⊎_elim (λ l. subst P (sym (get_or-map-range_with_len f 0 24 b b 0 l (omega arith))) here)
    (λ g. subst P (sym (get_or_past (map f (range_with_len 0 24)) b 0 (omega (arith, length-map-range_with_len f 0 24)))) past)
    (cases_lt b 24)

pub seen_has : (m near b i : ℕ) → has (seen m near b) i ≡ (has m b && ((has near i && has m i) && not (eqb b i)))
seen_has m near b i = go (has m b)
  where
    go : (t : Bool) → has (cond t (minus (bit_and near m) (one b)) 0) i ≡ (t && ((has near i && has m i) && not (eqb b i)))
    go true = has_minus (bit_and near m) (one b) i ∙ ap₂ (λ (x y : Bool). x && not y) (has_and near m i) (has_one b i)
    go false = has_none i

pub asked_canonical : (m : ℕ) (ns cs : List ℕ) (k : ℤ) → Canonical (asked m ns cs k)
asked_canonical m ns cs k = record {
  no_neighbours = λ b h. made (λ b. seen m (get_or ns b 0) b) (λ x. x ≡ 0) b (ap (λ (t : Bool). cond t (minus (bit_and (get_or ns b 0) m) (one b)) 0) h) refl;
  no_choices = λ b h. made (λ b. kept m (get_or cs b 0) b) (λ x. x ≡ 0) b (ap (λ (t : Bool). cond t (get_or cs b 0) 0) h) refl;
  remains = λ b i. made (λ b. seen m (get_or ns b 0) b) (λ x. has x i ≡ true → has m i ≡ true) b
      (λ h. third (has m b) (has (get_or ns b 0) i) (has m i) (not (eqb b i)) (sym (seen_has m (get_or ns b 0) b i) ∙ h))
      (λ h. absurd (both_ways (has 0 i) (has_none i) h));
  other = λ b. made (λ b. seen m (get_or ns b 0) b) (λ x. has x b ≡ false) b
      (seen_has m (get_or ns b 0) b b ∙ ap (λ (t : Bool). has m b && ((has (get_or ns b 0) b && has m b) && not t)) (eq-eqb b b refl) ∙ last (has m b) (has (get_or ns b 0) b && has m b))
      (has_none b);
}
  where
    third : (x y z w : Bool) → (x && ((y && z) && w)) ≡ true → z ≡ true
    third true true true w e = refl
    third true true false w e = e
    third true false z w e = absurd (both_ways false refl e)
    third false y z w e = absurd (both_ways false refl e)

    last : (x y : Bool) → (x && (y && false)) ≡ false
    last true true = refl
    last true false = refl
    last false y = refl
