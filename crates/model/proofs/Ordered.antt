-- Choices put into a plan, the order of prices, and the least of several.
use Rattle.std.proofs.Common.{◌≡◌, ℕ, zero, suc, ◌<◌, Bool, true, false, cond, eqb, List, ◌∷◌, sym, refl, ap, ◌∙◌, inl, inr, ⊎_elim, le_of_suc-le-suc, eq-or-lt_of_le, arith}
use mathlib.Core.Path.{fun_ext}
use Rattle.std.proofs.lemmas.Bool.{eqb-true, eq-eqb, both_ways, cases_Bool}
use Rattle.model.specs.Prices.{Ops, PriceLaws}
use Rattle.model.specs.Lists.{member}
use Rattle.model.specs.Terms.{Plan, put, least, least_at, Legal}

pub member_head : (r : ℕ) (rs : List ℕ) → member r (r ∷ rs) ≡ true
member_head r rs = rw (eq-eqb r r refl) refl

-- below n + 1: n itself, or below n
pub newest : (Q : ℕ → Type 0) (n c : ℕ) → c < suc n → Q n → (c < n → Q c) → Q c
newest Q n c h last old = elim (eq-or-lt_of_le (le_of_suc-le-suc h)) [ inl e ↦ rw e last | inr k ↦ old k ]

-- what stands in a plan after a choice is put
pub put_is : (b c : ℕ) (σ : Plan) (i x : ℕ) → (i ≡ b → c ≡ x) → (eqb i b ≡ false → σ i ≡ x) → put b c σ i ≡ x
put_is b c σ i x here there = go (eqb i b) refl
  where
    go : (t : Bool) → eqb i b ≡ t → cond t c (σ i) ≡ x
    go true e = here (eqb-true i b e)
    go false e = there e

pub put_back : (b c : ℕ) (π : Plan) → put b (π b) (put b c π) ≡ π
put_back b c π = fun_ext (λ i. put_is b (π b) (put b c π) i (π i) (λ e. ap π (sym e)) (λ e. rw e refl))

pub put_legal : (choices : ℕ → ℕ) (bays : List ℕ) (b c : ℕ) (π : Plan) → c < choices b → Legal choices bays π → Legal choices bays (put b c π)
put_legal choices bays b c π h legal i m = go (eqb i b) refl
  where
    go : (t : Bool) → eqb i b ≡ t → cond t c (π i) < choices i
    go true e = rw (eqb-true i b e) h
    go false e = legal i m

-- the least of some prices
pub least_at_lt : {P : Type 0} (o : Ops P) (n : ℕ) (f : ℕ → P) → 0 < n → least_at o n f < n
least_at_lt o zero f h = absurd (omega arith)
least_at_lt o (suc zero) f h = h
least_at_lt o (suc (suc n)) f h = go (o.at_most (least o (suc n) f) (f (suc n))) (least_at_lt o (suc n) f (omega arith))
  where
    go : (t : Bool) → least_at o (suc n) f < suc n → cond t (least_at o (suc n) f) (suc n) < suc (suc n)
    go true k = omega arith
    go false k = omega arith

-- the first that has the least does have it
pub least_is : {P : Type 0} (o : Ops P) (n : ℕ) (f : ℕ → P) → 0 < n → least o n f ≡ f (least_at o n f)
least_is o zero f h = absurd (omega arith)
least_is o (suc zero) f h = refl
least_is {P} o (suc (suc n)) f h = go (o.at_most (least o (suc n) f) (f (suc n))) (least_is o (suc n) f (omega arith))
  where
    go : (t : Bool) → least o (suc n) f ≡ f (least_at o (suc n) f) → cond t (least o (suc n) f) (f (suc n)) ≡ f (cond t (least_at o (suc n) f) (suc n))
    go true k = k
    go false k = refl

module _ {P : Type 0} {o : Ops P} (L : PriceLaws o) where
  -- a price is at most itself; the rest by the laws, from the right as well
  pub self : (p : P) → o.at_most p p ≡ true
  self p = go (o.at_most p p) refl
    where
      go : (b : Bool) → o.at_most p p ≡ b → o.at_most p p ≡ true
      go true e = e
      go false e = L.total p p e

  pub at_most_eq : (p q : P) → p ≡ q → o.at_most p q ≡ true
  at_most_eq p q e = rw e (self q)

  pub right : (p : P) → o.combine p o.free ≡ p
  right p = L.comm p o.free ∙ L.neutral p

  pub mono_right : (r p q : P) → o.at_most p q ≡ true → o.at_most (o.combine r p) (o.combine r q) ≡ true
  mono_right r p q h = rw (L.comm r p, L.comm r q) (L.mono p q r h)

  pub both : (p q r s : P) → o.at_most p q ≡ true → o.at_most r s ≡ true → o.at_most (o.combine p r) (o.combine q s) ≡ true
  both p q r s h k = L.trans _ _ _ (L.mono p q r h) (mono_right q r s k)

  -- the least is at most each
  pub least_le : (n : ℕ) (f : ℕ → P) (c : ℕ) → c < n → o.at_most (least o n f) (f c) ≡ true
  least_le zero f c h = absurd (omega arith)
  least_le (suc zero) f c h = let z : c ≡ 0 = omega arith in rw z (self (f 0))
  least_le (suc (suc n)) f c h = go (o.at_most (least o (suc n) f) (f (suc n))) refl (least_le (suc n) f c)
    where
      last : (x : P) → o.at_most x (f (suc n)) ≡ true → (c < suc n → o.at_most x (f c) ≡ true) → o.at_most x (f c) ≡ true
      last x e k = newest (λ c. o.at_most x (f c) ≡ true) (suc n) c h e k

      go : (t : Bool) → o.at_most (least o (suc n) f) (f (suc n)) ≡ t → (c < suc n → o.at_most (least o (suc n) f) (f c) ≡ true) → o.at_most (cond t (least o (suc n) f) (f (suc n))) (f c) ≡ true
      go true e k = last (least o (suc n) f) e k
      go false e k = last (f (suc n)) (self (f (suc n))) (λ h. L.trans _ _ _ (L.total _ _ e) (k h))

  -- what comes before the first that has the least is more
  pub least_first : (n : ℕ) (f : ℕ → P) (c : ℕ) → c < least_at o n f → o.at_most (f c) (f (least_at o n f)) ≡ false
  least_first zero f c h = absurd (omega arith)
  least_first (suc zero) f c h = absurd (omega arith)
  least_first (suc (suc n)) f c h = go (o.at_most (least o (suc n) f) (f (suc n))) refl h (least_first (suc n) f c)
    where
      go : (t : Bool) → o.at_most (least o (suc n) f) (f (suc n)) ≡ t → c < cond t (least_at o (suc n) f) (suc n)
          → (c < least_at o (suc n) f → o.at_most (f c) (f (least_at o (suc n) f)) ≡ false)
          → o.at_most (f c) (f (cond t (least_at o (suc n) f) (suc n))) ≡ false
      go true e l k = k l
      go false e l k =
          ⊎_elim (λ q. absurd (both_ways (o.at_most (least o (suc n) f) (f (suc n))) e (L.trans _ _ _ (least_le (suc n) f c l) q))) (λ q. q) (cases_Bool (o.at_most (f c) (f (suc n))))
