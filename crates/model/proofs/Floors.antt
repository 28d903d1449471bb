-- The floor is at most what each completion costs, and is the cost where no bay is left.
use Rattle.std.proofs.Common.{◌≡◌, ℕ, Bool, true, false, cond, eqb, List, [], ◌∷◌, sym, refl, ap}
use Rattle.std.proofs.lemmas.Bool.{eqb-true, both_ways, or_right}
use Rattle.model.specs.Prices.{Ops, PriceLaws}
use Rattle.model.specs.SearchClaims.{FloorBounds}
use Rattle.model.specs.Terms.{Plan, put, Term, cost, least, least_price, floor, Legal, Completes}
use Rattle.model.specs.Lists.{member}
use Rattle.model.proofs.Ordered.{member_head, put_is, self, both, least_le}

module _ {P : Type 0} {o : Ops P} (L : PriceLaws o) (choices : ℕ → ℕ) where
  least_price_le : (t : Term P) (left : List ℕ) (σ π : Plan) → Legal choices left π → ((i : ℕ) → t.scope i ≡ true → member i left ≡ false → σ i ≡ π i)
      → o.at_most (least_price o choices t left σ) (t.value π) ≡ true
  least_price_le t [] σ π legal h = rw (t.stable σ π (λ i s. h i s refl)) (self L (t.value π))
  least_price_le t (b ∷ bs) σ π legal h = go (t.scope b) refl
      (least_price_le t bs (put b (π b) σ) π (λ i m. legal i (or_right (eqb i b) _ m)) (λ i s m. put_is b (π b) σ i (π i) (λ e. ap π (sym e)) (λ e. h i s (rw e m))))
      (λ x. least_price_le t bs σ π (λ i m. legal i (or_right (eqb i b) _ m)) (λ i s m. h i s (off x i s m)))
    where
      off : t.scope b ≡ false → (i : ℕ) → t.scope i ≡ true → member i bs ≡ false → member i (b ∷ bs) ≡ false
      off x i s m = side (eqb i b) refl
        where
          side : (y : Bool) → eqb i b ≡ y → member i (b ∷ bs) ≡ false
          side true e = absurd (both_ways (t.scope b) x (rw (eqb-true i b e) at s))
          side false e = rw e m

      go : (x : Bool) → t.scope b ≡ x → o.at_most (least_price o choices t bs (put b (π b) σ)) (t.value π) ≡ true → (t.scope b ≡ false → o.at_most (least_price o choices t bs σ) (t.value π) ≡ true)
          → o.at_most (cond x (least o (choices b) (λ c. least_price o choices t bs (put b c σ))) (least_price o choices t bs σ)) (t.value π) ≡ true
      go true e k n = L.trans _ _ _ (least_le L (choices b) (λ c. least_price o choices t bs (put b c σ)) (π b) (legal b (member_head b bs))) k
      go false e k n = n e

  pub floor_le : (ts : List (Term P)) (left : List ℕ) (σ π : Plan) → Legal choices left π → Completes left σ π → o.at_most (floor o choices ts left σ) (cost o ts π) ≡ true
  floor_le [] left σ π legal h = self L o.free
  floor_le (t ∷ ts) left σ π legal h = both L _ _ _ _ (least_price_le t left σ π legal (λ i _ m. h i m)) (floor_le ts left σ π legal h)

  pub floor_empty : (ts : List (Term P)) (σ : Plan) → floor o choices ts [] σ ≡ cost o ts σ
  floor_empty [] σ = refl
  floor_empty (t ∷ ts) σ = ap (o.combine (t.value σ)) (floor_empty ts σ)

pub floor_bounds : {P : Type 0} → FloorBounds P
floor_bounds S L e = record {
  under = λ ts left σ π l q. rw e (floor_le L S.passing.choices ts left σ π l q);
  exact = λ ts σ. rw e (floor_empty L S.passing.choices ts σ);
}
