-- Folding a bay keeps the least price.
use Rattle.std.proofs.Common.{◌≡◌, ℕ, ◌<◌, Bool, true, false, cond, not, List, [], ◌∷◌, ◌++◌, sym, refl, ap, ◌∙◌, ap₂}
use Rattle.std.proofs.lemmas.Bool.{both_ways}
use Rattle.model.specs.Prices.{Ops, PriceLaws}
use Rattle.model.specs.SearchClaims.{FoldSound}
use Rattle.model.specs.Terms.{Plan, put, Term, cost, least, touching, others, folded, chosen}
use Rattle.model.proofs.Ordered.{put_is, right, mono_right, least_le, least_is, least_at_lt, least_first}

module _ {P : Type 0} {o : Ops P} (L : PriceLaws o) where
  pub cost_append : (ts us : List (Term P)) (π : Plan) → cost o (ts ++ us) π ≡ o.combine (cost o ts π) (cost o us π)
  cost_append [] us π = sym (L.neutral _)
  cost_append (t ∷ ts) us π = ap (o.combine (t.value π)) (cost_append ts us π) ∙ sym (L.assoc _ _ _)

  split : (b : ℕ) (ts : List (Term P)) (π : Plan) → cost o ts π ≡ o.combine (cost o (others b ts) π) (cost o (touching b ts) π)
  split b [] π = sym (L.neutral _)
  split b (t ∷ ts) π = ap (o.combine (t.value π)) (split b ts π) ∙ go (t.scope b)
    where
      v : P
      v = t.value π

      rest : P
      rest = cost o (others b ts) π

      u : P
      u = cost o (touching b ts) π

      go : (x : Bool) → o.combine v (o.combine rest u) ≡ o.combine (cost o (cond (not x) (t ∷ others b ts) (others b ts)) π) (cost o (cond x (t ∷ touching b ts) (touching b ts)) π)
      go true = sym (L.assoc v rest u) ∙ ap (λ w. o.combine w u) (L.comm v rest) ∙ L.assoc rest v u
      go false = sym (L.assoc v rest u)

  blind : (b c : ℕ) (ts : List (Term P)) (π : Plan) → cost o (others b ts) (put b c π) ≡ cost o (others b ts) π
  blind b c [] π = refl
  blind b c (t ∷ ts) π = go (t.scope b) refl (blind b c ts π)
    where
      go : (x : Bool) → t.scope b ≡ x → cost o (others b ts) (put b c π) ≡ cost o (others b ts) π → cost o (cond (not x) (t ∷ others b ts) (others b ts)) (put b c π) ≡ cost o (cond (not x) (t ∷ others b ts) (others b ts)) π
      go true e k = k
      go false e k = ap₂ o.combine (t.stable (put b c π) π (λ i s. put_is b c π i (π i) (λ q. absurd (both_ways (t.scope b) e (rw q at s))) (λ _. refl))) k

  module _ (choices : ℕ → ℕ) (b : ℕ) (ts : List (Term P)) (π : Plan) where
    trial : ℕ → P
    trial c = cost o (touching b ts) (put b c π)

    whole : cost o (folded o choices b ts) π ≡ o.combine (cost o (others b ts) π) (least o (choices b) trial)
    unfolding trial
    whole = cost_append (others b ts) _ π ∙ ap (o.combine (cost o (others b ts) π)) (right L _)

    at_choice : (c : ℕ) → cost o ts (put b c π) ≡ o.combine (cost o (others b ts) π) (trial c)
    unfolding trial
    at_choice c = split b ts (put b c π) ∙ ap (λ w. o.combine w (trial c)) (blind b c ts π)

    pub fold_le : (c : ℕ) → c < choices b → o.at_most (cost o (folded o choices b ts) π) (cost o ts (put b c π)) ≡ true
    fold_le c h = rw (whole, at_choice c) (mono_right L _ _ _ (least_le L (choices b) trial c h))

    pub fold_is : 0 < choices b → cost o (folded o choices b ts) π ≡ cost o ts (put b (chosen o choices b ts π) π)
    unfolding trial
    fold_is h = whole ∙ ap (o.combine (cost o (others b ts) π)) (least_is o (choices b) trial h) ∙ sym (at_choice (chosen o choices b ts π))

pub fold_sound : {P : Type 0} → FoldSound P
fold_sound o L choices b ts π h = record {
  reads = fold_is L choices b ts π h;
  under = fold_le L choices b ts π;
  legal = least_at_lt o (choices b) (λ c. cost o (touching b ts) (put b c π)) h;
  first = least_first L (choices b) (λ c. cost o (touching b ts) (put b c π));
}
