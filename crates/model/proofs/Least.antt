-- What a visit leaves is honest, and at most what each completion costs.
use Rattle.std.proofs.Common.{◌≡◌, ℕ, zero, suc, ◌<◌, ◌≤◌, Bool, true, false, cond, not, ◌||◌, eqb, ◌⊎◌, List, [], ◌∷◌, length, sym, refl, ap, ◌∙◌, inl, inr, true≢false, le_refl, arith}
use mathlib.Core.Bool.{false≢true}
use mathlib.Core.Option.{Option, none, some}
use Rattle.std.proofs.lemmas.Bool.{both_ways}
use Rattle.model.specs.Prices.{PriceLaws}
use Rattle.model.specs.Lists.{any, member}
use Rattle.model.specs.Course.{decide, drop_bay}
use Rattle.model.specs.Terms.{Plan, put, Term, cost, cost_stable, touching, folded, chosen, Legal, Completes, Fold, read}
use Rattle.model.specs.Search.{Setup, Sofar, counted, arrived, gate, enter, each, share, visit, search}
use Rattle.model.specs.SearchClaims.{Bounds, Honest, Cheapest, SearchCheapest}
use Rattle.model.proofs.Kept.{member_keep}
use Rattle.model.proofs.Listed.{decide_in, drop_fewer}
use Rattle.model.proofs.Adjacent.{kept}
use Rattle.model.proofs.Ordered.{newest, put_is, put_back, put_legal, self, at_most_eq, least_at_lt}
use Rattle.model.proofs.Folds.{fold_le, fold_is}

member_drop : (b i : ℕ) (left : List ℕ) → member i (drop_bay b left) ≡ false → eqb i b ≡ false → member i left ≡ false
member_drop b i left m e = rw e at (sym (member_keep (λ j. not (eqb j b)) i left) ∙ m)

module _ {P : Type 0} (S : Setup P) (L : PriceLaws S.ops) (B : Bounds S) (bays : List ℕ) (pos : (i : ℕ) → member i bays ≡ true → 0 < S.passing.choices i) (terms : List (Term P)) (ceiling : P) where
  -- what a piece of the search that covers the plans of Q does to what is so far
  record Done (Q : Plan → Type 0) (ts : List (Term P)) (s t : Sofar P) : Type 0 where
    honest : Honest S bays terms ceiling s.plan s.best → Honest S bays terms ceiling t.plan t.best
    falls : S.ops.at_most t.best s.best ≡ true
    lives : t.stopped ≡ false → s.stopped ≡ false
    covers : t.stopped ≡ false → (π : Plan) → Legal S.passing.choices bays π → Q π → S.ops.at_most t.best (cost S.ops ts π) ≡ true

  onwards : (Q R U : Plan → Type 0) (ts : List (Term P)) (s t u : Sofar P) → ((π : Plan) → U π → Q π ⊎ R π) → Done Q ts s t → Done R ts t u → Done U ts s u
  onwards Q R U ts s t u h d e = record {
    honest = λ x. e.honest (d.honest x);
    falls = L.trans _ _ _ e.falls d.falls;
    lives = λ x. d.lives (e.lives x);
    covers = λ x π l y. elim (h π y) [ inl q ↦ L.trans _ _ _ e.falls (d.covers (e.lives x) π l q) | inr r ↦ e.covers x π l r ];
  }

  each_done : (n : ℕ) (f : ℕ → Sofar P → Sofar P) (Q : ℕ → Plan → Type 0) (ts : List (Term P)) → ((c : ℕ) (s : Sofar P) → c < n → Done (Q c) ts s (f c s))
      → (s : Sofar P) → Done (λ π. (c : ℕ) × (c < n) × Q c π) ts s (each n f s)
  each_done zero f Q ts h s = record { honest = λ x. x; falls = self L s.best; lives = λ x. x; covers = λ x π l q. let k : q.0 < 0 = q.1 in absurd (omega arith) }
  each_done (suc n) f Q ts h s = onwards (λ π. (c : ℕ) × (c < n) × Q c π) (Q n) _ ts s (each n f s) _
      (λ π q. newest (λ c. Q c π → ((c : ℕ) × (c < n) × Q c π) ⊎ Q n π) n q.0 q.1 inr (λ k x. inl (q.0, k, x)) q.2)
      (each_done n f Q ts (λ c s k. h c s (omega arith)) s) (h n (each n f s) (le_refl (suc n)))

  gate_done : (Q : Plan → Type 0) (ts : List (Term P)) (low : P) (rest : Sofar P → Sofar P) (s : Sofar P)
      → ((π : Plan) → Legal S.passing.choices bays π → Q π → S.ops.at_most low (cost S.ops ts π) ≡ true)
      → (S.ops.at_most s.best low ≡ false → Done Q ts (counted s) (rest (counted s)))
      → Done Q ts s (enter S low rest s)
  gate_done Q ts low rest s h k = go (s.stopped || eqb s.count S.limit) (S.ops.at_most s.best low) refl
    where
      go : (x y : Bool) → S.ops.at_most s.best low ≡ y → Done Q ts s (gate x y rest s)
      go true y e = record { honest = λ x. x; falls = self L s.best; lives = λ x. absurd (true≢false x); covers = λ x. absurd (true≢false x) }
      go false true e = record { honest = λ x. x; falls = self L s.best; lives = λ x. x; covers = λ x π l q. L.trans _ _ _ e (h π l q) }
      go false false e = let d = k e in record { honest = d.honest; falls = d.falls; lives = d.lives; covers = d.covers }

  under_ceiling : (o : Option Plan) (p : P) → Honest S bays terms ceiling o p → S.ops.at_most p ceiling ≡ true
  under_ceiling none p h = at_most_eq L p ceiling h
  under_ceiling (some π) p h = L.total ceiling p h.2

  -- reading the folds turns a plan for the terms in force into one for the terms at the start
  abbrev Reads : List (Term P) → List (Fold P) → Type 0
  Reads ts folds = (π : Plan) → Legal S.passing.choices bays π → Legal S.passing.choices bays (read S.ops S.passing.choices folds π) × (cost S.ops terms (read S.ops S.passing.choices folds π) ≡ cost S.ops ts π)

  leaf_done : (ts : List (Term P)) (σ : Plan) (folds : List (Fold P)) → Legal S.passing.choices bays σ → Reads ts folds → (s : Sofar P) → S.ops.at_most s.best (S.bound ts [] σ) ≡ false
      → Done (Completes [] σ) ts s (arrived (S.bound ts [] σ) (read S.ops S.passing.choices folds σ) s)
  leaf_done ts σ folds legal reads s e = record {
    honest = λ h. ((reads σ legal).0, (reads σ legal).1 ∙ sym (B.exact ts σ), go (S.ops.at_most ceiling (S.bound ts [] σ)) refl h);
    falls = L.total _ _ e;
    lives = λ x. x;
    covers = λ x π l q. B.under ts [] σ π (λ i m. absurd (false≢true m)) q;
  }
    where
      go : (x : Bool) → S.ops.at_most ceiling (S.bound ts [] σ) ≡ x → Honest S bays terms ceiling s.plan s.best → x ≡ false
      go true z h = absurd (both_ways _ e (L.trans _ _ _ (under_ceiling s.plan s.best h) z))
      go false z h = refl

  fold_done : (b : ℕ) (left : List ℕ) (ts : List (Term P)) (σ : Plan) → member b bays ≡ true → Legal S.passing.choices bays σ → (s t : Sofar P)
      → Done (Completes (drop_bay b left) σ) (folded S.ops S.passing.choices b ts) s t → Done (Completes left σ) ts s t
  fold_done b left ts σ m legal s t d = record {
    honest = d.honest;
    falls = d.falls;
    lives = d.lives;
    covers = λ x π l q. L.trans _ _ _
        (d.covers x (put b (σ b) π) (put_legal S.passing.choices bays b (σ b) π (legal b m) l) (λ i m. sym (put_is b (σ b) π i (σ i) (λ e. ap σ (sym e)) (λ e. sym (q i (member_drop b i left m e))))))
        (rw (put_back b (σ b) π) at (fold_le L S.passing.choices b ts (put b (σ b) π) (π b) (l b m)));
  }

  branch_done : (b : ℕ) (left : List ℕ) (ts : List (Term P)) (σ : Plan) → member b bays ≡ true → (s t : Sofar P)
      → Done (λ π. (c : ℕ) × (c < S.passing.choices b) × Completes (drop_bay b left) (put b c σ) π) ts s t → Done (Completes left σ) ts s t
  branch_done b left ts σ m s t d = record {
    honest = d.honest;
    falls = d.falls;
    lives = d.lives;
    covers = λ x π l q. d.covers x π l (π b, l b m, λ i m. put_is b (π b) σ i (π i) (λ e. ap π (sym e)) (λ e. q i (member_drop b i left m e)));
  }

  fold_reads : (b : ℕ) (ts : List (Term P)) (folds : List (Fold P)) → member b bays ≡ true → Reads ts folds → Reads (folded S.ops S.passing.choices b ts) (record { bay = b; terms = ts } ∷ folds)
  fold_reads b ts folds m h π legal =
      let c = chosen S.ops S.passing.choices b ts π in
      let r = h (put b c π) (put_legal S.passing.choices bays b c π (least_at_lt S.ops (S.passing.choices b) (λ c. cost S.ops (touching b ts) (put b c π)) (pos b m)) legal) in
      (r.0, r.1 ∙ sym (fold_is L S.passing.choices b ts π (pos b m)))

  either : (R : (Sofar P → Sofar P) → Type 0) (x : Bool) (f g : Sofar P → Sofar P) → R f → R g → R (elim x [ true ↦ f | false ↦ g ])
  either R true f g p q = p
  either R false f g p q = q

  abbrev Among : List ℕ → Type 0
  Among left = (i : ℕ) → member i left ≡ true → member i bays ≡ true

  visit_done : (n : ℕ) (left : List ℕ) (ts : List (Term P)) (unused : ℕ) (σ : Plan) (folds : List (Fold P)) → length left ≤ n → Among left → Legal S.passing.choices bays σ → Reads ts folds
      → (s : Sofar P) → Done (Completes left σ) ts s (visit S n left ts unused σ folds s)
  visit_done zero [] ts unused σ folds h among legal reads s = gate_done _ ts _ _ s (λ π l. B.under ts [] σ π (λ i m. l i (among i m))) (leaf_done ts σ folds legal reads (counted s))
  visit_done zero (r ∷ rs) ts unused σ folds h among legal reads s = absurd (omega arith)
  visit_done (suc n) [] ts unused σ folds h among legal reads s = gate_done _ ts _ _ s (λ π l. B.under ts [] σ π (λ i m. l i (among i m))) (leaf_done ts σ folds legal reads (counted s))
  visit_done (suc n) (r ∷ rs) ts unused σ folds h among legal reads s =
      let left = r ∷ rs in
      let d = decide S.passing (share ts) unused r rs in
      let b = d.bay in
      let m = decide_in S.passing (share ts) unused r rs in
      let fewer : length (drop_bay b left) ≤ n = omega (arith, drop_fewer b left m) in
      let still : Among (drop_bay b left) = λ i k. among i (kept b left i k).1 in
      gate_done _ ts _ _ s (λ π l. B.under ts left σ π (λ i m. l i (among i m))) (λ _.
      either (λ f. Done (Completes left σ) ts (counted s) (f (counted s))) d.fold _ _
      (fold_done b left ts σ (among b m) legal (counted s) _
      (visit_done n (drop_bay b left) (folded S.ops S.passing.choices b ts) _ σ _ fewer still legal (fold_reads b ts folds (among b m) reads) (counted s)))
      (branch_done b left ts σ (among b m) (counted s) _ (each_done (S.passing.choices b) _ (λ c. Completes (drop_bay b left) (put b c σ)) ts
      (λ c t k. visit_done n (drop_bay b left) ts unused (put b c σ) folds fewer still (put_legal S.passing.choices bays b c σ k legal) reads t) (counted s))))

  cheapest : ((i : ℕ) → any (λ t. t.scope i) terms ≡ true → member i bays ≡ true) → (cells : ℕ) → Cheapest S bays terms ceiling (search S bays terms cells ceiling)
  cheapest within cells =
      let d = visit_done (length bays) bays terms cells (λ _. 0) [] (le_refl _) (λ i m. m) pos (λ π l. (l, refl)) _ in
      record {
        honest = d.honest refl;
        cheapest = λ going π l. rw (same π) at (d.covers going (trim π) (λ i m. rw m (l i m)) (λ i m. rw m refl));
      }
    where
      trim : Plan → Plan
      trim π i = cond (member i bays) (π i) 0

      same : (π : Plan) → cost S.ops terms (trim π) ≡ cost S.ops terms π
      same π = cost_stable S.ops terms (trim π) π (λ i e. rw (within i e) refl)

pub search_cheapest : {P : Type 0} → SearchCheapest P
search_cheapest S L B bays pos terms within cells ceiling = cheapest S L B bays pos terms ceiling within cells
