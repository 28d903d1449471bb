-- Visits stay within the forecast and the limit.
use Rattle.std.proofs.Common.{◌≡◌, ℕ, zero, suc, ◌+◌, ◌-◌, ◌*◌, ◌<◌, ◌≤◌, Bool, true, false, cond, not, ◌&&◌, ◌||◌, eqb, ◌⊎◌, List, [], ◌∷◌, length, sym, refl, ap, ◌∙◌, subst, inl, inr, true≢false, arith}
use mathlib.Core.Bool.{false≢true}
use Rattle.std.proofs.lemmas.Bool.{eqb-true, eqb-false, both_ways}
use Rattle.model.specs.Lists.{keep, any, member}
use Rattle.model.specs.Course.{Step, Line, decide, drop_bay, connect, course, forecast}
use Rattle.model.specs.Terms.{Plan, put, Term, others, folded, Fold}
use Rattle.model.specs.Search.{Setup, Sofar, counted, arrived, gate, enter, each, share, visit, begun, search}
use Rattle.model.specs.SearchClaims.{Counts, SearchCounts}
use Rattle.model.proofs.Kept.{any_append}
use Rattle.model.proofs.Listed.{decide_in}
use Rattle.model.proofs.Adjacent.{kept, Agree, decide_agree, agree_drop, agree_connect}

-- what a fold makes of the neighbours
pub any_keep : {A : Type 0} (p q : A → Bool) (xs : List A) → any p (keep q xs) ≡ any (λ x. q x && p x) xs
any_keep p q [] = refl
any_keep p q (x ∷ xs) = go (q x) (any_keep p q xs)
  where
    go : (y : Bool) → any p (keep q xs) ≡ any (λ x. q x && p x) xs → any p (cond y (x ∷ keep q xs) (keep q xs)) ≡ ((y && p x) || any (λ x. q x && p x) xs)
    go true e = ap (λ z. p x || z) e
    go false e = e

-- if no x has p and q both, or none has p and r both, then among those with q and r none has p
any_left : {A : Type 0} (p q r : A → Bool) (xs : List A) → (any (λ x. p x && q x) xs && any (λ x. p x && r x) xs) ≡ false → any (λ x. not (p x) && (q x && r x)) xs ≡ any (λ x. q x && r x) xs
any_left p q r [] h = refl
any_left p q r (x ∷ xs) h = go (p x) (q x) (r x) (any (λ x. p x && q x) xs) (any (λ x. p x && r x) xs) h (any_left p q r xs)
  where
    go : (a b c s t : Bool) → (((a && b) || s) && ((a && c) || t)) ≡ false → ((s && t) ≡ false → any (λ x. not (p x) && (q x && r x)) xs ≡ any (λ x. q x && r x) xs)
        → ((not a && (b && c)) || any (λ x. not (p x) && (q x && r x)) xs) ≡ ((b && c) || any (λ x. q x && r x) xs)
    go false b c s t h k = ap (λ z. (b && c) || z) (k h)
    go true true true s t h k = absurd (true≢false h)
    go true true false true t h k = k h
    go true true false false t h k = k refl
    go true false true true t h k = absurd (true≢false h)
    go true false true false t h k = k refl
    go true false false s t h k = k h

share_folded : {P : Type 0} (S : Setup P) (b : ℕ) (ts : List (Term P)) (i j : ℕ) → eqb i b ≡ false → eqb j b ≡ false → share (folded S.ops S.passing.choices b ts) i j ≡ connect b (share ts) i j
share_folded S b ts i j e f =
    any_append _ (others b ts) _ ∙ rw (e, f, any_keep (λ t. t.scope i && t.scope j) (λ t. not (t.scope b)) ts, any_keep (λ t. t.scope i) (λ t. t.scope b) ts, any_keep (λ t. t.scope j) (λ t. t.scope b) ts)
    (go _ _ (share ts b i && share ts b j) (any_left (λ t. t.scope b) (λ t. t.scope i) (λ t. t.scope j) ts))
  where
    or_true : (u : Bool) → (u || true) ≡ true
    or_true true = refl
    or_true false = refl

    go : (u v x : Bool) → (x ≡ false → u ≡ v) → (u || (x || false)) ≡ (v || x)
    go u v true h = or_true u ∙ sym (or_true v)
    go u v false h = ap (λ z. z || false) (h refl)

agree_folded : {P : Type 0} (S : Setup P) (b : ℕ) (left : List ℕ) (ts : List (Term P)) (adj : ℕ → ℕ → Bool) → member b left ≡ true → Agree left (share ts) adj
    → Agree (drop_bay b left) (share (folded S.ops S.passing.choices b ts)) (connect b adj)
agree_folded S b left ts adj h same i j m n e =
    share_folded S b ts i j (kept b left i m).0 (kept b left j n).0 ∙ agree_connect b left (share ts) adj h same i j m n e

-- counting
record Within {P : Type 0} (limit : ℕ) (s t : Sofar P) (f : ℕ) : Type 0 where
  visits : t.count ≤ s.count + f
  limited : s.count ≤ limit → t.count ≤ limit
  at_limit : (s.stopped ≡ true → s.count ≡ limit) → t.stopped ≡ true → t.count ≡ limit
  stops : t.stopped ≡ true → (s.stopped ≡ true) ⊎ (limit < s.count + f)

more : {m n : ℕ} → m ≤ n → (m ≡ n → ⊥) → m + 1 ≤ n
more h k = omega arith

module _ {P : Type 0} (S : Setup P) where
  still : (s : Sofar P) → Within S.limit s s 0
  still s = record { visits = omega arith; limited = λ h. h; at_limit = λ h. h; stops = inl }

  landed : (p : P) (π : Plan) (s : Sofar P) → Within S.limit s (arrived p π s) 0
  landed p π s = record { visits = omega arith; limited = λ h. h; at_limit = λ h. h; stops = inl }

  onwards : (s t u : Sofar P) (f g : ℕ) → Within S.limit s t f → Within S.limit t u g → Within S.limit s u (f + g)
  onwards s t u f g d e = record {
    visits = omega arith;
    limited = λ h. e.limited (d.limited h);
    at_limit = λ h. e.at_limit (d.at_limit h);
    stops = λ x. elim (e.stops x) [ inl y ↦ elim (d.stops y) [ inl z ↦ inl z | inr z ↦ inr (omega arith) ] | inr y ↦ inr (omega arith) ];
  }

  each_within : (n g : ℕ) (f : ℕ → Sofar P → Sofar P) → ((c : ℕ) (s : Sofar P) → Within S.limit s (f c s) g) → (s : Sofar P) → Within S.limit s (each n f s) (n * g)
  each_within zero g f h s = let z : 0 ≡ 0 * g = omega arith in rw z at (still s)
  each_within (suc n) g f h s =
      let d = onwards s (each n f s) _ (n * g) g (each_within n g f h s) (h n (each n f s)) in
      let e : n * g + g ≡ suc n * g = omega arith in
      rw e at d

  gate_within : (low : P) (rest : Sofar P → Sofar P) (s : Sofar P) (g : ℕ) → Within S.limit (counted s) (rest (counted s)) g → Within S.limit s (enter S low rest s) (1 + g)
  gate_within low rest s g d = go s.stopped (eqb s.count S.limit) refl refl (S.ops.at_most s.best low)
    where
      go : (x y : Bool) → s.stopped ≡ x → eqb s.count S.limit ≡ y → (z : Bool) → Within S.limit s (gate (x || y) z rest s) (1 + g)
      go true y e q z = record { visits = omega arith; limited = λ h. h; at_limit = λ h _. h e; stops = λ _. inl e }
      go false true e q z = let k = eqb-true _ _ q in record { visits = omega arith; limited = λ h. h; at_limit = λ h _. k; stops = λ _. inr (omega arith) }
      go false false e q true = let k = eqb-false _ _ q in record { visits = omega arith; limited = λ h. more h k; at_limit = λ h x. absurd (both_ways _ e x); stops = inl }
      go false false e q false = let k = eqb-false _ _ q in record {
        visits = omega arith;
        limited = λ h. d.limited (more h k);
        at_limit = λ h. d.at_limit (λ x. absurd (both_ways _ e x));
        stops = λ x. elim (d.stops x) [ inl y ↦ inl y | inr y ↦ inr (omega arith) ];
      }

  either : (R : (Sofar P → Sofar P) → ℕ → Type 0) (x : Bool) (f g : Sofar P → Sofar P) (l : Line) (k k' : List Line) → l.fold ≡ x
      → R f (1 + forecast k) → R g (1 + l.tries * forecast k') → R (elim x [ true ↦ f | false ↦ g ]) (forecast (l ∷ (elim x [ true ↦ k | false ↦ k' ])))
  either R true f g l k k' e p q = rw e p
  either R false f g l k k' e p q = rw e q

  visit_within : (n : ℕ) (left : List ℕ) (ts : List (Term P)) (unused : ℕ) (σ : Plan) (folds : List (Fold P)) (adj : ℕ → ℕ → Bool) → Agree left (share ts) adj
      → (s : Sofar P) → Within S.limit s (visit S n left ts unused σ folds s) (forecast (course S.passing n left adj unused))
  visit_within zero left ts unused σ folds adj same s = gate_within _ _ s 0 (landed _ _ (counted s))
  visit_within (suc n) [] ts unused σ folds adj same s = gate_within _ _ s 0 (landed _ _ (counted s))
  visit_within (suc n) (r ∷ rs) ts unused σ folds adj same s =
      let lines : Step → List Line = λ d. record { bay = d.bay; tries = S.passing.choices d.bay; fold = d.fold } ∷ (elim d.fold [
        | true ↦ course S.passing n (drop_bay d.bay (r ∷ rs)) (connect d.bay adj) (unused - d.cells)
        | false ↦ course S.passing n (drop_bay d.bay (r ∷ rs)) adj unused
      ]) in
      subst (λ d. Within S.limit s (visit S (suc n) (r ∷ rs) ts unused σ folds s) (forecast (lines d))) (decide_agree S.passing (share ts) adj unused r rs same)
      (let d = decide S.passing (share ts) unused r rs in
      let b = d.bay in
      either (λ f m. Within S.limit s (enter S (S.bound ts (r ∷ rs) σ) f s) m) d.fold _ _ (record { bay = b; tries = S.passing.choices b; fold = d.fold }) _ _ refl
      (gate_within _ _ s _ (visit_within n (drop_bay b (r ∷ rs)) (folded S.ops S.passing.choices b ts) _ σ _ (connect b adj) (agree_folded S b (r ∷ rs) ts adj (decide_in S.passing (share ts) unused r rs) same) (counted s)))
      (gate_within _ _ s _ (each_within (S.passing.choices b) _ _ (λ c t. visit_within n (drop_bay b (r ∷ rs)) ts unused (put b c σ) folds adj (agree_drop b (r ∷ rs) (share ts) adj same) t) (counted s))))

  counts : (bays : List ℕ) (terms : List (Term P)) (cells : ℕ) (ceiling : P) → Counts (forecast (course S.passing (length bays) bays (share terms) cells)) S.limit (search S bays terms cells ceiling)
  counts bays terms cells ceiling =
      let d = visit_within (length bays) bays terms cells (λ _. 0) [] (share terms) (λ i j m n e. refl) (begun ceiling) in
      record {
        visits = omega (arith, d.visits);
        limited = d.limited (omega arith);
        at_limit = d.at_limit (λ y. absurd (false≢true y));
        stops = λ x. elim (d.stops x) [ inl y ↦ absurd (false≢true y) | inr y ↦ omega arith ];
      }

pub search_counts : {P : Type 0} → SearchCounts P
search_counts = counts
