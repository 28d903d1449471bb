-- How a visit of the model goes on.
use Rattle.std.proofs.Common.{◌≡◌, ℕ, zero, suc, ◌+◌, ◌-◌, ◌<◌, ◌≤◌, Bool, true, false, ◌||◌, eqb, List, [], ◌∷◌, length, sym, refl, ap, ◌∙◌, ap₂, arith, add-one, eq-eqb}
use native.Mathlib.Decide.{dec_lt}
use Rattle.std.proofs.lemmas.Bool.{ne_eqb}
use Rattle.model.specs.Course.{Step, decide}
use Rattle.model.specs.Search.{Setup, Sofar, halted, counted, arrived, gate, enter, each, share, visit}
use Rattle.model.specs.Terms.{Plan, Term, Fold, read}
use Rattle.search.specs.Visit.{passed, onward}

module _ {P : Type 0} (S : Setup P) (s : Sofar P) where
  enter_halted : (low : P) (rest : Sofar P → Sofar P) → (s.stopped || eqb s.count S.limit) ≡ true → enter S low rest s ≡ halted s
  enter_halted low rest e = ap (λ (x : Bool). gate x (S.ops.at_most s.best low) rest s) e

  enter_cut : (low : P) (rest : Sofar P → Sofar P) → (s.stopped || eqb s.count S.limit) ≡ false → S.ops.at_most s.best low ≡ true → enter S low rest s ≡ counted s
  enter_cut low rest e h = ap₂ (λ (x y : Bool). gate x y rest s) e h

  enter_on : (low : P) (rest : Sofar P → Sofar P) → (s.stopped || eqb s.count S.limit) ≡ false → S.ops.at_most s.best low ≡ false → enter S low rest s ≡ rest (counted s)
  enter_on low rest e h = ap₂ (λ (x y : Bool). gate x y rest s) e h

  halted_same : s.stopped ≡ true → halted s ≡ s
  halted_same e = ap (λ (x : Bool). record { count = s.count; best = s.best; plan = s.plan; stopped = x }) (sym e)

  pub at_limit : s.count ≡ S.limit → (s.stopped || eqb s.count S.limit) ≡ true
  at_limit e = go s.stopped (eq-eqb s.count S.limit e)
    where
      go : (x : Bool) {y : Bool} → y ≡ true → (x || y) ≡ true
      go true h = refl
      go false h = h

  pub below_limit : s.stopped ≡ false → (s.count ≡ S.limit → ⊥) → (s.stopped || eqb s.count S.limit) ≡ false
  below_limit f ne = rw (f, ne_eqb s.count S.limit ne) refl

  module _ (ts : List (Term P)) (unused : ℕ) (σ : Plan) (folds : List (Fold P)) where
    pub visit_halted : (n : ℕ) (left : List ℕ) → s.count ≡ S.limit → visit S n left ts unused σ folds s ≡ halted s
    visit_halted zero left e = enter_halted _ _ (at_limit e)
    visit_halted (suc n) left e = enter_halted _ _ (at_limit e)

    pub visit_idle : (n : ℕ) (left : List ℕ) → s.stopped ≡ true → visit S n left ts unused σ folds s ≡ s
    visit_idle zero left e = enter_halted _ _ (ap (λ (x : Bool). x || eqb s.count S.limit) e) ∙ halted_same e
    visit_idle (suc n) left e = enter_halted _ _ (ap (λ (x : Bool). x || eqb s.count S.limit) e) ∙ halted_same e

    pub visit_cut : (n : ℕ) (left : List ℕ) → s.stopped ≡ false → (s.count ≡ S.limit → ⊥) → S.ops.at_most s.best (S.bound ts left σ) ≡ true → visit S n left ts unused σ folds s ≡ counted s
    visit_cut zero left f ne h = enter_cut _ _ (below_limit f ne) h
    visit_cut (suc n) left f ne h = enter_cut _ _ (below_limit f ne) h

    pub visit_leaf : (n : ℕ) (left : List ℕ) → length left ≡ 0 → s.stopped ≡ false → (s.count ≡ S.limit → ⊥) → S.ops.at_most s.best (S.bound ts left σ) ≡ false
        → visit S n left ts unused σ folds s ≡ arrived (S.bound ts left σ) (read S.ops S.passing.choices folds σ) (counted s)
    visit_leaf zero left l f ne h = enter_on _ _ (below_limit f ne) h
    visit_leaf (suc n) [] l f ne h = enter_on _ _ (below_limit f ne) h
    visit_leaf (suc n) (r ∷ rs) l f ne h = absurd (omega arith)

    pub visit_on : (n : ℕ) (left : List ℕ) → 0 < length left → length left ≤ n → s.stopped ≡ false → (s.count ≡ S.limit → ⊥) → S.ops.at_most s.best (S.bound ts left σ) ≡ false
        → visit S n left ts unused σ folds s ≡ onward S (n - 1) left ts unused σ folds (counted s)
    visit_on zero left l k f ne h = absurd (omega arith)
    visit_on (suc n) [] l k f ne h = absurd (omega arith)
    visit_on (suc n) (r ∷ rs) l k f ne h = let z : suc n - 1 ≡ n = omega arith in enter_on _ _ (below_limit f ne) h ∙ sym (ap (λ (x : ℕ). onward S x (r ∷ rs) ts unused σ folds (counted s)) z)

-- where the decision is known
pub onward_is : {P : Type 0} (S : Setup P) (n : ℕ) (left : List ℕ) (ts : List (Term P)) (unused : ℕ) (σ : Plan) (folds : List (Fold P)) (s : Sofar P) (d : Step) → 0 < length left
    → ((r : ℕ) (rs : List ℕ) → left ≡ r ∷ rs → decide S.passing (share ts) unused r rs ≡ d) → onward S n left ts unused σ folds s ≡ passed S n left ts unused σ folds d d.fold s
onward_is S n [] ts unused σ folds s d l h = absurd (omega arith)
onward_is S n (r ∷ rs) ts unused σ folds s d l h = ap (λ (x : Step). passed S n (r ∷ rs) ts unused σ folds x x.fold s) (h r rs refl)

pub each_next : {A : Type 0} (n : ℕ) (f : ℕ → A → A) (s : A) → each (n + 1) f s ≡ f n (each n f s)
each_next n f s = rw add-one refl

-- where one choice ends in a stop, the later ones change nothing
pub each_still : {A : Type 0} (f : ℕ → A → A) (s : A) (stopped : A → Bool) (idle : (x : ℕ) (y : A) → stopped y ≡ true → f x y ≡ y) (m n : ℕ) → m ≤ n → stopped (each m f s) ≡ true → each n f s ≡ each m f s
each_still f s stopped idle m zero h e = let z : m ≡ 0 = omega arith in sym (ap (λ (x : ℕ). each x f s) z)
each_still f s stopped idle m (suc n) h e = elim (dec_lt n m) [
  | yes lt ↦ (let z : m ≡ suc n = omega arith in sym (ap (λ (x : ℕ). each x f s) z))
  | no ge ↦ (let r = each_still f s stopped idle m n (omega arith) e in idle n (each n f s) (ap stopped r ∙ e) ∙ r)
]
