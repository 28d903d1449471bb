-- A visit with terms that stand for others is a visit with those.
use Rattle.std.proofs.Common.{◌≡◌, ℕ, zero, suc, ◌-◌, ◌<◌, Bool, true, false, not, ◌||◌, eqb, List, [], ◌∷◌, ◌++◌, sym, refl, ap, ◌∙◌, ap₂, le_refl, arith}
use Rattle.model.specs.Lists.{member}
use Rattle.model.specs.Course.{Step, decide, drop_bay}
use Rattle.model.specs.Terms.{Plan, put, Term, cost, chosen, floor, touching, join, folded, Legal, Fold, read}
use Rattle.model.specs.Search.{Setup, Sofar, counted, arrived, gate, enter, each, share, visit}
use Rattle.model.specs.Stands.{Stands, AllStand, none_left, and_stand, ReadAlike, VisitServes}
use Rattle.model.proofs.Listed.{decide_in}
use Rattle.model.proofs.Ordered.{put_is, put_legal, least_at_lt}
use Rattle.model.proofs.Adjacent.{kept, decide_agree}
use Rattle.model.proofs.Standing.{apart, branched, passed, floor_same, share_same, keep_stand, tabled, chosen_same, not_dropped}

pub stand_append : {P : Type 0} (choices : ℕ → ℕ) (bays left : List ℕ) (σ : Plan) {us ts : List (Term P)} {u t : Term P} → AllStand choices bays left σ us ts → Stands choices bays left σ u t → AllStand choices bays left σ (us ++ (u ∷ [])) (ts ++ (t ∷ []))
stand_append choices bays left σ none_left s = and_stand s none_left
stand_append choices bays left σ (and_stand x r) s = and_stand x (stand_append choices bays left σ r s)

pub stand_map : {P : Type 0} (choices : ℕ → ℕ) (bays left left' : List ℕ) (σ σ' : Plan) → ((u t : Term P) → Stands choices bays left σ u t → Stands choices bays left' σ' u t) → {us ts : List (Term P)} → AllStand choices bays left σ us ts → AllStand choices bays left' σ' us ts
stand_map choices bays left left' σ σ' f none_left = none_left
stand_map choices bays left left' σ σ' f (and_stand {u = u} {t = t} x r) = and_stand (f u t x) (stand_map choices bays left left' σ σ' f r)

pub stand_self : {P : Type 0} (choices : ℕ → ℕ) (bays left : List ℕ) (σ : Plan) (us : List (Term P)) → AllStand choices bays left σ us us
stand_self choices bays left σ [] = none_left
stand_self choices bays left σ (u ∷ us) = and_stand (record { touches = λ i m. refl; agrees = λ π l q. refl }) (stand_self choices bays left σ us)

cases : (R : Bool → Type 0) (x : Bool) → R true → R false → R x
cases R true p q = p
cases R false p q = q

module _ {P : Type 0} (S : Setup P) where
  pub enter_same : (low : P) (f g : Sofar P → Sofar P) (s : Sofar P) → f (counted s) ≡ g (counted s) → enter S low f s ≡ enter S low g s
  enter_same low f g s e = go (s.stopped || eqb s.count S.limit) (S.ops.at_most s.best low)
    where
      go : (x y : Bool) → gate x y f s ≡ gate x y g s
      go true y = refl
      go false true = refl
      go false false = e

  pub each_same : (n : ℕ) (f g : ℕ → Sofar P → Sofar P) → ((c : ℕ) (s : Sofar P) → c < n → f c s ≡ g c s) → (s : Sofar P) → each n f s ≡ each n g s
  each_same zero f g h s = refl
  each_same (suc n) f g h s = h n (each n f s) (le_refl (suc n)) ∙ ap (g n) (each_same n f g (λ c s k. h c s (omega arith)) s)

  module _ (isf : S.bound ≡ floor S.ops S.passing.choices) (bays : List ℕ) (pos : (i : ℕ) → member i bays ≡ true → 0 < S.passing.choices i) where
    abbrev step : List ℕ → ℕ → ℕ → Plan → List (Fold P) → List (Term P) → Step → Bool → Sofar P → Sofar P
    step left n unused σ folds ts d true = visit S n (drop_bay d.bay left) (folded S.ops S.passing.choices d.bay ts) (unused - d.cells) σ (record { bay = d.bay; terms = ts } ∷ folds)
    step left n unused σ folds ts d false = each (S.passing.choices d.bay) (λ c. visit S n (drop_bay d.bay left) ts unused (put d.bay c σ) folds)

    low_same : (left : List ℕ) {us ts : List (Term P)} (σ : Plan) → Legal S.passing.choices bays σ → AllStand S.passing.choices bays left σ us ts → S.bound us left σ ≡ S.bound ts left σ
    low_same left σ legal all = rw isf (floor_same S.ops S.passing.choices bays left σ all legal)

    leaf_same : (left : List ℕ) {us ts : List (Term P)} (σ : Plan) (fu ft : List (Fold P)) → Legal S.passing.choices bays σ → AllStand S.passing.choices bays left σ us ts → ReadAlike S bays left σ fu ft → (s : Sofar P)
        → enter S (S.bound us left σ) (arrived (S.bound us left σ) (read S.ops S.passing.choices fu σ)) s ≡ enter S (S.bound ts left σ) (arrived (S.bound ts left σ) (read S.ops S.passing.choices ft σ)) s
    leaf_same left σ fu ft legal all reads s = ap₂ (λ low (r : Plan). enter S low (arrived low r) s) (low_same left σ legal all) (reads σ legal (λ i m. refl))

    pub visit_same : (n : ℕ) (left : List ℕ) {us ts : List (Term P)} (unused : ℕ) (σ : Plan) (fu ft : List (Fold P)) → Legal S.passing.choices bays σ → ((i : ℕ) → member i left ≡ true → member i bays ≡ true)
        → AllStand S.passing.choices bays left σ us ts → ReadAlike S bays left σ fu ft → (s : Sofar P) → visit S n left us unused σ fu s ≡ visit S n left ts unused σ ft s
    visit_same zero left unused σ fu ft legal among all reads s = leaf_same left σ fu ft legal all reads s
    visit_same (suc n) [] unused σ fu ft legal among all reads s = leaf_same [] σ fu ft legal all reads s
    visit_same (suc n) (r ∷ rs) {us = us} {ts = ts} unused σ fu ft legal among all reads s =
        let left = r ∷ rs in
        let same_d = decide_agree S.passing (share us) (share ts) unused r rs (λ i j m k _. share_same S.ops S.passing.choices bays left σ all i j m k) in
        let d = decide S.passing (share ts) unused r rs in
        let m = decide_in S.passing (share ts) unused r rs in
        ap₂ (λ low (x : Step). enter S low (step left n unused σ fu us x x.fold) s) (low_same left σ legal all) same_d
        ∙ enter_same (S.bound ts left σ) (step left n unused σ fu us d d.fold) (step left n unused σ ft ts d d.fold) s
        (let b = d.bay in
        let rest = drop_bay b (r ∷ rs) in
        let joined = tabled S.ops S.passing.choices bays (r ∷ rs) σ b m all (join S.ops S.passing.choices b (touching b us)) (λ i k. rw (kept b (r ∷ rs) i k).0 refl) (λ π l q. refl) in
        cases (λ (x : Bool). step left n unused σ fu us d x (counted s) ≡ step left n unused σ ft ts d x (counted s)) d.fold
        (visit_same n rest (unused - d.cells) σ (record { bay = b; terms = us } ∷ fu) (record { bay = b; terms = ts } ∷ ft) legal (λ i k. among i (kept b (r ∷ rs) i k).1)
        (stand_append S.passing.choices bays rest σ (stand_map S.passing.choices bays (r ∷ rs) rest σ σ (passed S.ops S.passing.choices bays (r ∷ rs) σ b) (keep_stand S.ops S.passing.choices bays (r ∷ rs) σ not b m all)) joined)
        (λ π l q. ap (λ (c : ℕ). read S.ops S.passing.choices fu (put b c π)) (chosen_same S.ops S.passing.choices bays (r ∷ rs) σ b m all π l q)
        ∙ reads (put b (chosen S.ops S.passing.choices b ts π) π) (put_legal S.passing.choices bays b _ π (least_at_lt S.ops (S.passing.choices b) (λ c. cost S.ops (touching b ts) (put b c π)) (pos b (among b m))) l)
        (λ i k. sym (put_is b _ π i (σ i) (λ e. apart left b i m k e) (λ _. sym (q i (not_dropped b i (r ∷ rs) k)))))) (counted s))
        (each_same (S.passing.choices b) _ _ (λ c s k. visit_same n rest unused (put b c σ) fu ft (put_legal S.passing.choices bays b c σ k legal) (λ i k. among i (kept b (r ∷ rs) i k).1)
        (stand_map S.passing.choices bays (r ∷ rs) rest σ (put b c σ) (λ u t. branched S.ops S.passing.choices bays (r ∷ rs) σ b c u t m) all)
        (λ π l q. reads π l (λ i k. sym (put_is b c σ i (σ i) (λ e. apart left b i m k e) (λ _. refl)) ∙ q i (not_dropped b i (r ∷ rs) k))) s) (counted s)))

pub visit_serves : {P : Type 0} → VisitServes P
visit_serves S isf bays pos n left among us ts unused σ fu ft legal all reads = visit_same S isf bays pos n left unused σ fu ft legal among all reads
