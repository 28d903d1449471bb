-- Terms that stand for others serve a visit as well: its branches, its floor, and its folds.
use Rattle.std.proofs.Common.{◌≡◌, ℕ, zero, suc, ◌<◌, Bool, true, false, cond, not, eqb, List, [], ◌∷◌, sym, refl, ◌∙◌, ap₂, le_refl, arith}
use Rattle.std.proofs.lemmas.Bool.{both_ways, or_right, and_right}
use Rattle.model.specs.Prices.{Ops}
use Rattle.model.specs.Lists.{keep, any, member}
use Rattle.model.specs.Course.{drop_bay}
use Rattle.model.specs.Terms.{Plan, put, Term, cost, least, least_at, chosen, least_price, floor, touching, join, Legal, Completes}
use Rattle.model.specs.Search.{share}
use Rattle.model.specs.Stands.{Stands, AllStand, none_left, and_stand}
use Rattle.model.proofs.Kept.{member_keep}
use Rattle.model.proofs.Adjacent.{kept}
use Rattle.model.proofs.Ordered.{member_head, put_is, put_legal}

pub least_same : {P : Type 0} (o : Ops P) (n : ℕ) (f g : ℕ → P) → ((c : ℕ) → c < n → f c ≡ g c) → least o n f ≡ least o n g
least_same o zero f g h = refl
least_same o (suc zero) f g h = h 0 (omega arith)
least_same o (suc (suc n)) f g h = rw (least_same o (suc n) f g (λ c k. h c (omega arith)), h (suc n) (le_refl (suc (suc n)))) refl

pub not_dropped : (b i : ℕ) (left : List ℕ) → member i left ≡ false → member i (drop_bay b left) ≡ false
not_dropped b i left m = member_keep (λ j. not (eqb j b)) i left ∙ and_right (not (eqb i b)) (member i left) m

-- a bay that is not left is no bay left
pub apart : {A : Type 0} (left : List ℕ) (b i : ℕ) → member b left ≡ true → member i left ≡ false → i ≡ b → A
apart left b i m n e = absurd (both_ways (member b left) (rw e at n) m)

module _ {P : Type 0} (o : Ops P) (choices : ℕ → ℕ) (bays left : List ℕ) (σ : Plan) where
  -- a branch: with b set to c, and no longer left
  pub branched : (b c : ℕ) (u t : Term P) → member b left ≡ true → Stands choices bays left σ u t → Stands choices bays (drop_bay b left) (put b c σ) u t
  branched b c u t m s = record {
    touches = λ i k. s.touches i (kept b left i k).1;
    agrees = λ π l q. s.agrees π l (λ i n. sym (put_is b c σ i (σ i) (λ e. apart left b i m n e) (λ _. refl)) ∙ q i (not_dropped b i left n));
  }

  -- a fold: b is no longer left
  pub passed : (b : ℕ) (u t : Term P) → Stands choices bays left σ u t → Stands choices bays (drop_bay b left) σ u t
  passed b u t s = record {
    touches = λ i k. s.touches i (kept b left i k).1;
    agrees = λ π l q. s.agrees π l (λ i n. q i (not_dropped b i left n));
  }

  least_price_same : (u t : Term P) → Stands choices bays left σ u t → (bs : List ℕ) → ((i : ℕ) → member i bs ≡ true → member i left ≡ true) → (ρ : Plan) → Legal choices bays ρ → Completes left σ ρ
      → least_price o choices u bs ρ ≡ least_price o choices t bs ρ
  least_price_same u t s [] among ρ l q = s.agrees ρ l q
  least_price_same u t s (b ∷ bs) among ρ l q =
      let m = among b (member_head b bs) in
      let there : (i : ℕ) → member i bs ≡ true → member i left ≡ true = λ i k. among i (or_right (eqb i b) _ k) in
      rw (
        s.touches b m,
        least_price_same u t s bs there ρ l q,
        least_same o (choices b) _ _ (λ c k. least_price_same u t s bs there (put b c ρ) (put_legal choices bays b c ρ k l)
            (λ i n. sym (put_is b c ρ i (σ i) (λ e. apart left b i m n e) (λ _. sym (q i n))))),
      ) refl

  pub floor_same : {us ts : List (Term P)} → AllStand choices bays left σ us ts → Legal choices bays σ → floor o choices us left σ ≡ floor o choices ts left σ
  floor_same none_left l = refl
  floor_same (and_stand {u = u} {t = t} s r) l = ap₂ o.combine (least_price_same u t s left (λ i m. m) σ l (λ i m. refl)) (floor_same r l)

  pub share_same : {us ts : List (Term P)} → AllStand choices bays left σ us ts → (i j : ℕ) → member i left ≡ true → member j left ≡ true → share us i j ≡ share ts i j
  share_same none_left i j m n = refl
  share_same (and_stand s r) i j m n = rw (s.touches i m, s.touches j n, share_same r i j m n) refl

  cost_same : {us ts : List (Term P)} → AllStand choices bays left σ us ts → (π : Plan) → Legal choices bays π → Completes left σ π → cost o us π ≡ cost o ts π
  cost_same none_left π l q = refl
  cost_same (and_stand s r) π l q = ap₂ o.combine (s.agrees π l q) (cost_same r π l q)

  -- what touches b on the one side stands for what touches it on the other, and so does the rest
  pub keep_stand : (p : Bool → Bool) (b : ℕ) → member b left ≡ true → {us ts : List (Term P)} → AllStand choices bays left σ us ts → AllStand choices bays left σ (keep (λ t. p (t.scope b)) us) (keep (λ t. p (t.scope b)) ts)
  keep_stand p b m none_left = none_left
  keep_stand p b m (and_stand {u = u} {t = t} {us = us} {ts = ts} s r) = rw (s.touches b m) (go (p (t.scope b)) (keep_stand p b m r))
    where
      go : (x : Bool) → AllStand choices bays left σ (keep (λ t. p (t.scope b)) us) (keep (λ t. p (t.scope b)) ts)
          → AllStand choices bays left σ (cond x (u ∷ keep (λ t. p (t.scope b)) us) (keep (λ t. p (t.scope b)) us)) (cond x (t ∷ keep (λ t. p (t.scope b)) ts) (keep (λ t. p (t.scope b)) ts))
      go true k = and_stand s k
      go false k = k

  pub any_same : {us ts : List (Term P)} → AllStand choices bays left σ us ts → (i : ℕ) → member i left ≡ true → any (λ t. t.scope i) us ≡ any (λ t. t.scope i) ts
  any_same none_left i m = refl
  any_same (and_stand s r) i m = rw (s.touches i m, any_same r i m) refl

  pub least_at_same : (n : ℕ) (f g : ℕ → P) → ((c : ℕ) → c < n → f c ≡ g c) → least_at o n f ≡ least_at o n g
  least_at_same zero f g h = refl
  least_at_same (suc zero) f g h = refl
  least_at_same (suc (suc n)) f g h = rw (least_same o (suc n) f g (λ c k. h c (omega arith)), least_at_same (suc n) f g (λ c k. h c (omega arith)), h (suc n) (le_refl (suc (suc n)))) refl

  module _ (b : ℕ) (m : member b left ≡ true) {us ts : List (Term P)} (all : AllStand choices bays left σ us ts) where
    pub trial_same : (π : Plan) → Legal choices bays π → Completes (drop_bay b left) σ π → (c : ℕ) → c < choices b → cost o (touching b us) (put b c π) ≡ cost o (touching b ts) (put b c π)
    trial_same π l q c k = cost_same (keep_stand (λ x. x) b m all) (put b c π) (put_legal choices bays b c π k l)
        (λ i n. sym (put_is b c π i (σ i) (λ e. apart left b i m n e) (λ _. sym (q i (not_dropped b i left n)))))

    -- a table v, worked out under σ from us, stands for the join of ts
    pub tabled : (v : Term P) → ((i : ℕ) → member i (drop_bay b left) ≡ true → v.scope i ≡ any (λ t. t.scope i) (touching b us))
        → ((π : Plan) → Legal choices bays π → Completes (drop_bay b left) σ π → v.value π ≡ least o (choices b) (λ c. cost o (touching b us) (put b c π)))
        → Stands choices bays (drop_bay b left) σ v (join o choices b (touching b ts))
    tabled v scopes values = record {
      touches = λ i k. scopes i k ∙ any_same (keep_stand (λ x. x) b m all) i (kept b left i k).1 ∙ rw (kept b left i k).0 refl;
      agrees = λ π l q. values π l q ∙ least_same o (choices b) _ _ (trial_same π l q);
    }

    -- and a folded bay is read back alike
    pub chosen_same : (π : Plan) → Legal choices bays π → Completes (drop_bay b left) σ π → chosen o choices b us π ≡ chosen o choices b ts π
    chosen_same π l q = least_at_same (choices b) _ _ (trial_same π l q)
