-- The state's facts, as lines and cells change.
use Rattle.std.proofs.Common.{◌≡◌, ℕ, ◌+◌, ◌-◌, ◌^◌, ◌<◌, ◌≤◌, Bool, true, false, not, ◌≢◌, List, [], ◌∷◌, length, get_or, set, sym, refl, ap, ◌∙◌, subst, arith}
use Rattle.std.proofs.lemmas.Bool.{and_parts}
use native.Mathlib.Decide.{dec_lt}
use Rattle.std.proofs.lemmas.List.{get_or-set_same, get_or-set_other}
use Rattle.model.proofs.Bits.{has_minus, has_none, some_bay, minus_small}
use Rattle.model.proofs.Listed.{drop_fewer}
use Rattle.model.proofs.Ordered.{member_head}
use Rattle.model.specs.Books.{Meaning}
use Rattle.model.specs.Course.{drop_bay}
use Rattle.model.specs.Lists.{member, product}
use Rattle.model.specs.Sets.{has, one, minus}
use Rattle.search.proofs.Kits.{clash}
use Rattle.course.proofs.Bayed.{bays_member, drop_is}
use lib.Count.{count_trailing_zeros}
use Rattle.search.proofs.Members.{members_sound, bays_same}
use Rattle.search.proofs.Sizes.{size_step}
use Rattle.search.specs.Force.{Told, told, no_line, line_at, Fits}
use Rattle.search.specs.Places.{bays_from, byte_of, Open, Few}
use Rattle.search.specs.Visit.{ChoicesOk, Tabled, Stack, State, Kept}
use Rattle.search.specs.declared.state.Left.{Left}
use Rattle.search.specs.declared.state.Line.{Line}
use Rattle.search.specs.declared.state.Search.{Search}

-- the remaining bays without one
module _ (remaining b rest : ℕ) (is : rest ≡ minus remaining (one b)) where
  pub rest_list : bays_from rest 0 ≡ drop_bay b (bays_from remaining 0)
  rest_list = ap (λ (x : ℕ). bays_from x 0) is ∙ bays_same (minus remaining (one b)) ∙ sym (drop_is remaining b) ∙ ap (drop_bay b) (sym (bays_same remaining))

  pub rest_open : (cs : List ℕ) → Open cs remaining → Open cs rest
  rest_open cs o i e = o i (and_parts (has remaining i) (not (has (one b) i)) (sym (ap (λ (x : ℕ). has x i) is ∙ has_minus remaining (one b) i) ∙ e)).0

  pub rest_small : remaining < 2 ^ 24 → rest < 2 ^ 24
  rest_small h = subst (λ (x : ℕ). x < 2 ^ 24) (sym is) (minus_small 24 remaining (one b) h)

  pub rest_less : member b (bays_from remaining 0) ≡ true → length (bays_from rest 0) < length (bays_from remaining 0)
  rest_less m = rw rest_list (drop_fewer b (bays_from remaining 0) m)

pub some_bays : (m : ℕ) → 0 < m → m < 2 ^ 24 → 0 < length (bays_from m 0)
some_bays m some small = filled (bays_from m 0) (count_trailing_zeros 24 m) (ap (member (count_trailing_zeros 24 m)) (bays_same m) ∙ bays_member m (count_trailing_zeros 24 m) small ∙ some_bay m some small)
  where
    filled : (xs : List ℕ) (x : ℕ) → member x xs ≡ true → 0 < length xs
    filled [] x e = clash e refl
    filled (y ∷ ys) x e = omega arith

pub set_kept : (lines : List Line) (d : ℕ) (x : Line) → Kept lines (set lines d x) d
set_kept lines d x e h = let ne : e ≢ d = omega arith in ap told (get_or-set_other lines d e x no_line ne)

pub set_at : (lines : List Line) (d : ℕ) (x : Line) → d < length lines → line_at (set lines d x) d ≡ told x
set_at lines d x h = ap told (get_or-set_same lines d x no_line h)

pub kept_trans : (l₁ l₂ l₃ : List Line) (d : ℕ) → Kept l₁ l₂ d → Kept l₂ l₃ d → Kept l₁ l₃ d
kept_trans l₁ l₂ l₃ d p q e h = q e h ∙ p e h

pub kept_less : (l₁ l₂ : List Line) (d d' : ℕ) → d' ≤ d → Kept l₁ l₂ d → Kept l₁ l₂ d'
kept_less l₁ l₂ d d' k p e h = p e (omega arith)

pub tabled_kept : (lines lines' : List Line) (d : ℕ) (force : List Bool) → Kept lines lines' d → Tabled lines d force → Tabled lines' d force
tabled_kept lines lines' d force k t j on h = let r = t j on h in (r.0, ap (λ (l : Told). l.folded) (k (j - 88) r.0) ∙ r.1)

pub stack_kept : (cs : List ℕ) (lines lines' : List Line) (d used : ℕ) → Kept lines lines' d → Stack cs lines d used → Stack cs lines' d used
stack_kept cs lines lines' d used k s = record {
  tables = λ e h f. let q = k e h in subst (λ (l : Told). l.offset + l.size ≤ used) (sym q) (s.tables e h (sym (ap (λ (l : Told). l.folded) q) ∙ f));
  forces = λ e h f. let q = k e h in subst (λ (l : Told). Tabled lines' d l.force) (sym q) (tabled_kept lines lines' d (line_at lines e).force k (s.forces e h (sym (ap (λ (l : Told). l.folded) q) ∙ f)));
  bays = λ e h f. let q = k e h in subst (λ (l : Told). (l.bay < 24) × (0 < get_or cs l.bay 0)) (sym q) (s.bays e h (sym (ap (λ (l : Told). l.folded) q) ∙ f));
}

pub tabled_up : (lines : List Line) (d : ℕ) (force : List Bool) → Tabled lines d force → Tabled lines (d + 1) force
tabled_up lines d force t j on h = let r = t j on h in (omega (arith, r.0), r.1)

newest_or : (e d : ℕ) → e < d + 1 → {A : Type 0} → (e ≡ d → A) → (e < d → A) → A
newest_or e d h p q = elim (dec_lt e d) [ yes lt ↦ q lt | no ge ↦ p (omega arith) ]

pub stack_up : (cs : List ℕ) (lines : List Line) (d used : ℕ) → (line_at lines d).folded ≡ false → Stack cs lines d used → Stack cs lines (d + 1) used
stack_up cs lines d used u s = record {
  tables = λ e h f. newest_or e d h (λ z. clash f (ap (λ (x : ℕ). (line_at lines x).folded) z ∙ u)) (λ lt. s.tables e lt f);
  forces = λ e h f. newest_or e d h (λ z. clash f (ap (λ (x : ℕ). (line_at lines x).folded) z ∙ u)) (λ lt. tabled_up lines d (line_at lines e).force (s.forces e lt f));
  bays = λ e h f. newest_or e d h (λ z. clash f (ap (λ (x : ℕ). (line_at lines x).folded) z ∙ u)) (λ lt. s.bays e lt f);
}

pub make_state : {P : Type 0} (m : Meaning P) (p : Search P) (cs : List ℕ) (d : ℕ) (left : Left) (total : ℕ) → p.choices ≡ cs → Fits m cs → Few cs → ChoicesOk cs p.lines d → Open cs left.remaining → left.remaining < 2 ^ 24
    → p.depth + length (bays_from left.remaining 0) ≤ 24 → left.used ≤ total → Tabled p.lines d left.force.now → Stack cs p.lines d left.used → State m p d left total
make_state m p cs d left total e fits few legal opened small deep room tabled stack = record {
  fits = subst (Fits m) (sym e) fits;
  few = subst Few (sym e) few;
  legal = subst (λ (c : List ℕ). ChoicesOk c p.lines d) (sym e) legal;
  opened = subst (λ (c : List ℕ). Open c left.remaining) (sym e) opened;
  small = small;
  deep = deep;
  room = room;
  tabled = tabled;
  stack = subst (λ (c : List ℕ). Stack c p.lines d left.used) (sym e) stack;
}

pub no_bays : bays_from 0 0 ≡ []
no_bays = empty (bays_from 0 0) (λ i e. clash (members_sound (has 0) i 0 24 e).0 (has_none i))
  where
    empty : (xs : List ℕ) → ((i : ℕ) → member i xs ≡ true → ⊥) → xs ≡ []
    empty [] f = refl
    empty (x ∷ xs) f = absurd (f x (member_head x xs))

pub product_small : (cs bs : List ℕ) → Few cs → product (byte_of cs) bs ≤ 8 ^ length bs
product_small cs [] few = omega arith
product_small cs (b ∷ bs) few = size_step (get_or cs b 0) (product (byte_of cs) bs) (length bs) (few b) (product_small cs bs few)
