-- The choices that the lines set, as lines come and change.
use Rattle.std.proofs.Common.{◌≡◌, ℕ, zero, suc, ◌+◌, ◌<◌, ◌≤◌, Bool, true, false, cond, eqb, List, [], ◌∷◌, ◌++◌, length, get_or, replicate, set, take, sym, refl, ap, ◌∙◌, subst, ap₂, le_refl, arith, eqb-true, length-set}
use Rattle.std.proofs.lemmas.List.{get_or_default, get_or_push, get_or-take, length-take, length_push, take-take}
use Rattle.std.proofs.Math.Seq.{take-append_seam}
use mathlib.Core.Path.{fun_ext}
use native.Mathlib.Decide.{dec_lt}
use Rattle.model.specs.Terms.{Plan, put}
use Rattle.search.proofs.Steps.{bytes_put}
use Rattle.search.specs.Force.{Told, no_line, nth_line, line_at}
use Rattle.search.specs.Places.{byte_of, PlanOk}
use Rattle.search.specs.Visit.{set_in, ChoicesOk, Kept}
use Rattle.search.specs.declared.state.Line.{Line}

module _ (lines : List Line) where
  pub set_none : set_in lines 0 ≡ (λ _. 0)
  unfolding set_in
  set_none = refl

  pub set_folded : (d : ℕ) → (line_at lines d).folded ≡ true → set_in lines (d + 1) ≡ set_in lines d
  unfolding set_in
  set_folded d e = let z : d + 1 ≡ suc d = omega arith in rw (z, e) refl

  pub set_branched : (d : ℕ) → (line_at lines d).folded ≡ false → set_in lines (d + 1) ≡ put (line_at lines d).bay (line_at lines d).choice (set_in lines d)
  unfolding set_in
  set_branched d e = let z : d + 1 ≡ suc d = omega arith in rw (z, e) refl

zeros : (n i : ℕ) → get_or (replicate {A = ℕ} n 0) i 0 ≡ 0
zeros zero i = refl
zeros (suc n) zero = refl
zeros (suc n) (suc i) = zeros n i

-- with no line each bay has its first choice
pub sets_none : (lines : List Line) → (length (replicate {A = ℕ} 24 0) ≡ 24) × (byte_of (replicate {A = ℕ} 24 0) ≡ set_in lines 0)
sets_none lines = (refl, fun_ext (zeros 24) ∙ sym (set_none lines))

-- a line of the first n
pub taken : (lines : List Line) (n d : ℕ) (z : Line) → d < length (take n lines) → get_or (take n lines) d z ≡ nth_line lines d
taken lines n d z h = get_or_default (take n lines) d z no_line h ∙ get_or-take n lines d no_line (omega (arith, length-take n lines))

-- the last of the first items, and those before it
pub newest_taken : {X : Type 0} (z : X) (xs rest new : List X) (x : X) → rest ≡ take (length rest) xs → rest ≡ new ++ x ∷ [] → (length rest ≡ length new + 1) × (x ≡ get_or xs (length new) z) × (new ≡ take (length new) xs)
newest_taken z xs rest new x t p =
    let n : length rest ≡ length new + 1 = ap length p ∙ length_push new x in
    let all : take (length new + 1) xs ≡ new ++ x ∷ [] = ap (λ (k : ℕ). take k xs) (sym n) ∙ sym t ∙ p in (
      n,
      sym (get_or_push new x z (length new) refl) ∙ sym (ap (λ ys. get_or ys (length new) z) all) ∙ get_or-take (length new + 1) xs (length new) z (omega arith),
      sym (take-append_seam new (x ∷ [])) ∙ ap (take (length new)) (sym all) ∙ take-take (length new) (length new + 1) xs (omega arith),
    )

-- the next line sets its choice, or is folded
module _ (lines : List Line) (d : ℕ) (old : List ℕ) (long : length old ≡ 24) (is : byte_of old ≡ set_in lines d) where
  pub sets_folded : (line_at lines d).folded ≡ true → (length old ≡ 24) × (byte_of old ≡ set_in lines (d + 1))
  sets_folded e = (long, is ∙ sym (set_folded lines d e))

  pub sets_branched : (new : List ℕ) → new ≡ set old (line_at lines d).bay (line_at lines d).choice → (line_at lines d).folded ≡ false → (line_at lines d).bay < 24 → (length new ≡ 24) × (byte_of new ≡ set_in lines (d + 1))
  sets_branched new n e h = let l = line_at lines d in (
    ap length n ∙ length-set old l.bay l.choice ∙ long,
    ap byte_of n ∙ bytes_put old l.bay l.choice (omega arith) ∙ ap (put l.bay l.choice) is ∙ sym (set_branched lines d e),
  )

-- lines that stay set what they set
pub set_kept_in : (lines lines' : List Line) (d : ℕ) → Kept lines lines' d → (e : ℕ) → e ≤ d → set_in lines' e ≡ set_in lines e
unfolding set_in
set_kept_in lines lines' d kept zero h = refl
set_kept_in lines lines' d kept (suc e) h =
    ap₂ (λ (l : Told) (π : Plan). cond l.folded π (put l.bay l.choice π)) (kept e (omega arith)) (set_kept_in lines lines' d kept e (omega arith))

-- each choice that is set is one of the bay's
pub set_legal : (cs : List ℕ) (lines : List Line) (d : ℕ) → ChoicesOk cs lines d → (i : ℕ) → 0 < get_or cs i 0 → set_in lines d i < get_or cs i 0
unfolding set_in
set_legal cs lines zero ok i h = h
set_legal cs lines (suc d) ok i h = go (line_at lines d).folded refl (set_legal cs lines d (λ e l. ok e (omega arith)) i h)
  where
    go : (x : Bool) → (line_at lines d).folded ≡ x → set_in lines d i < get_or cs i 0 → cond x (set_in lines d) (put (line_at lines d).bay (line_at lines d).choice (set_in lines d)) i < get_or cs i 0
    go true q below = below
    go false q below = at (eqb i (line_at lines d).bay) refl
      where
        at : (y : Bool) → eqb i (line_at lines d).bay ≡ y → cond y (line_at lines d).choice (set_in lines d i) < get_or cs i 0
        at true r = let z = eqb-true i (line_at lines d).bay r in subst (λ (b : ℕ). (line_at lines d).choice < get_or cs b 0) (sym z) (ok d (le_refl (suc d)) q).1
        at false r = below

pub set_ok_in : (cs : List ℕ) (lines : List Line) (d : ℕ) (plan : List ℕ) → ChoicesOk cs lines d → byte_of plan ≡ set_in lines d → PlanOk cs plan
set_ok_in cs lines d plan ok e i h = subst (λ (π : Plan). π i < get_or cs i 0) (sym e) (set_legal cs lines d ok i h)

pub choices_kept : (cs : List ℕ) (lines lines' : List Line) (d : ℕ) → Kept lines lines' d → ChoicesOk cs lines d → ChoicesOk cs lines' d
choices_kept cs lines lines' d kept ok e h f = let q = kept e h in subst (λ (l : Told). (l.bay < 24) × (l.choice < get_or cs l.bay 0)) (sym q) (ok e h (sym (ap (λ (l : Told). l.folded) q) ∙ f))

pub choices_up : (cs : List ℕ) (lines : List Line) (d : ℕ) → ChoicesOk cs lines d
    → ((line_at lines d).folded ≡ false → ((line_at lines d).bay < 24) × ((line_at lines d).choice < get_or cs (line_at lines d).bay 0)) → ChoicesOk cs lines (d + 1)
choices_up cs lines d old new e h = elim (dec_lt e d) [ yes lt ↦ old e lt | no ge ↦ (let z : e ≡ d = omega arith in rw z new) ]
