-- A fold of the code is a fold of the model.
use Rattle.std.proofs.Common.{◌≡◌, ℕ, ◌+◌, ◌-◌, ◌<◌, ◌≤◌, Bool, true, false, cond, not, ◌&&◌, eqb, ltb, List, [], ◌∷◌, ◌++◌, map, length, get_or, take, drop, sym, refl, ap, ◌∙◌, ap₂, le_refl, arith, ltb-true, le-ltb, lt-ltb, eq-eqb}
use mathlib.Core.Path.{fun_ext}
use mathlib.Core.Bool.{false≢true}
use Rattle.std.proofs.lemmas.Bool.{and_parts, ne_eqb}
use Rattle.std.proofs.lemmas.List.{map-append}
use Rattle.model.proofs.Adjacent.{kept}
use Rattle.model.proofs.Serves.{stand_append, stand_self, visit_same}
use Rattle.model.proofs.Standing.{least_same, tabled, not_dropped}
use Rattle.course.specs.declared.bound.Bound.{Bound}
use Rattle.model.specs.Books.{Meaning}
use Rattle.model.specs.Course.{Answers, drop_bay}
use Rattle.model.specs.Lists.{member, any, product}
use Rattle.model.specs.Prices.{Ops}
use Rattle.model.specs.Search.{Sofar, visit}
use Rattle.model.specs.Sets.{has}
use Rattle.model.specs.Terms.{Plan, put, Term, Fold, least, cost, cost_stable, touching, others, folded, Legal, Completes}
use Rattle.search.proofs.Deciding.{share_is}
use Rattle.search.proofs.Folds.{terms_kept, folds_in, folds_kept}
use Rattle.model.proofs.Visits.{any_keep}
use Rattle.search.proofs.Kits.{clash}
use Rattle.model.specs.Searched.{within}
use Rattle.search.proofs.Members.{members_sound, members_complete, keep_members, map_members, keep_map, members_add}
use Rattle.search.proofs.Readings.{block_read}
use Rattle.search.proofs.Tables.{block_frame, term_frame, place_lt, decoded_here, decoded_there}
use Rattle.search.specs.Force.{Told, line_at, flag, scope_mask, block, table_value, raw, masked, term, terms_from, shares, trial}
use Rattle.search.specs.Places.{place, place_stable, members, bays_from, byte_of, decoded, Open, PlanOk}
use Rattle.search.specs.Visit.{setup_of, all_bays, folds_of, Tabled, Stack, Kept, is_near, after}
use Rattle.search.specs.declared.state.Line.{Line}

-- the term of a table
pub term_table : {P : Type 0} (K : Ops P) (m : Meaning P) (cs : List ℕ) (lines : List Line) (cells : List P) (d : ℕ) → term K m cs lines cells (88 + d) ≡ masked (line_at lines d).scope (table_value K cs (line_at lines d).scope (block cells (line_at lines d)))
unfolding raw scope_mask
term_table {P} K m cs lines cells d = ap₂ masked mask (fun_ext value)
  where
    lo : ltb (88 + d) 24 ≡ false
    lo = le-ltb (88 + d) 24 (omega arith)

    hi : ltb (88 + d) 88 ≡ false
    hi = le-ltb (88 + d) 88 (omega arith)

    z : 88 + d - 88 ≡ d
    z = omega arith

    mask : scope_mask m lines (88 + d) ≡ (line_at lines d).scope
    mask = rw (lo, hi, z) refl

    value : (π : Plan) → raw K m cs lines cells (88 + d) π ≡ table_value K cs (line_at lines d).scope (block cells (line_at lines d)) π
    value π = rw (lo, hi, z) refl

pub has_all : (cs : List ℕ) (i : ℕ) → i < 24 → 0 < get_or cs i 0 → member i (all_bays cs) ≡ true
has_all cs i h o = members_complete (λ i. ltb 0 (get_or cs i 0)) i 0 24 (lt-ltb 0 (get_or cs i 0) o) (omega arith) (omega arith)

pub all_open : (cs : List ℕ) (i : ℕ) → member i (all_bays cs) ≡ true → 0 < get_or cs i 0
all_open cs i e = ltb-true 0 (get_or cs i 0) (members_sound (λ i. ltb 0 (get_or cs i 0)) i 0 24 e).0

module _ {P : Type 0} (K : Ops P) (m : Meaning P) (cs : List ℕ) (lines lines' : List Line) (cells cells' : List P) (d used b near size remaining : ℕ) (force after' : List Bool) (plan : List ℕ)
    (len : length plan ≡ 24) (opened : Open cs remaining) (legal : PlanOk cs plan) (deep : d < 24) (tabled_ok : Tabled lines d force) (stack : Stack cs lines d used) (older : Kept lines lines' d)
    (line : line_at lines' d ≡ record { bay = b; choice = 0; folded = true; force = force; scope = near; offset = used; size = size })
    (same : take used cells' ≡ take used cells)
    (table : (k : ℕ) → k < size → get_or cells' (used + k) K.forbidden ≡ least K (get_or cs b 0) (trial K m cs lines cells force b (byte_of (decoded cs (has near) 0 24 k plan))))
    (afters : (j : ℕ) → flag after' j ≡ after m lines force b d j) (bay_in : member b (bays_from remaining 0) ≡ true)
    (nears : (i : ℕ) → has near i ≡ is_near m lines force remaining b i) (whole : size ≡ product (byte_of cs) (bays_from near 0)) where
  us : List (Term P)
  us = terms_from K m cs lines cells force 0

  no_table : (i : ℕ) → 88 + d ≤ i → flag force i ≡ false
  no_table i h = go (flag force i) refl
    where
      go : (x : Bool) → flag force i ≡ x → x ≡ false
      go true e = let r = tabled_ok i e (omega arith) in let l = r.0 in absurd (omega arith)
      go false e = refl

  others_is : others b (terms_from K m cs lines cells force 0) ≡ map (term K m cs lines cells) (members (λ j. flag force j && not (has (scope_mask m lines j) b)) 0 112)
  others_is = keep_map (λ (t : Term P). not (t.scope b)) (term K m cs lines cells) (members (flag force) 0 112) ∙ ap (map (term K m cs lines cells)) (keep_members (λ x. not (has (scope_mask m lines x) b)) (flag force) 0 112)

  members_is : members (flag after') 0 112 ≡ members (λ j. flag force j && not (has (scope_mask m lines j) b)) 0 112 ++ ((88 + d) ∷ [])
  members_is = members_add (flag after') (λ j. flag force j && not (has (scope_mask m lines j) b)) (88 + d) 0 112 (omega arith) (omega arith)
      (afters (88 + d) ∙ rw (eq-eqb (88 + d) (88 + d) refl) refl)
      (λ i h. let ne : (i ≡ 88 + d → ⊥) = (λ e. omega arith) in afters i ∙ ap (λ (x : Bool). cond x true (flag force i && not (has (scope_mask m lines i) b))) (ne_eqb i (88 + d) ne))
      (λ i h. let ne : (i ≡ 88 + d → ⊥) = (λ e. omega arith) in afters i ∙ ap₂ (λ (x y : Bool). cond x true (y && not (has (scope_mask m lines i) b))) (ne_eqb i (88 + d) ne) (no_table i (omega arith)))
      (λ i h. ap (λ (y : Bool). y && not (has (scope_mask m lines i) b)) (no_table i h))

  kept_terms : map (term K m cs lines' cells') (members (λ j. flag force j && not (has (scope_mask m lines j) b)) 0 112) ≡ map (term K m cs lines cells) (members (λ j. flag force j && not (has (scope_mask m lines j) b)) 0 112)
  kept_terms = sym (map_members (term K m cs lines cells) (term K m cs lines' cells') _ 0 112 (λ j on l u. term_frame K m cs lines lines' cells cells' j (λ h.
      let t = tabled_ok j (and_parts (flag force j) (not (has (scope_mask m lines j) b)) on).0 h in
      (sym (older (j - 88) t.0), block_frame (line_at lines (j - 88)) used cells cells' (stack.tables (j - 88) t.0 t.1) (sym same)))))

  pub terms_after : terms_from K m cs lines' cells' after' 0 ≡ others b (terms_from K m cs lines cells force 0) ++ (term K m cs lines' cells' (88 + d) ∷ [])
  terms_after =
      ap (map (term K m cs lines' cells')) members_is ∙ map-append (term K m cs lines' cells') _ ((88 + d) ∷ [])
      ∙ ap (λ (ts : List (Term P)). ts ++ (term K m cs lines' cells' (88 + d) ∷ [])) (kept_terms ∙ sym others_is)

  pub folds_after : folds_of K m cs lines' cells' (d + 1) ≡ record { bay = b; terms = terms_from K m cs lines cells force 0 } ∷ folds_of K m cs lines cells d
  folds_after =
      folds_in K m cs lines' cells' d (ap (λ (l : Told). l.folded) line)
      ∙ ap (λ (l : Told). record { bay = l.bay; terms = terms_from K m cs lines' cells' l.force 0 } ∷ folds_of K m cs lines' cells' d) line
      ∙ ap₂ (λ (ts : List (Term P)) (fs : List (Fold P)). record { bay = b; terms = ts } ∷ fs)
      (terms_kept K m cs lines lines' cells cells' d used stack older same force tabled_ok) (folds_kept K m cs lines lines' cells cells' d used stack older same d (le_refl d))

  the_table : term K m cs lines' cells' (88 + d) ≡ masked near (table_value K cs near (take size (drop used cells')))
  the_table = term_table K m cs lines' cells' d ∙ ap (λ (l : Told). masked l.scope (table_value K cs l.scope (block cells' l))) line

  -- a bay of the neighbours is left
  near_left : (i : ℕ) → member i (bays_from near 0) ≡ true → (has remaining i ≡ true) × (i < 24)
  near_left i e =
      let s = members_sound (has near) i 0 24 e in
      ((and_parts (has remaining i) _ (sym (nears i) ∙ s.0)).0, omega (arith, s.2))

  any_shares : (i : ℕ) → any (λ (t : Term P). t.scope i) (touching b (terms_from K m cs lines cells force 0)) ≡ shares m lines force b 0 i
  any_shares i = any_keep (λ (t : Term P). t.scope i) (λ (t : Term P). t.scope b) (terms_from K m cs lines cells force 0) ∙ share_is K m cs lines cells force b i

  pub scopes : (i : ℕ) → member i (drop_bay b (bays_from remaining 0)) ≡ true → (term K m cs lines' cells' (88 + d)).scope i ≡ any (λ (t : Term P). t.scope i) (touching b (terms_from K m cs lines cells force 0))
  scopes i e =
      let k = kept b (bays_from remaining 0) i e in
      let s = members_sound (has remaining) i 0 24 k.1 in
      ap (λ (t : Term P). t.scope i) the_table ∙ nears i ∙ ap₂ (λ (x y : Bool). x && (not y && shares m lines force b 0 i)) s.0 k.0 ∙ sym (any_shares i)

  pub values : (π : Plan) → Legal (byte_of cs) (all_bays cs) π → Completes (drop_bay b (bays_from remaining 0)) (byte_of plan) π
      → (term K m cs lines' cells' (88 + d)).value π ≡ least K (get_or cs b 0) (λ c. cost K (touching b (terms_from K m cs lines cells force 0)) (put b c π))
  values π l q =
      ap (λ (t : Term P). t.value π) the_table
      ∙ ap (λ (x : ℕ). get_or (take size (drop used cells')) x K.forbidden) (place_stable (byte_of cs) 0 (bays_from near 0) (within near π) π (λ i e. inside i (has near i) (members_sound (has near) i 0 24 e).0))
      ∙ block_read size used p cells' K.forbidden small
      ∙ table p small
      ∙ least_same K (get_or cs b 0) _ _ (λ c _. cost_stable K (touching b (terms_from K m cs lines cells force 0)) (put b c ρ) (put b c π) (λ i e. agree c i e (eqb i b) refl))
    where
      p : ℕ
      p = place (byte_of cs) 0 (bays_from near 0) π

      ρ : Plan
      ρ = byte_of (decoded cs (has near) 0 24 (place (byte_of cs) 0 (bays_from near 0) π) plan)

      inside : (i : ℕ) (x : Bool) → x ≡ true → cond x (π i) 0 ≡ π i
      inside i true e = refl
      inside i false e = absurd (false≢true e)

      under : (i : ℕ) → member i (members (has near) 0 24) ≡ true → π i < byte_of cs i
      under i e = let r = near_left i e in l i (has_all cs i r.1 (opened i r.0))

      small : place (byte_of cs) 0 (bays_from near 0) π < size
      small = rw whole (place_lt (byte_of cs) π (bays_from near 0) under)

      same_at : (i : ℕ) → any (λ (t : Term P). t.scope i) (touching b (terms_from K m cs lines cells force 0)) ≡ true → eqb i b ≡ false → (x : Bool) → member i (bays_from remaining 0) ≡ x
          → byte_of (decoded cs (has near) 0 24 (place (byte_of cs) 0 (bays_from near 0) π) plan) i ≡ π i
      same_at i e ne true on =
          let s = members_sound (has remaining) i 0 24 on in
          decoded_here cs (has near) π 0 24 plan (omega arith) under i
          (members_complete (has near) i 0 24 (nears i ∙ rw (s.0, ne, sym (any_shares i) ∙ e) refl) s.1 s.2)
      same_at i e ne false on = decoded_there cs (has near) π 0 24 plan (omega arith) under i (out (member i (bays_from near 0)) refl) ∙ q i (not_dropped b i (bays_from remaining 0) on)
        where
          out : (y : Bool) → member i (bays_from near 0) ≡ y → y ≡ false
          out true h = let r = near_left i h in clash (members_complete (has remaining) i 0 24 r.0 (omega arith) (omega (arith, r.1))) on
          out false h = refl

      agree : (c i : ℕ) → any (λ (t : Term P). t.scope i) (touching b (terms_from K m cs lines cells force 0)) ≡ true → (x : Bool) → eqb i b ≡ x → cond x c (ρ i) ≡ cond x c (π i)
      agree c i e true h = refl
      agree c i e false h = same_at i e h (member i (bays_from remaining 0)) refl

  pub fold_core : (pick : Answers) (k : Bound) (limit n rest unused : ℕ) (s : Sofar P) → bays_from rest 0 ≡ drop_bay b (bays_from remaining 0)
      → visit (setup_of K cs pick k limit) n (bays_from rest 0) (terms_from K m cs lines' cells' after' 0) unused (byte_of plan) (folds_of K m cs lines' cells' (d + 1)) s
      ≡ visit (setup_of K cs pick k limit) n (bays_from rest 0) (folded K (byte_of cs) b (terms_from K m cs lines cells force 0)) unused (byte_of plan) (record { bay = b; terms = terms_from K m cs lines cells force 0 } ∷ folds_of K m cs lines cells d) s
  fold_core pick k limit n rest unused s rests =
      let S = setup_of K cs pick k limit in
      let left = bays_from remaining 0 in
      let left' = drop_bay b left in
      let ts = terms_from K m cs lines cells force 0 in
      let σ = byte_of plan in
      let bays = all_bays cs in
      let folds = record { bay = b; terms = ts } ∷ folds_of K m cs lines cells d in
      let good : Legal (byte_of cs) bays σ = λ i e. legal i (all_open cs i e) in
      let all = stand_append (byte_of cs) bays left' σ (stand_self (byte_of cs) bays left' σ (others b ts)) (tabled K (byte_of cs) bays left σ b bay_in (stand_self (byte_of cs) bays left σ ts) (term K m cs lines' cells' (88 + d)) scopes values) in
      ap₂ (λ (us : List (Term P)) (fs : List (Fold P)). visit S n (bays_from rest 0) us unused σ fs s) terms_after folds_after
      ∙ ap (λ (l : List ℕ). visit S n l (others b ts ++ (term K m cs lines' cells' (88 + d) ∷ [])) unused σ folds s) rests
      ∙ visit_same S refl bays (λ i e. all_open cs i e) n left' unused σ folds folds good (λ i e. let k = kept b left i e in let r = members_sound (has remaining) i 0 24 k.1 in has_all cs i (omega (arith, r.2)) (opened i r.0)) all (λ π l q. refl) s
      ∙ sym (ap (λ (l : List ℕ). visit S n l (folded K (byte_of cs) b ts) unused σ folds s) rests)
