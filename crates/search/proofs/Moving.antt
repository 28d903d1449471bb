-- The state through the code's moves.
use Rattle.std.proofs.Common.{◌≡◌, ℕ, ◌+◌, ◌-◌, ◌^◌, ◌<◌, ◌≤◌, Bool, true, false, cond, not, ◌&&◌, eqb, List, length, get_or, take, set, sym, refl, ap, ◌∙◌, subst, ap₂, le_refl, arith, eqb-true}
use Rattle.std.proofs.lemmas.Bool.{and_parts}
use native.Mathlib.Decide.{dec_lt}
use Rattle.course.specs.declared.bound.Bound.{Bound}
use Rattle.model.specs.Books.{Meaning}
use Rattle.model.specs.Course.{Answers}
use Rattle.model.specs.Lists.{product}
use Rattle.model.specs.Prices.{Ops}
use Rattle.model.specs.Search.{Setup, Sofar, visit, each}
use Rattle.model.specs.Sets.{has}
use Rattle.model.specs.Terms.{Plan, Term, Fold, put}
use Rattle.search.proofs.Folds.{terms_kept, folds_kept, folds_out}
use Rattle.search.proofs.Kits.{clash}
use Rattle.search.proofs.Settled.{set_branched, set_kept_in, choices_kept, choices_up}
use Rattle.search.proofs.Sizes.{eight_four}
use Rattle.search.proofs.Standing.{make_state, set_kept, set_at, tabled_kept, stack_kept, tabled_up, stack_up, kept_less, kept_trans, product_small}
use Rattle.search.specs.Force.{Told, told, nth_line, line_at, flag, scope_mask, terms_from, LineOk}
use Rattle.search.specs.Places.{bays_from, byte_of, Open, Few}
use Rattle.search.specs.Visit.{setup_of, sofar, set_in, ChoicesOk, folds_of, Tabled, Stack, State, Kept, Same, Framed, after, tried, visited}
use Rattle.search.specs.declared.decide.Table.{Table}
use Rattle.search.specs.declared.state.Left.{Left}
use Rattle.search.specs.declared.state.Line.{Line}
use Rattle.search.specs.declared.state.Passed.TheVariants.{Folded}
use Rattle.search.specs.declared.state.Search.{Search}

pub sofar_same : {P : Type 0} (a b : Search P) (r : Bool) → Same a b → sofar b r ≡ sofar a r
sofar_same a b r s = let p = s.best in let q = s.count in let u = s.plan in cc

pub setup_same : {P : Type 0} (K : Ops P) (pick : Answers) (cs cs' : List ℕ) (k k' : Bound) (limit limit' : ℕ) → cs' ≡ cs → k' ≡ k → limit' ≡ limit → setup_of K cs' pick k' limit' ≡ setup_of K cs pick k limit
setup_same K pick cs cs' k k' limit limit' e f h = rw (e, f, h) refl

pub visit_at : {P : Type 0} (S S' : Setup P) (n : ℕ) (left : List ℕ) (ts ts' : List (Term P)) (u u' : ℕ) (σ σ' : Plan) (fs fs' : List (Fold P)) (s s' : Sofar P)
    → S' ≡ S → ts' ≡ ts → u' ≡ u → σ' ≡ σ → fs' ≡ fs → s' ≡ s → visit S' n left ts' u' σ' fs' s' ≡ visit S n left ts u σ fs s
visit_at S S' n left ts ts' u u' σ σ' fs fs' s s' a b c d e f =
    ap (λ (x : Setup _). visit x n left ts' u' σ' fs' s') a ∙ ap (λ (x : List (Term _)). visit S n left x u' σ' fs' s') b ∙ ap (λ (x : ℕ). visit S n left ts x σ' fs' s') c
    ∙ ap (λ (x : Plan). visit S n left ts u x fs' s') d ∙ ap (λ (x : List (Fold _)). visit S n left ts u σ x s') e ∙ ap (visit S n left ts u σ fs) f

pub each_at : {P : Type 0} (S S' : Setup P) (n : ℕ) (left : List ℕ) (ts ts' : List (Term P)) (u u' : ℕ) (b : ℕ) (σ σ' : Plan) (fs fs' : List (Fold P)) (t t' : ℕ) (s s' : Sofar P)
    → S' ≡ S → ts' ≡ ts → u' ≡ u → σ' ≡ σ → fs' ≡ fs → t' ≡ t → s' ≡ s → each t' (λ c. visit S' n left ts' u' (put b c σ') fs') s' ≡ each t (λ c. visit S n left ts u (put b c σ) fs) s
each_at S S' n left ts ts' u u' b σ σ' fs fs' t t' s s' p q r z v w x =
    ap (λ (y : Setup _). each t' (λ c. visit y n left ts' u' (put b c σ') fs') s') p ∙ ap (λ (y : List (Term _)). each t' (λ c. visit S n left y u' (put b c σ') fs') s') q
    ∙ ap (λ (y : ℕ). each t' (λ c. visit S n left ts y (put b c σ') fs') s') r ∙ ap (λ (y : Plan). each t' (λ c. visit S n left ts u (put b c y) fs') s') z
    ∙ ap (λ (y : List (Fold _)). each t' (λ c. visit S n left ts u (put b c σ) y) s') v
    ∙ ap (λ (y : ℕ). each y (λ c. visit S n left ts u (put b c σ) fs) s') w ∙ ap (each t (λ c. visit S n left ts u (put b c σ) fs)) x

-- the line of a fold has a cell for each combination of its bays' choices
pub fold_ok : (cs : List ℕ) (b used : ℕ) (force : List Bool) (t : Table) → Few cs → Open cs t.near → length (bays_from t.near 0) ≤ 4 → t.size ≡ product (byte_of cs) (bays_from t.near 0) → LineOk cs (told (record { bay = b; passed = Folded force t used }))
fold_ok cs b used force t few near_open short whole = record { has_choices = near_open; size_is = whole; small = rw whole (bound (bays_from t.near 0) short) }
  where
    bound : (bs : List ℕ) → length bs ≤ 4 → product (byte_of cs) bs ≤ 4096
    bound bs l = omega (arith, product_small cs bs few, eight_four (length bs) l)

module _ {P : Type 0} (K : Ops P) (m : Meaning P) where
  -- a line pushed for a fold
  pub fold_state : (a p : Search P) (b : ℕ) (t : Table) (left next : Left) (total : ℕ) → State m a a.depth left total → a.depth + length (bays_from next.remaining 0) < 24
      → p.depth ≡ a.depth + 1 → p.lines ≡ set a.lines a.depth (record { bay = b; passed = Folded left.force.now t left.used }) → Same a p
      → b < 24 → 0 < get_or a.choices b 0 → Open a.choices t.near → Open a.choices next.remaining → next.remaining < 2 ^ 24 → length (bays_from t.near 0) ≤ 4 → t.size ≡ product (byte_of a.choices) (bays_from t.near 0) → left.used + t.size ≤ total → next.used ≡ left.used + t.size
      → ((j : ℕ) → flag next.force.now j ≡ after m a.lines left.force.now b a.depth j) → State m p p.depth next total
  fold_state a p b t left next total st deeper depth lines same b< some near_open rest_open rest_small short whole room more afters =
      let cs = a.choices in
      let d = a.depth in
      let line : Line = record { bay = b; passed = Folded left.force.now t left.used } in
      let inside : d < length a.lines = omega (arith, a.long) in
      let k : Kept a.lines p.lines d = rw lines (set_kept a.lines d line) in
      let at : line_at p.lines d ≡ told line = rw lines (set_at a.lines d line inside) in
      let old : Tabled p.lines d left.force.now = tabled_kept a.lines p.lines d left.force.now k st.tabled in
      make_state m p cs p.depth next total same.choices st.fits
      st.few (rw depth (choices_up cs p.lines d (choices_kept cs a.lines p.lines d k st.legal) (λ f. clash (ap (λ (l : Told). l.folded) at) f))) rest_open rest_small (omega arith) (omega arith)
      (rw depth (tabled_new p.lines d old (ap (λ (l : Told). l.folded) at) a.lines afters)) (rw (depth, more) (stack_new cs p.lines d old at (stack_kept cs a.lines p.lines d left.used k st.stack) b< some))
    where
      tabled_new : (lines : List Line) (d : ℕ) → Tabled lines d left.force.now → (line_at lines d).folded ≡ true → (lines₀ : List Line) → ((j : ℕ) → flag next.force.now j ≡ after m lines₀ left.force.now b d j) → Tabled lines (d + 1) next.force.now
      tabled_new lines d old f lines₀ afters j on h = go (eqb j (88 + d)) refl (sym (afters j) ∙ on)
        where
          go : (x : Bool) → eqb j (88 + d) ≡ x → cond x true (flag left.force.now j && not (has (scope_mask m lines₀ j) b)) ≡ true → (j - 88 < d + 1) × ((line_at lines (j - 88)).folded ≡ true)
          go true q e = let z = eqb-true j (88 + d) q in let y : j - 88 ≡ d = omega arith in (omega arith, ap (λ (x : ℕ). (line_at lines x).folded) y ∙ f)
          go false q e = let r = old j (and_parts (flag left.force.now j) _ e).0 h in (omega (arith, r.0), r.1)

      stack_new : (cs : List ℕ) (lines : List Line) (d : ℕ) → Tabled lines d left.force.now → line_at lines d ≡ told (record { bay = b; passed = Folded left.force.now t left.used }) → Stack cs lines d left.used → b < 24 → 0 < get_or cs b 0 → Stack cs lines (d + 1) (left.used + t.size)
      stack_new cs lines d old at s b< some = record {
        tables = λ e h f. elim (dec_lt e d) [ yes lt ↦ omega (arith, s.tables e lt f) | no ge ↦ (let z : e ≡ d = omega arith in subst (λ (l : Told). l.offset + l.size ≤ left.used + t.size) (sym (ap (line_at lines) z ∙ at)) (le_refl (left.used + t.size))) ];
        forces = λ e h f. elim (dec_lt e d) [ yes lt ↦ tabled_up lines d (line_at lines e).force (s.forces e lt f) | no ge ↦ (let z : e ≡ d = omega arith in subst (λ (l : Told). Tabled lines (d + 1) l.force) (sym (ap (line_at lines) z ∙ at)) (tabled_up lines d left.force.now old)) ];
        bays = λ e h f. elim (dec_lt e d) [ yes lt ↦ s.bays e lt f | no ge ↦ (let z : e ≡ d = omega arith in subst (λ (l : Told). (l.bay < 24) × (0 < get_or cs l.bay 0)) (sym (ap (line_at lines) z ∙ at)) (b<, some)) ];
      }

  -- the newest line one choice on
  module _ (a u v : Search P) (left : Left) (total total' b c : ℕ) (st : State m a (a.depth - 1) left total) (opens : 0 < a.depth)
      (f : Framed (a.depth - 1) a u) (newest_bay : (line_at u.lines (u.depth - 1)).bay ≡ b)
      (depth : v.depth ≡ u.depth) (lines : v.lines ≡ set u.lines (u.depth - 1) (tried (nth_line u.lines (u.depth - 1)) c)) (same : Same u v) where
    deep : u.depth - 1 < length u.lines
    deep = omega (arith, u.long, f.depth, st.deep)

    try_kept : Kept a.lines v.lines (a.depth - 1)
    try_kept = kept_trans a.lines u.lines v.lines (a.depth - 1) f.kept (subst (λ (x : ℕ). Kept u.lines v.lines (x - 1)) f.depth (subst (λ (ls : List Line). Kept u.lines ls (u.depth - 1)) (sym lines) (set_kept u.lines (u.depth - 1) _)))

    try_line : line_at v.lines (a.depth - 1) ≡ told (tried (nth_line u.lines (u.depth - 1)) c)
    try_line = subst (λ (x : ℕ). line_at v.lines (x - 1) ≡ told (tried (nth_line u.lines (u.depth - 1)) c)) f.depth (ap (λ (ls : List Line). line_at ls (u.depth - 1)) lines ∙ set_at u.lines (u.depth - 1) _ deep)

    try_newest : (line_at v.lines (a.depth - 1)).folded ≡ false
    try_newest = ap (λ (l : Told). l.folded) try_line

    try_bay : (line_at v.lines (a.depth - 1)).bay ≡ b
    try_bay = ap (λ (l : Told). l.bay) try_line ∙ newest_bay

    pub try_depth : v.depth ≡ a.depth - 1 + 1
    try_depth = depth ∙ f.depth ∙ omega arith

    -- a visit from there keeps what the lines below and the newest bay were
    pub try_framed : (w : Search P) → Framed v.depth v w → Framed (a.depth - 1) a w
    try_framed w h = record {
      choices = h.choices ∙ same.choices ∙ f.choices;
      depth = h.depth ∙ depth ∙ f.depth;
      limit = h.limit ∙ same.limit ∙ f.limit;
      k = h.k ∙ same.k ∙ f.k;
      kept = kept_trans a.lines v.lines w.lines (a.depth - 1) try_kept (kept_less v.lines w.lines v.depth (a.depth - 1) (omega (arith, depth, f.depth)) h.kept);
    }

    pub try_newest_bay : (w : Search P) → Framed v.depth v w → (line_at w.lines (w.depth - 1)).bay ≡ b
    try_newest_bay w h =
        let low : a.depth - 1 < v.depth = omega (arith, depth, f.depth, opens) in
        let z : w.depth - 1 ≡ a.depth - 1 = omega (arith, h.depth, depth, f.depth) in
        ap (λ (x : ℕ). (line_at w.lines x).bay) z ∙ ap (λ (l : Told). l.bay) (h.kept (a.depth - 1) low) ∙ try_bay

    -- the choices are those of the lines below, with the newest bay set to c
    pub try_set : set_in v.lines v.depth ≡ put b c (set_in a.lines (a.depth - 1))
    try_set =
        ap (set_in v.lines) try_depth
        ∙ set_branched v.lines (a.depth - 1) try_newest
        ∙ ap₂ (λ (x : ℕ) (y : ℕ). put x y (set_in v.lines (a.depth - 1))) try_bay (ap (λ (l : Told). l.choice) try_line)
        ∙ ap (put b c) (set_kept_in a.lines v.lines (a.depth - 1) try_kept (a.depth - 1) (le_refl _))

    pub try_state : b < 24 → c < get_or a.choices b 0 → total' ≡ total → State m v v.depth left total'
    try_state inside legal len =
        let cs = a.choices in
        let choice_is : (line_at v.lines (a.depth - 1)).choice ≡ c = ap (λ (l : Told). l.choice) try_line in
        let new : ((line_at v.lines (a.depth - 1)).bay < 24) × ((line_at v.lines (a.depth - 1)).choice < get_or cs (line_at v.lines (a.depth - 1)).bay 0) = rw (try_bay, choice_is) (inside, legal) in
        make_state m v cs v.depth left total' (same.choices ∙ f.choices) st.fits st.few
        (subst (λ (x : ℕ). ChoicesOk cs v.lines x) (sym try_depth) (choices_up cs v.lines (a.depth - 1) (choices_kept cs a.lines v.lines (a.depth - 1) try_kept st.legal) (λ _. new)))
        st.opened st.small
        (omega (arith, st.deep, depth, f.depth)) (subst (λ (x : ℕ). left.used ≤ x) (sym len) st.room)
        (subst (λ (x : ℕ). Tabled v.lines x left.force.now) (sym try_depth) (tabled_up v.lines (a.depth - 1) left.force.now (tabled_kept a.lines v.lines (a.depth - 1) left.force.now try_kept st.tabled)))
        (subst (λ (x : ℕ). Stack cs v.lines x left.used) (sym try_depth) (stack_up cs v.lines (a.depth - 1) left.used try_newest (stack_kept cs a.lines v.lines (a.depth - 1) left.used try_kept st.stack)))

    -- and what the model makes of it
    pub try_visited : (pick : Answers) (cells cells' : List P) (n : ℕ) (s : Sofar P) → take left.used cells' ≡ take left.used cells → length cells' ≡ length cells → sofar u false ≡ s
        → visited K m pick v left cells' n (sofar v false)
        ≡ visit (setup_of K a.choices pick a.k a.limit) n (bays_from left.remaining 0) (terms_from K m a.choices a.lines cells left.force.now 0) (length cells - left.used) (put b c (set_in a.lines (a.depth - 1))) (folds_of K m a.choices a.lines cells (a.depth - 1)) s
    try_visited pick cells cells' n s kept len is =
        let e : v.choices ≡ a.choices = same.choices ∙ f.choices in
        visit_at _ _ n (bays_from left.remaining 0) _ _ _ _ _ _ _ _ _ _
        (setup_same K pick a.choices v.choices a.k v.k a.limit v.limit e (same.k ∙ f.k) (same.limit ∙ f.limit))
        (ap (λ (x : List ℕ). terms_from K m x v.lines cells' left.force.now 0) e ∙ terms_kept K m a.choices a.lines v.lines cells cells' (a.depth - 1) left.used st.stack try_kept kept left.force.now st.tabled)
        (ap (λ (x : ℕ). x - left.used) len)
        try_set
        (ap (λ (x : List ℕ). folds_of K m x v.lines cells' v.depth) e ∙ ap (folds_of K m a.choices v.lines cells') try_depth ∙ folds_out K m a.choices v.lines cells' (a.depth - 1) try_newest ∙ folds_kept K m a.choices a.lines v.lines cells cells' (a.depth - 1) left.used st.stack try_kept kept (a.depth - 1) (le_refl _))
        (sofar_same u v false same ∙ is)
