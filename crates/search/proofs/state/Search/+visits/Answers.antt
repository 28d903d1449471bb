use Rattle.std.proofs.Common.{◌≡◌, ℕ, ◌+◌, ◌-◌, ◌<◌, ◌≤◌, true, false, List, ◌∷◌, length, get_or, take, sym, refl, ap, ◌∙◌, subst, ap₂, le_refl, arith, rules}
use Rattle.std.specs.Prelude.{is_err}
use Rattle.std.proofs.lemmas.Bool.{and_parts}
use Rattle.std.proofs.lemmas.List.{take-take}
use Rattle.course.specs.Views.{answers_of}
use Rattle.model.specs.Lists.{product}
use Rattle.model.specs.Search.{Sofar, arrived, counted, visit, each}
use Rattle.model.specs.Sets.{has}
use Rattle.model.specs.Terms.{Plan, read, put, folded}
use Rattle.model.proofs.Listed.{drop_fewer}
use Rattle.search.specs.Force.{Told, told, line_at, terms_from}
use Rattle.search.specs.Places.{bays_from, byte_of}
use Rattle.search.specs.Visit.{branching, setup_of, sofar, set_in, folds_of, Kept}
use Rattle.search.specs.declared.state.Line.{Line}
use Rattle.search.specs.declared.state.Passed.TheVariants.{Folded}
use Rattle.search.proofs.Deciding.{by_table, by_none}
use Rattle.search.proofs.Members.{members_sound}
use Rattle.search.proofs.Settled.{set_folded, set_kept_in, set_ok_in}
use Rattle.search.proofs.Onward.{visit_halted, visit_idle, visit_cut, visit_leaf, visit_on, onward_is, each_next, each_still}
use Rattle.search.proofs.Standing.{rest_list, rest_open, rest_small, rest_less, some_bays, set_kept, set_at, no_bays, kept_less, kept_trans}
use Rattle.search.proofs.Folds.{terms_kept, folds_kept}
use Rattle.search.proofs.Moving.{sofar_same, setup_same, visit_at, each_at, fold_ok, fold_state, try_framed, try_newest_bay, try_state, try_visited}
use Rattle.search.proofs.Folding.{fold_core}
use Rattle.search.proofs.state.Search.+visits.Goals as goal

pub branch_bay-returns : goal.branch_bay-returns
branch_bay-returns g t c =
    let K = g.P.Price.ops in
    let m = g.B.Book.meaning c.args.given.now.book.now in
    let pick = answers_of (g.K.Picker.answer c.args.given.now.picker.now) in
    let a = c.args.self.now in
    let p = c.push.new.self in
    let v = c.try_choices-visited.new.self in
    let pe = c.push.ensures in
    let x = c.try_choices-visited.ensures in
    let f = x.framed in
    let qe = c.pop.ensures in
    let st = c.requires.ok in
    let cells = c.args.scratch.now in
    let force = c.args.left.now.force.now in
    let d : p.depth - 1 ≡ a.depth = omega (arith, pe.depth) in
    let keeps : Kept a.lines p.lines a.depth = subst (λ (ls : List Line). Kept a.lines ls a.depth) (sym pe.lines) (set_kept a.lines a.depth _) in
    let keeps' : Kept p.lines v.lines a.depth = subst (λ (n : ℕ). Kept p.lines v.lines n) d f.kept in
    record {
      state = λ n h. sofar_same v c.pop.new.self (is_err c.try_choices-visited.result) qe.same ∙ x.state n h
          ∙ each_at (setup_of K a.choices pick a.k a.limit) _ n (bays_from c.args.left.now.remaining 0) (terms_from K m a.choices a.lines cells force 0) _ (length cells - c.args.left.now.used) _ c.args.bay (set_in a.lines a.depth) _ (folds_of K m a.choices a.lines cells a.depth) _ (get_or a.choices c.args.bay 0) _ (sofar a false) _
          (setup_same K pick a.choices p.choices a.k p.k a.limit p.limit pe.same.choices pe.same.k pe.same.limit)
          (ap (λ (y : List ℕ). terms_from K m y p.lines cells force 0) pe.same.choices ∙ terms_kept K m a.choices a.lines p.lines cells cells a.depth c.args.left.now.used st.stack keeps refl force st.tabled)
          refl
          (ap (set_in p.lines) d ∙ set_kept_in a.lines p.lines a.depth keeps a.depth (le_refl _))
          (ap (λ (y : List ℕ). folds_of K m y p.lines cells (p.depth - 1)) pe.same.choices ∙ ap (folds_of K m a.choices p.lines cells) d ∙ folds_kept K m a.choices a.lines p.lines cells cells a.depth c.args.left.now.used st.stack keeps refl a.depth (le_refl _))
          (ap (λ (y : List ℕ). get_or y c.args.bay 0) pe.same.choices)
          (sofar_same a p false pe.same);
      framed = record {
        choices = qe.same.choices ∙ f.choices ∙ pe.same.choices;
        depth = omega (arith, qe.depth, f.depth, pe.depth);
        limit = qe.same.limit ∙ f.limit ∙ pe.same.limit;
        k = qe.same.k ∙ f.k ∙ pe.same.k;
        kept = subst (λ (ls : List Line). Kept a.lines ls a.depth) (sym qe.lines) (kept_trans a.lines p.lines v.lines a.depth keeps keeps');
      };
      cells = x.cells;
    }

pub fold_bay-fill-requires-clause-some : goal.fold_bay-fill-requires-clause-some
fold_bay-fill-requires-clause-some g t c = c.requires.ok.opened c.args.bay (members_sound (has c.args.left.now.remaining) c.args.bay 0 24 c.requires.remains).0

pub fold_bay-fill-requires-clause-legal : goal.fold_bay-fill-requires-clause-legal
fold_bay-fill-requires-clause-legal g t c = let a = c.args.self.now in set_ok_in a.choices a.lines a.depth c.choices_set-set.result c.requires.ok.legal c.choices_set-set.ensures

pub fold_bay-push-requires : goal.fold_bay-push-requires
fold_bay-push-requires g t c =
    let less = drop_fewer c.args.bay (bays_from c.args.left.now.remaining 0) c.requires.remains in
    let st = c.requires.ok in
    record {
      deep = omega (arith, less, st.deep);
      sound = λ _. fold_ok c.args.self.now.choices c.args.bay c.args.left.now.used c.args.left.now.force.now c.args.table st.few (λ i e. st.opened i (and_parts (has c.args.left.now.remaining i) _ (sym (c.requires.nears i) ∙ e)).0) c.requires.short c.requires.whole;
    }

pub fold_bay-visit-visited-requires : goal.fold_bay-visit-visited-requires
fold_bay-visit-visited-requires g t c κs within =
    let m = g.B.Book.meaning c.args.given.now.book.now in
    let pe = c.push.ensures in
    let st = c.requires.ok in
    let in_left = members_sound (has c.args.left.now.remaining) c.args.bay 0 24 c.requires.remains in
    let less : length (bays_from c.args.rest 0) < length (bays_from c.args.left.now.remaining 0) = subst (λ (l : List ℕ). length l < length (bays_from c.args.left.now.remaining 0)) (sym c.requires.rests) (drop_fewer c.args.bay (bays_from c.args.left.now.remaining 0) c.requires.remains) in (
      search rules,
      (
        within.0,
        (
          within.1.0,
          (
            within.1.1.0,
            (
              within.1.1.1,
              fold_state g.P.Price.ops m c.args.self.now c.push.new.self c.args.bay c.args.table c.args.left.now _ (length c.fill.new.scratch)
                  (record { fits = st.fits; few = st.few; legal = st.legal; opened = st.opened; small = st.small; deep = st.deep; room = omega (arith, st.room); tabled = st.tabled; stack = st.stack }) (omega (arith, less, st.deep)) pe.depth pe.lines
                  (record { choices = pe.same.choices; best = pe.same.best; plan = pe.same.plan; count = pe.same.count; limit = pe.same.limit; k = pe.same.k })
                  (omega (arith, in_left.2)) (st.opened c.args.bay in_left.0) (λ i e. st.opened i (and_parts (has c.args.left.now.remaining i) _ (sym (c.requires.nears i) ∙ e)).0) c.requires.opened c.requires.small c.requires.short c.requires.whole (omega (arith, c.requires.fits, st.room)) refl (λ j. rw (c.terms-terms.ensures.book, c.terms-terms.ensures.lines) at (c.folded_force-after.ensures j)),
            ),
          ),
        ),
      ),
    )

pub fold_bay-returns : goal.fold_bay-returns
fold_bay-returns g t c =
    let K = g.P.Price.ops in
    let m = g.B.Book.meaning c.args.given.now.book.now in
    let pick = answers_of (g.K.Picker.answer c.args.given.now.picker.now) in
    let a = c.args.self.now in
    let p = c.push.new.self in
    let v = c.visit-visited.new.self in
    let pe = c.push.ensures in
    let x = c.visit-visited.ensures in
    let f = x.framed in
    let qe = c.pop.ensures in
    let st = c.requires.ok in
    let cells = c.args.scratch.now in
    let cells' = c.fill.new.scratch in
    let force = c.args.left.now.force.now in
    let used = c.args.left.now.used in
    let line : Line = record { bay = c.args.bay; passed = Folded force c.args.table used } in
    let less = drop_fewer c.args.bay (bays_from c.args.left.now.remaining 0) c.requires.remains in
    let deep : a.depth < 24 = omega (arith, less, st.deep) in
    let inside : a.depth < length a.lines = omega (arith, a.long) in
    let at : line_at p.lines a.depth ≡ told line = ap (λ (ls : List Line). line_at ls a.depth) pe.lines ∙ set_at a.lines a.depth line inside in
    let keeps : Kept a.lines p.lines a.depth = subst (λ (ls : List Line). Kept a.lines ls a.depth) (sym pe.lines) (set_kept a.lines a.depth line) in
    let low : a.depth ≤ p.depth = omega (arith, pe.depth) in
    let set = c.choices_set-set.result in
    let legal = set_ok_in a.choices a.lines a.depth set st.legal c.choices_set-set.ensures in
    let ts = terms_from K m a.choices a.lines cells force 0 in
    record {
      state = λ n h. sofar_same v c.pop.new.self (is_err c.visit-visited.result) qe.same ∙ x.state n h
          ∙ visit_at (setup_of K a.choices pick a.k a.limit) _ n (bays_from c.args.rest 0) (terms_from K m a.choices p.lines cells' c.folded_force-after.result 0) _ (length cells - used - c.args.table.size) _ (byte_of set) _ (folds_of K m a.choices p.lines cells' (a.depth + 1)) _ (sofar a false) _
          (setup_same K pick a.choices p.choices a.k p.k a.limit p.limit pe.same.choices pe.same.k pe.same.limit)
          (ap (λ (y : List ℕ). terms_from K m y p.lines cells' c.folded_force-after.result 0) pe.same.choices)
          (omega arith)
          (ap (set_in p.lines) pe.depth ∙ set_folded p.lines a.depth (ap (λ (l : Told). l.folded) at) ∙ set_kept_in a.lines p.lines a.depth keeps a.depth (le_refl _) ∙ sym c.choices_set-set.ensures)
          (ap (λ (y : List ℕ). folds_of K m y p.lines cells' p.depth) pe.same.choices ∙ ap (folds_of K m a.choices p.lines cells') pe.depth)
          (sofar_same a p false (record { choices = pe.same.choices; best = pe.same.best; plan = pe.same.plan; count = pe.same.count; limit = pe.same.limit; k = pe.same.k }))
          ∙ fold_core K m a.choices a.lines p.lines cells cells' a.depth used c.args.bay c.args.table.near c.args.table.size c.args.left.now.remaining force c.folded_force-after.result set
          (omega (arith, c.choices_set-set.type_inv)) st.opened legal deep st.tabled st.stack keeps at c.fill.ensures.kept c.fill.ensures.table (λ j. rw (c.terms-terms.ensures.book, c.terms-terms.ensures.lines) at (c.folded_force-after.ensures j)) c.requires.remains c.requires.nears c.requires.whole
          pick a.k a.limit n c.args.rest (length cells - used - c.args.table.size) (sofar a false) c.requires.rests
          ∙ ap (λ (σ : Plan). visit (setup_of K a.choices pick a.k a.limit) n (bays_from c.args.rest 0) (folded K (byte_of a.choices) c.args.bay ts) (length cells - used - c.args.table.size) σ (record { bay = c.args.bay; terms = ts } ∷ folds_of K m a.choices a.lines cells a.depth) (sofar a false)) c.choices_set-set.ensures;
      framed = record {
        choices = qe.same.choices ∙ f.choices ∙ pe.same.choices;
        depth = omega (arith, qe.depth, f.depth, pe.depth);
        limit = qe.same.limit ∙ f.limit ∙ pe.same.limit;
        k = qe.same.k ∙ f.k ∙ pe.same.k;
        kept = subst (λ (ls : List Line). Kept a.lines ls a.depth) (sym qe.lines) (kept_trans a.lines p.lines v.lines a.depth keeps (kept_less p.lines v.lines p.depth a.depth low f.kept));
      };
      cells = sym (take-take used (used + c.args.table.size) c.visit-visited.new.scratch (omega arith)) ∙ ap (take used) x.cells ∙ take-take used (used + c.args.table.size) cells' (omega arith) ∙ c.fill.ensures.kept;
    }

pub pass-fold_bay-requires : goal.pass-fold_bay-requires
pass-fold_bay-requires g t c κs within =
    let b = c.decide_step-next.result.bay in
    let de = by_table g.P.Price.ops (g.B.Book.meaning c.args.given.now.book.now) (answers_of (g.K.Picker.answer c.args.given.now.picker.now)) c.args.self.now c.args.left.now c.args.scratch.now b c.decide_step-next.result.table c.decide_step-next.ensures c.in-Some.table c.in-Some.is in
    let lt : b < 24 = omega (arith, (members_sound (has c.args.left.now.remaining) b 0 24 de.bay_in).2) in
    let less = rest_less c.args.left.now.remaining b c.without-rest.result c.without-rest.ensures de.bay_in in (
      search rules,
      (
        within.0,
        (
          within.1.0,
          (
            within.1.1.0,
            (
              within.1.1.1,
              (c.requires.ok, (de.bay_in, (rest_list c.args.left.now.remaining b c.without-rest.result c.without-rest.ensures, (rest_open c.args.left.now.remaining b c.without-rest.result c.without-rest.ensures c.args.self.now.choices c.requires.ok.opened, (rest_small c.args.left.now.remaining b c.without-rest.result c.without-rest.ensures c.requires.ok.small, (de.near_is, (de.short refl, (de.whole refl, de.fits refl)))))))),
            ),
          ),
        ),
      ),
    )

pub pass-branch_bay-requires : goal.pass-branch_bay-requires
pass-branch_bay-requires g t c κs within =
    let b = c.decide_step-next.result.bay in
    let by = by_none g.P.Price.ops (g.B.Book.meaning c.args.given.now.book.now) (answers_of (g.K.Picker.answer c.args.given.now.picker.now)) c.args.self.now c.args.left.now c.args.scratch.now b c.decide_step-next.result.table c.decide_step-next.ensures c.in-None.is in
    let de = by.2 in
    let st = c.requires.ok in
    let lt : b < 24 = omega (arith, (members_sound (has c.args.left.now.remaining) b 0 24 de.bay_in).2) in
    let less = rest_less c.args.left.now.remaining b c.without-rest.result c.without-rest.ensures de.bay_in in (
      search rules,
      (
        within.0,
        (
          within.1.0,
          (
            within.1.1.0,
            (
              within.1.1.1,
              (
                record { fits = st.fits; few = st.few; legal = st.legal; opened = rest_open c.args.left.now.remaining b c.without-rest.result c.without-rest.ensures c.args.self.now.choices st.opened; small = rest_small c.args.left.now.remaining b c.without-rest.result c.without-rest.ensures st.small; deep = omega (arith, less, st.deep); room = st.room; tabled = st.tabled; stack = st.stack },
                (omega (arith, less, st.deep), lt),
              ),
            ),
          ),
        ),
      ),
    )

pub pass-returns-in-Some-clause-state : goal.pass-returns-in-Some-clause-state
pass-returns-in-Some-clause-state g t c =
    let K = g.P.Price.ops in
    let m = g.B.Book.meaning c.args.given.now.book.now in
    let pick = answers_of (g.K.Picker.answer c.args.given.now.picker.now) in
    let a = c.args.self.now in
    let cells = c.args.scratch.now in
    let b = c.decide_step-next.result.bay in
    let de = by_table g.P.Price.ops (g.B.Book.meaning c.args.given.now.book.now) (answers_of (g.K.Picker.answer c.args.given.now.picker.now)) c.args.self.now c.args.left.now c.args.scratch.now b c.decide_step-next.result.table c.decide_step-next.ensures c.in-Some.table c.in-Some.is in
    let lt : b < 24 = omega (arith, (members_sound (has c.args.left.now.remaining) b 0 24 de.bay_in).2) in
    let less = rest_less c.args.left.now.remaining b c.without-rest.result c.without-rest.ensures de.bay_in in
    let S = setup_of K a.choices pick a.k a.limit in
    let ts = terms_from K m a.choices a.lines cells c.args.left.now.force.now 0 in
    let folds = folds_of K m a.choices a.lines cells a.depth in
    let unused = length cells - c.args.left.now.used in
    let σ = set_in a.lines a.depth in
    let left = bays_from c.args.left.now.remaining 0 in
    let whole = product (byte_of a.choices) (bays_from c.in-Some.table.near 0) in
    λ n h. c.fold_bay.ensures.state n (omega arith)
    ∙ ap₂ (λ (l : List ℕ) (y : ℕ). visit S n l (folded K (byte_of a.choices) b ts) (unused - y) σ (record { bay = b; terms = ts } ∷ folds) (sofar a false)) (rest_list c.args.left.now.remaining b c.without-rest.result c.without-rest.ensures) (de.whole refl)
    ∙ sym (onward_is S n left ts unused σ folds (sofar a false) (record { bay = b; fold = true; cells = whole }) (some_bays c.args.left.now.remaining c.requires.some c.requires.ok.small) de.step)

pub pass-returns-in-None-clause-state : goal.pass-returns-in-None-clause-state
pass-returns-in-None-clause-state g t c =
    let K = g.P.Price.ops in
    let m = g.B.Book.meaning c.args.given.now.book.now in
    let pick = answers_of (g.K.Picker.answer c.args.given.now.picker.now) in
    let a = c.args.self.now in
    let cells = c.args.scratch.now in
    let b = c.decide_step-next.result.bay in
    let by = by_none g.P.Price.ops (g.B.Book.meaning c.args.given.now.book.now) (answers_of (g.K.Picker.answer c.args.given.now.picker.now)) c.args.self.now c.args.left.now c.args.scratch.now b c.decide_step-next.result.table c.decide_step-next.ensures c.in-None.is in
    let de = by.2 in
    let lt : b < 24 = omega (arith, (members_sound (has c.args.left.now.remaining) b 0 24 de.bay_in).2) in
    let less = rest_less c.args.left.now.remaining b c.without-rest.result c.without-rest.ensures de.bay_in in
    let S = setup_of K a.choices pick a.k a.limit in
    let ts = terms_from K m a.choices a.lines cells c.args.left.now.force.now 0 in
    let folds = folds_of K m a.choices a.lines cells a.depth in
    let unused = length cells - c.args.left.now.used in
    let σ = set_in a.lines a.depth in
    let left = bays_from c.args.left.now.remaining 0 in
    let whole = product (byte_of a.choices) (bays_from by.0 0) in
    λ n h. c.branch_bay.ensures.state n (omega arith)
    ∙ ap (λ (l : List ℕ). each (get_or a.choices b 0) (λ y. visit S n l ts unused (put b y σ) folds) (sofar a false)) (rest_list c.args.left.now.remaining b c.without-rest.result c.without-rest.ensures)
    ∙ sym (onward_is S n left ts unused σ folds (sofar a false) (record { bay = b; fold = false; cells = whole }) (some_bays c.args.left.now.remaining c.requires.some c.requires.ok.small) de.step)

pub try_choices-visit-requires : goal.try_choices-visit-requires
try_choices-visit-requires g t c κs within =
    let m = g.B.Book.meaning c.args.given.now.book.now in
    let y = c.args.left.now in
    let e = c.loop-choice.invariant in (
      search rules,
      (
        within.0,
        (
          within.1.0,
          (
            within.1.1.0,
            (
              within.1.1.1,
              try_state g.P.Price.ops m c.args.self.now c.loop-choice.self c.advance.new.self y (length c.args.scratch.now) (length c.loop-choice.scratch) c.args.bay c.loop-choice.choice
                  c.requires.ok c.requires.opens e.framed e.newest c.advance.ensures.depth c.advance.ensures.lines c.advance.ensures.same c.requires.inside (omega (arith, ap (λ (n : ℕ). get_or c.args.self.now.choices n 0) c.from.ensures)) (omega (arith, ap (λ (n : ℕ). get_or c.args.self.now.choices n 0) c.from.ensures)),
            ),
          ),
        ),
      ),
    )

pub try_choices-loop-choice-preserved : goal.try_choices-loop-choice-preserved
try_choices-loop-choice-preserved g t c =
    let K = g.P.Price.ops in
    let m = g.B.Book.meaning c.args.given.now.book.now in
    let pick = answers_of (g.K.Picker.answer c.args.given.now.picker.now) in
    let a = c.args.self.now in
    let y = c.args.left.now in
    let u = c.loop-choice.self in
    let v = c.advance.new.self in
    let w = c.visit.new.self in
    let e = c.loop-choice.invariant in
    let ae = c.advance.ensures in
    let n = c.loop-choice.choice in
    let cells = c.args.scratch.now in
    let cells' = c.loop-choice.scratch in
    let S = setup_of K a.choices pick a.k a.limit in
    let ts = terms_from K m a.choices a.lines cells y.force.now 0 in
    let folds = folds_of K m a.choices a.lines cells (a.depth - 1) in
    let σ = set_in a.lines (a.depth - 1) in
    let unused = length cells - y.used in
    let x = c.in_ok-visit.ensures in
    record {
      state = λ k l.
          let f = λ (z : ℕ). visit S k (bays_from y.remaining 0) ts unused (put c.args.bay z σ) folds in
          x.state k l ∙ try_visited K m a u v y (length cells) (length cells') c.args.bay n c.requires.ok c.requires.opens e.framed e.newest ae.depth ae.lines ae.same pick cells cells' k (each n f (sofar a false)) e.cells (omega arith) (e.state k l) ∙ sym (each_next n f (sofar a false));
      framed = try_framed K m a u v y (length cells) (length cells') c.args.bay n c.requires.ok c.requires.opens e.framed e.newest ae.depth ae.lines ae.same w x.framed;
      newest = try_newest_bay K m a u v y (length cells) (length cells') c.args.bay n c.requires.ok c.requires.opens e.framed e.newest ae.depth ae.lines ae.same w x.framed;
      cells = x.cells ∙ e.cells;
    }

pub try_choices-returns-in_err-visit : goal.try_choices-returns-in_err-visit
try_choices-returns-in_err-visit g t c =
    let K = g.P.Price.ops in
    let m = g.B.Book.meaning c.args.given.now.book.now in
    let pick = answers_of (g.K.Picker.answer c.args.given.now.picker.now) in
    let a = c.args.self.now in
    let y = c.args.left.now in
    let u = c.loop-choice.self in
    let v = c.advance.new.self in
    let w = c.visit.new.self in
    let e = c.loop-choice.invariant in
    let ae = c.advance.ensures in
    let n = c.loop-choice.choice in
    let cells = c.args.scratch.now in
    let cells' = c.loop-choice.scratch in
    let S = setup_of K a.choices pick a.k a.limit in
    let ts = terms_from K m a.choices a.lines cells y.force.now 0 in
    let folds = folds_of K m a.choices a.lines cells (a.depth - 1) in
    let σ = set_in a.lines (a.depth - 1) in
    let unused = length cells - y.used in
    let x = c.in_err-visit.ensures in
    record {
      state = λ k l.
          let f = λ (z : ℕ). visit S k (bays_from y.remaining 0) ts unused (put c.args.bay z σ) folds in
          let is = x.state k l ∙ try_visited K m a u v y (length cells) (length cells') c.args.bay n c.requires.ok c.requires.opens e.framed e.newest ae.depth ae.lines ae.same pick cells cells' k (each n f (sofar a false)) e.cells (omega arith) (e.state k l) ∙ sym (each_next n f (sofar a false)) in
          ap (sofar w) c.from_residual.ensures.0 ∙ is
          ∙ sym (each_still f (sofar a false) (λ (s : Sofar _). s.stopped) (λ z s h. visit_idle S s ts unused (put c.args.bay z σ) folds k (bays_from y.remaining 0) h) (n + 1) (get_or a.choices c.args.bay 0) (omega (arith, ap (λ (n : ℕ). get_or c.args.self.now.choices n 0) c.from.ensures)) (sym (ap (λ (s : Sofar _). s.stopped) is)));
      framed = try_framed K m a u v y (length cells) (length cells') c.args.bay n c.requires.ok c.requires.opens e.framed e.newest ae.depth ae.lines ae.same w x.framed;
      newest = try_newest_bay K m a u v y (length cells) (length cells') c.args.bay n c.requires.ok c.requires.opens e.framed e.newest ae.depth ae.lines ae.same w x.framed;
      cells = x.cells ∙ e.cells;
    }

pub try_choices-returns-clause-state : goal.try_choices-returns-clause-state
try_choices-returns-clause-state g t c =
    let m = g.B.Book.meaning c.args.given.now.book.now in
    let pick = answers_of (g.K.Picker.answer c.args.given.now.picker.now) in
    let a = c.args.self.now in
    let y = c.args.left.now in
    let z : c.loop-choice.choice ≡ get_or a.choices c.args.bay 0 = omega (arith, ap (λ (n : ℕ). get_or c.args.self.now.choices n 0) c.from.ensures) in
    λ k h. c.loop-choice.invariant.state k h ∙ ap (λ (n : ℕ). branching g.P.Price.ops m pick a (a.depth - 1) y c.args.scratch.now c.args.bay n k (sofar a false)) z

pub visit-returns-then-self-clause-state : goal.visit-returns-then-self-clause-state
visit-returns-then-self-clause-state g t c =
    let K = g.P.Price.ops in
    let m = g.B.Book.meaning c.args.given.now.book.now in
    let pick = answers_of (g.K.Picker.answer c.args.given.now.picker.now) in
    let a = c.args.self.now in
    let cells = c.args.scratch.now in
    λ n h. sym (visit_halted (setup_of K a.choices pick a.k a.limit) (sofar a false) (terms_from K m a.choices a.lines cells c.args.left.now.force.now 0) (length cells - c.args.left.now.used) (set_in a.lines a.depth) (folds_of K m a.choices a.lines cells a.depth) n (bays_from c.args.left.now.remaining 0) c.if-self.true)

pub visit-returns-then-at_most-clause-state : goal.visit-returns-then-at_most-clause-state
visit-returns-then-at_most-clause-state g t c =
    let K = g.P.Price.ops in
    let m = g.B.Book.meaning c.args.given.now.book.now in
    let pick = answers_of (g.K.Picker.answer c.args.given.now.picker.now) in
    let a = c.args.self.now in
    let cells = c.args.scratch.now in
    let low = c.floor-floor.ensures in
    λ n h. sym (visit_cut (setup_of K a.choices pick a.k a.limit) (sofar a false) (terms_from K m a.choices a.lines cells c.args.left.now.force.now 0) (length cells - c.args.left.now.used) (set_in a.lines a.depth) (folds_of K m a.choices a.lines cells a.depth) n (bays_from c.args.left.now.remaining 0) refl c.if-self.false
    (ap (λ p. K.at_most a.best p) (sym low) ∙ sym c.if-at_most.ensures))

pub visit-returns-then-left-eq0-clause-state : goal.visit-returns-then-left-eq0-clause-state
visit-returns-then-left-eq0-clause-state g t c =
    let K = g.P.Price.ops in
    let m = g.B.Book.meaning c.args.given.now.book.now in
    let pick = answers_of (g.K.Picker.answer c.args.given.now.picker.now) in
    let a = c.args.self.now in
    let cells = c.args.scratch.now in
    let folds = folds_of K m a.choices a.lines cells a.depth in
    let low = c.floor-floor.ensures in
    λ n h. c.arrive.ensures.state ∙ ap (λ p. arrived p (read K (byte_of a.choices) folds (set_in a.lines a.depth)) (counted (sofar a false))) low
    ∙ sym (visit_leaf (setup_of K a.choices pick a.k a.limit) (sofar a false) (terms_from K m a.choices a.lines cells c.args.left.now.force.now 0) (length cells - c.args.left.now.used) (set_in a.lines a.depth) folds n (bays_from c.args.left.now.remaining 0) (ap length (ap (λ (x : ℕ). bays_from x 0) c.if-left-eq0.true ∙ no_bays)) refl c.if-self.false
    (ap (λ p. K.at_most a.best p) (sym low) ∙ sym c.if-at_most.ensures))

pub visit-returns-clause-state : goal.visit-returns-clause-state
visit-returns-clause-state g t c =
    let K = g.P.Price.ops in
    let m = g.B.Book.meaning c.args.given.now.book.now in
    let pick = answers_of (g.K.Picker.answer c.args.given.now.picker.now) in
    let a = c.args.self.now in
    let cells = c.args.scratch.now in
    let some : 0 < length (bays_from c.args.left.now.remaining 0) = some_bays c.args.left.now.remaining (omega (arith, c.if-left-eq0.false)) c.requires.ok.small in
    let low = c.floor-floor.ensures in
    λ n h. c.pass.ensures.state (n - 1) (omega arith)
    ∙ sym (visit_on (setup_of K a.choices pick a.k a.limit) (sofar a false) (terms_from K m a.choices a.lines cells c.args.left.now.force.now 0) (length cells - c.args.left.now.used) (set_in a.lines a.depth) (folds_of K m a.choices a.lines cells a.depth) n (bays_from c.args.left.now.remaining 0) some h refl c.if-self.false
    (ap (λ p. K.at_most a.best p) (sym low) ∙ sym c.if-at_most.ensures))
