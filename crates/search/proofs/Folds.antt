-- The folds of the lines, and what the used cells and older lines keep.
use Rattle.std.proofs.Common.{◌≡◌, ℕ, zero, suc, ◌+◌, ◌-◌, ◌≤◌, Bool, true, false, cond, List, [], ◌∷◌, take, sym, refl, ap, ◌∙◌, arith}
use Rattle.model.specs.Books.{Meaning}
use Rattle.model.specs.Prices.{Ops}
use Rattle.model.specs.Terms.{Term, Fold}
use Rattle.search.proofs.Members.{map_members}
use Rattle.search.proofs.Tables.{block_frame, term_frame}
use Rattle.search.specs.Force.{Told, line_at, flag, term, terms_from}
use Rattle.search.specs.Visit.{folds_of, Tabled, Stack, Kept}
use Rattle.search.specs.declared.state.Line.{Line}

module _ {P : Type 0} (K : Ops P) (m : Meaning P) (cs : List ℕ) (lines : List Line) (cells : List P) where
  pub folds_none : folds_of K m cs lines cells 0 ≡ []
  unfolding folds_of
  folds_none = refl

  pub folds_in : (d : ℕ) → (line_at lines d).folded ≡ true → folds_of K m cs lines cells (d + 1) ≡ record { bay = (line_at lines d).bay; terms = terms_from K m cs lines cells (line_at lines d).force 0 } ∷ folds_of K m cs lines cells d
  unfolding folds_of
  folds_in d e = let z : d + 1 ≡ suc d = omega arith in rw (z, e) refl

  pub folds_out : (d : ℕ) → (line_at lines d).folded ≡ false → folds_of K m cs lines cells (d + 1) ≡ folds_of K m cs lines cells d
  unfolding folds_of
  folds_out d e = let z : d + 1 ≡ suc d = omega arith in rw (z, e) refl

module _ {P : Type 0} (K : Ops P) (m : Meaning P) (cs : List ℕ) (lines lines' : List Line) (cells cells' : List P) (d used : ℕ) (stack : Stack cs lines d used) (kept : Kept lines lines' d) (same : take used cells' ≡ take used cells) where
  pub terms_kept : (force : List Bool) → Tabled lines d force → terms_from K m cs lines' cells' force 0 ≡ terms_from K m cs lines cells force 0
  terms_kept force tabled = sym (map_members (term K m cs lines cells) (term K m cs lines' cells') (flag force) 0 112 (λ j on l u. term_frame K m cs lines lines' cells cells' j (λ h.
      let t = tabled j on h in
      (sym (kept (j - 88) t.0), block_frame (line_at lines (j - 88)) used cells cells' (stack.tables (j - 88) t.0 t.1) (sym same)))))

  pub folds_kept : (e : ℕ) → e ≤ d → folds_of K m cs lines' cells' e ≡ folds_of K m cs lines cells e
  unfolding folds_of
  folds_kept zero h = refl
  folds_kept (suc e) h = ap (λ (l : Told). cond l.folded (record { bay = l.bay; terms = terms_from K m cs lines' cells' l.force 0 } ∷ folds_of K m cs lines' cells' e) (folds_of K m cs lines' cells' e)) (kept e (omega arith))
      ∙ ap (λ (fs : List (Fold P)). cond (line_at lines e).folded (record { bay = (line_at lines e).bay; terms = terms_from K m cs lines' cells' (line_at lines e).force 0 } ∷ fs) fs) (folds_kept e (omega arith))
      ∙ go (line_at lines e).folded refl
    where
      go : (x : Bool) → (line_at lines e).folded ≡ x → cond x (record { bay = (line_at lines e).bay; terms = terms_from K m cs lines' cells' (line_at lines e).force 0 } ∷ folds_of K m cs lines cells e) (folds_of K m cs lines cells e)
          ≡ cond x (record { bay = (line_at lines e).bay; terms = terms_from K m cs lines cells (line_at lines e).force 0 } ∷ folds_of K m cs lines cells e) (folds_of K m cs lines cells e)
      go true q = ap (λ (ts : List (Term P)). record { bay = (line_at lines e).bay; terms = ts } ∷ folds_of K m cs lines cells e) (terms_kept (line_at lines e).force (stack.forces e (omega arith) q))
      go false q = refl
