-- One step of the course on sets.
use Rattle.std.proofs.Common.{◌≡◌, ℕ, zero, suc, ◌-◌, ◌^◌, ◌<◌, Bool, true, false, cond, refl, ◌&&◌, leb, List, ◌∷◌, get_or, ℤ, pos, sym, ap, ap₂, ◌∙◌, ⊎_elim, arith}
use Rattle.std.specs.Prelude.{Option, Some, None, is_some, unwrap_or, Result, Ok, Err, OkIff}
use Rattle.std.specs.Option.{MatchOption}
use Rattle.std.specs.Result.{result_ok}
use Rattle.std.specs.Bool.{then_some}
use Rattle.std.proofs.lemmas.Option.{same_Some}
use lib.Count.{ones}
use lib.Signed.{le_z}
use Rattle.std.proofs.lemmas.Bool.{and_parts, and_right, cases_lt, le-leb, lt-leb, leb-true, eqb-true}
use Rattle.model.specs.Sets.{bit, has, one, minus}
use Rattle.bays.specs.Neighbours.{connected}
use Rattle.model.proofs.Bits.{ones_minus}
use Rattle.pickers.specs.declared.question.Question.{Question}
use Rattle.pickers.specs.Questions.{asked}
use Rattle.course.specs.declared.line.Line.{Line}
use Rattle.course.specs.declared.line.Step.{Step}
use Rattle.course.specs.Masks.{capped_cells, product_of, settled, step_at, decided, course_of}

-- the cells are capped far above any number of unused ones
fits_same : (p unused cells : ℕ) → unused < 2 ^ 64 → cells ≡ capped_cells p → leb cells unused ≡ leb p unused
fits_same p unused cells w e =
    ⊎_elim
    (λ l. lt-leb cells unused (omega arith) ∙ sym (lt-leb p unused l))
    (λ g. le-leb cells unused (omega arith) ∙ sym (le-leb p unused g))
    (cases_lt unused p)

-- the cells of a table, where a number is narrowed and then filtered by a test that answers as a step decides
pub stepped : {E : Type 0} (cs : List ℕ) (k : ℤ) (unused b near cells : ℕ) (r : Result ℕ E) (o t : Option ℕ) (Calls : ℕ → Bool → Type 0) → unused < 2 ^ 64 → cells ≡ capped_cells (product_of cs near)
    → OkIff r (cells < 2 ^ 64) cells → o ≡ result_ok r → MatchOption o (t ≡ None) (λ x. (v : Bool) × Calls x v × (t ≡ then_some v x)) → ((x : ℕ) (v : Bool) → Calls x v → v ≡ (le_z (pos (ones near)) k && leb x unused))
    → record { bay = b; table = t } ≡ step_at cs k unused b near
unfolding step_at
stepped cs k unused b near cells (Err e) None t Calls w is narrow o_is t_is calls =
    let p = product_of cs near in
    ap (λ (x : Option ℕ). record { bay = b; table = x }) t_is ∙ sym (ap (λ (v : Bool). settled b v p) (and_right (le_z (pos (ones near)) k) (leb p unused) (lt-leb p unused (omega (arith, narrow)))))
stepped cs k unused b near cells (Err e) (Some y) t Calls w is narrow o_is t_is calls = cc
stepped cs k unused b near cells (Ok x) None t Calls w is narrow o_is t_is calls = cc
stepped cs k unused b near cells (Ok x) (Some y) t Calls w is narrow o_is t_is calls =
    go (few && leb p unused) refl (t_is.2 ∙ ap (λ (v : Bool). then_some v y) (calls y t_is.0 t_is.1 ∙ ap (λ (v : Bool). few && v) (fits_same p unused y w y_is)))
  where
    p : ℕ
    p = product_of cs near

    few : Bool
    few = le_z (pos (ones near)) k

    y_is : y ≡ capped_cells (product_of cs near)
    y_is = same_Some y x o_is ∙ narrow.1 ∙ is

    go : (f : Bool) → (few && leb p unused) ≡ f → t ≡ then_some f y → record { bay = b; table = t } ≡ settled b f p
    go true e t_is =
        let fit = leb-true p unused (and_parts few (leb p unused) e).1 in
        let same : y ≡ p = omega (arith, y_is) in
        ap (λ (x : Option ℕ). record { bay = b; table = x }) (t_is ∙ ap Some same)
    go false e t_is = ap (λ (x : Option ℕ). record { bay = b; table = x }) t_is

pub decided_at : (pick : Question → ℕ) (cs : List ℕ) (k : ℤ) (ms : List ℕ) (m unused : ℕ) (q : Question) (b near : ℕ) → q ≡ asked m ms cs k → b ≡ pick q → near ≡ get_or q.neighbours b 0 → step_at cs k unused b near ≡ decided pick cs k ms m unused
unfolding decided
decided_at pick cs k ms m unused q b near qe be ne =
    ap (step_at cs k unused b) ne
    ∙ ap (λ (x : ℕ). step_at cs k unused x (get_or q.neighbours x 0)) be
    ∙ ap (λ (x : Question). step_at cs k unused (pick x) (get_or x.neighbours (pick x) 0)) qe

-- of sets
pub some_from_ones : (m : ℕ) → 0 < ones m → 0 < m
unfolding ones
some_from_ones zero h = h
some_from_ones (suc m) h = omega arith

pub one_fewer : (m b n : ℕ) → has m b ≡ true → ones m ≡ n → ones (minus m (one b)) ≡ n - 1
one_fewer m b n h e = omega (arith, ones_minus m b (eqb-true (bit m b) 1 h))

-- the lines, one by one
pub listed : (pick : Question → ℕ) (cs : List ℕ) (k k' : ℤ) (n j : ℕ) (ms ms' : List ℕ) (m r unused u : ℕ) (d : Step) (b : ℕ) (f : Bool) (lines : List Line)
    → k' ≡ k → n ≡ suc j → d ≡ decided pick cs k' ms m unused → b ≡ d.bay → f ≡ is_some d.table
    → ms' ≡ cond (is_some d.table) (connected ms d.bay) ms → r ≡ minus m (one d.bay) → u ≡ unused - unwrap_or d.table 0 → lines ≡ course_of pick cs k' j ms' r u
    → record { bay = d.bay; choices = get_or cs b 0; folded = f } ∷ lines ≡ course_of pick cs k n ms m unused
listed pick cs k k' n j ms ms' m r unused u d b f lines k_is n_is d_is b_is f_is ms_is r_is u_is lines_are =
    ap₂ (λ (x : ℕ) (y : Bool). record { bay = d.bay; choices = get_or cs x 0; folded = y } ∷ lines) b_is f_is
    ∙ ap (λ (ls : List Line). first d ∷ ls) (lines_are
    ∙ ap (λ (l : List ℕ). course_of pick cs k' j l r u) ms_is
    ∙ ap₂ (λ (x y : ℕ). course_of pick cs k' j (after d) x y) r_is u_is)
    ∙ ap (λ (x : Step). first x ∷ course_of pick cs k' j (after x) (minus m (one x.bay)) (unused - unwrap_or x.table 0)) d_is
    ∙ sym (ap (λ (x : ℕ). course_of pick cs k' x ms m unused) n_is)
    ∙ ap (λ (x : ℤ). course_of pick cs x n ms m unused) k_is
  where
    first : Step → Line
    first d = record { bay = d.bay; choices = get_or cs d.bay 0; folded = is_some d.table }

    after : Step → List ℕ
    after d = cond (is_some d.table) (connected ms d.bay) ms
