-- What the code reads of a term.
use Rattle.std.proofs.Common.{◌≡◌, ℕ, ◌+◌, ◌-◌, ◌^◌, ◌<◌, ◌≤◌, Bool, true, false, cond, ltb, List, length, get_or, take, drop, sym, refl, ap, ◌∙◌, arith, le-ltb, lt-ltb}
use mathlib.Core.Bool.{false≢true}
use Rattle.std.proofs.lemmas.List.{get_or_default, get_or_past, get_or-take, get_or-drop}
use Rattle.model.proofs.Costs.{begins_from, rule_at}
use Rattle.model.specs.Searched.{within}
use Rattle.model.proofs.Bits.{bit_one_same}
use Rattle.model.specs.Books.{Meaning, BookLaws, planned}
use Rattle.model.specs.Prices.{Ops}
use Rattle.model.specs.Sets.{has}
use Rattle.search.proofs.Members.{members_sound}
use Rattle.model.specs.Terms.{Plan}
use Rattle.search.specs.Force.{Told, told, no_line, scope_of, offset_of, size_of, line_at, scope_mask, block, raw, term, Fits}
use Rattle.search.specs.Places.{place, place_stable, bays_from, byte_of, PlanOk}
use Rattle.search.specs.declared.state.Line.{Line}
use Rattle.search.specs.declared.state.Passed.{Passed}

-- past the lines no line tells of a table
past_lines : (lines : List Line) (d : ℕ) → length lines ≤ d → line_at lines d ≡ told no_line
past_lines lines d h = ap told (get_or_past lines d no_line h)

pub block_read : {P : Type 0} (s o a : ℕ) (xs : List P) (d : P) → a < s → get_or (take s (drop o xs)) a d ≡ get_or xs (o + a) d
block_read s o a xs d h = get_or-take s (drop o xs) a d h ∙ get_or-drop o xs a d

-- the price that a line's table gives a plan
abbrev pub table_price : {P : Type 0} → Ops P → List ℕ → List P → Plan → Passed → P
table_price K cs cells π p = get_or (take (size_of p) (drop (offset_of p) cells)) (place (byte_of cs) 0 (bays_from (scope_of p) 0) π) K.forbidden

module _ {P : Type 0} (K : Ops P) (m : Meaning P) (laws : BookLaws K m) (cs : List ℕ) (fits : Fits m cs) where
  pub open_bay : (i : ℕ) → i < m.bays → 0 < get_or cs i 0
  open_bay i h = rw (fits i) (laws.some_choice i h)

  pub planned_ok : (plan : List ℕ) → length plan ≡ 24 → PlanOk cs plan → planned m plan ≡ true
  planned_ok plan l ok = begins_from m.choices m.bays plan (λ i h.
      let few = laws.few_bays in
      let d : get_or plan i 255 ≡ get_or plan i 0 = get_or_default plan i 255 0 (omega arith) in
      let k : get_or plan i 0 < get_or cs i 0 = ok i (open_bay i h) in
      rw (d, sym (fits i)) k)

  module _ (lines : List Line) (cells : List P) (j : ℕ) (plan : List ℕ) where
    pub value_own : j < 24 → m.own j (get_or plan j 0) ≡ (term K m cs lines cells j).value (byte_of plan)
    unfolding raw scope_mask
    value_own h = rw (lt-ltb j 24 h, bit_one_same j) refl

    pub value_rule : 24 ≤ j → j < 88 → length plan ≡ 24 → PlanOk cs plan → m.price (j - 24) plan ≡ (term K m cs lines cells j).value (byte_of plan)
    unfolding raw scope_mask
    value_rule h k l ok = rw (le-ltb j 24 h, lt-ltb j 88 k) (sym (rule_at m laws (j - 24) (byte_of plan) plan (planned_ok plan l ok) (λ i _. refl)))

    pub value_table : 88 ≤ j → get_or (block cells (line_at lines (j - 88))) (place (byte_of cs) 0 (bays_from (line_at lines (j - 88)).scope 0) (byte_of plan)) K.forbidden ≡ (term K m cs lines cells j).value (byte_of plan)
    unfolding raw scope_mask
    value_table h =
        let lo : ltb j 24 ≡ false = le-ltb j 24 (omega arith) in
        rw (lo, le-ltb j 88 h)
        (ap (λ (x : ℕ). get_or (block cells (line_at lines (j - 88))) x K.forbidden) (place_stable (byte_of cs) 0 (bays_from (line_at lines (j - 88)).scope 0) (byte_of plan) (within (line_at lines (j - 88)).scope (byte_of plan)) (λ i e. go i (has (line_at lines (j - 88)).scope i) (members_sound (has (line_at lines (j - 88)).scope) i 0 24 e).0)))
      where
        go : (i : ℕ) (x : Bool) → x ≡ true → byte_of plan i ≡ cond x (get_or plan i 0) 0
        go i true e = refl
        go i false e = absurd (false≢true e)

    pub value_past : 112 ≤ j → length lines ≡ 24 → K.forbidden ≡ (term K m cs lines cells j).value (byte_of plan)
    value_past h l = sym (ap (λ (t : Told). get_or (block cells t) (place (byte_of cs) 0 (bays_from t.scope 0) (byte_of plan)) K.forbidden) (past_lines lines (j - 88) (omega arith))) ∙ value_table (omega arith)

module _ {P : Type 0} (m : Meaning P) (lines : List Line) (j : ℕ) where
  pub scope_own : j < 24 → scope_mask m lines j ≡ 2 ^ j
  unfolding scope_mask
  scope_own h = rw (lt-ltb j 24 h) refl

  pub scope_rule : 24 ≤ j → j < 88 → scope_mask m lines j ≡ m.scope (j - 24)
  unfolding scope_mask
  scope_rule h k = rw (le-ltb j 24 h, lt-ltb j 88 k) refl

  pub scope_table : 88 ≤ j → scope_mask m lines j ≡ (line_at lines (j - 88)).scope
  unfolding scope_mask
  scope_table h = let lo : ltb j 24 ≡ false = le-ltb j 24 (omega arith) in rw (lo, le-ltb j 88 h) refl

  pub scope_past : 112 ≤ j → length lines ≡ 24 → scope_mask m lines j ≡ 0
  scope_past h l = scope_table (omega arith) ∙ ap (λ (x : Told). x.scope) (past_lines lines (j - 88) (omega arith))
