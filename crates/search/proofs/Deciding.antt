-- What the code decides of the next bay is what the model decides.
use Rattle.std.proofs.Common.{◌≡◌, ℕ, ◌-◌, ◌^◌, ◌<◌, ◌≤◌, Bool, true, false, not, ◌&&◌, eqb, leb, List, [], ◌∷◌, length, get_or, ℤ, pos, negsuc, Some, None, Option as Maybe, sym, refl, ap, ◌∙◌, subst, ap₂, arith}
use Rattle.std.specs.Prelude.{if◌then◌else◌, is_some, unwrap_or}
use Rattle.std.specs.Option.{option_map}
use lib.Signed.{le_z}
use Rattle.std.proofs.lemmas.Bool.{and_parts, leb-true, ne_eqb, both_ways}
use Rattle.course.specs.Links.{Agree}
use Rattle.course.specs.Masks.{settled, decided}
use Rattle.course.specs.Views.{answers_of}
use Rattle.course.specs.declared.line.Step.{Step as Taken}
use Rattle.course.proofs.Bridge.{decide_is}
use Rattle.model.specs.Books.{Meaning}
use Rattle.model.specs.Course.{Answers, Passing, Step, near, decide}
use Rattle.model.specs.Lists.{member, product}
use Rattle.model.specs.Prices.{Ops}
use Rattle.model.specs.Search.{share}
use Rattle.model.specs.Sets.{has}
use Rattle.model.specs.Terms.{Term}
use Rattle.model.proofs.Bits.{has_below}
use Rattle.model.proofs.Costs.{any_map}
use Rattle.model.proofs.Listed.{decide_in}
use Rattle.pickers.specs.declared.question.Question.{Question}
use Rattle.search.proofs.Members.{members_sound, members_same, keep_members, bays_same}
use Rattle.search.proofs.Standing.{some_bays}
use Rattle.search.specs.Force.{flag, term, terms_from, shares}
use Rattle.search.specs.Places.{members, bays_from, byte_of}
use Rattle.search.specs.Decisions.{Decides}
use Rattle.search.specs.Visit.{is_near, setup_of, Decided}
use Rattle.search.specs.declared.decide.Table.{Table}
use Rattle.search.specs.declared.state.Left.{Left}
use Rattle.search.specs.declared.state.Line.{Line}
use Rattle.search.specs.declared.state.Search.{Search}

-- what stands first in a list that is not empty
cons_of : {A : Type 0} (xs : List A) → 0 < length xs → (x : A) × (ys : List A) × (xs ≡ x ∷ ys)
cons_of [] h = absurd (omega arith)
cons_of (x ∷ ys) h = (x, ys, refl)

within_four : (n : ℕ) (k : ℤ) → le_z (pos n) k ≡ true → le_z k (pos 4) ≡ true → n ≤ 4
within_four n (pos m) p q = omega (arith, leb-true n m p, leb-true m 4 q)
within_four n (negsuc m) p q = absurd (both_ways false refl p)

step_path : (d : Step) (b : ℕ) (f : Bool) (c : ℕ) → d.bay ≡ b → d.fold ≡ f → d.cells ≡ c → d ≡ record { bay = b; fold = f; cells = c }
step_path d b f c p q r = λ i. record { bay = p i; fold = q i; cells = r i }

folds_if : (f : Bool) (n : ℕ) → is_some (if f then Some n else None) ≡ f
folds_if true n = refl
folds_if false n = refl

module _ (S : Passing) (adj : ℕ → ℕ → Bool) (unused r : ℕ) (rs : List ℕ) where
  decide_cells : (decide S adj unused r rs).cells ≡ product S.choices (near adj (r ∷ rs) (decide S adj unused r rs).bay)
  unfolding decide
  decide_cells = refl

  decide_fold : (decide S adj unused r rs).fold ≡ (le_z (pos (length (near adj (r ∷ rs) (decide S adj unused r rs).bay))) S.k && leb (decide S adj unused r rs).cells unused)
  unfolding decide
  decide_fold = refl

module _ {P : Type 0} (K : Ops P) (m : Meaning P) (cs : List ℕ) (lines : List Line) (cells : List P) (force : List Bool) where
  pub share_is : (b i : ℕ) → share (terms_from K m cs lines cells force 0) b i ≡ shares m lines force b 0 i
  share_is b i = any_map (λ (t : Term P). t.scope b && t.scope i) (term K m cs lines cells) (members (flag force) 0 112)

  near_list : (remaining b mask : ℕ) → ((i : ℕ) → has mask i ≡ is_near m lines force remaining b i) → near (share (terms_from K m cs lines cells force 0)) (bays_from remaining 0) b ≡ bays_from mask 0
  near_list remaining b mask h =
      keep_members (λ i. not (eqb i b) && share (terms_from K m cs lines cells force 0) b i) (has remaining) 0 24
      ∙ members_same (λ i. has remaining i && (not (eqb i b) && share (terms_from K m cs lines cells force 0) b i)) (has mask) 0 24
      (λ i l u. ap (λ (x : Bool). has remaining i && (not (eqb i b) && x)) (share_is b i) ∙ sym (h i))

  agrees : (remaining : ℕ) (nears : List ℕ) → remaining < 2 ^ 24 → ((b i : ℕ) → b < 24 → has (get_or nears b 0) i ≡ is_near m lines force remaining b i) → Agree remaining nears (share (terms_from K m cs lines cells force 0))
  agrees remaining nears small h i j hi hj ne =
      h i j (has_below 24 remaining i small hi)
      ∙ ap₂ (λ (x y : Bool). x && (not y && shares m lines force i 0 j)) hj (ne_eqb j i (λ e. ne (sym e)))
      ∙ sym (share_is i j)

-- the step that was taken, with its bay's neighbours
pub step_decides : {P : Type 0} (K : Ops P) (m : Meaning P) (pick : Question → ℕ) → ((q : Question) → 0 < q.remaining → q.remaining < 2 ^ 24 → has q.remaining (pick q) ≡ true)
    → (s : Search P) (remaining : ℕ) (force : List Bool) (used : ℕ) (cells : List P) (nears : List ℕ) → 0 < remaining → remaining < 2 ^ 24
    → ((b i : ℕ) → b < 24 → has (get_or nears b 0) i ≡ is_near m s.lines force remaining b i)
    → (d : Taken) → d ≡ decided pick s.choices s.k.k nears remaining (length cells - used)
    → Decided K m (answers_of pick) s remaining force used cells d.bay (is_some d.table) (get_or nears d.bay 0) (unwrap_or d.table 0)
step_decides {P} K m pick remains s remaining force used cells nears some small h d is =
    let first = cons_of (bays_from remaining 0) (some_bays remaining some small) in
    record {
      bay_in = on first.0 first.1 first.2;
      near_is = λ i. h d.bay i (inside first.0 first.1 first.2);
      step = λ r rs e. step_path (next r rs) d.bay (is_some d.table) _ (same_bay r rs e) (same_fold r rs e) (whole r rs e);
      short = λ t. within_four _ s.k.k (ap (λ (l : List ℕ). le_z (pos (length l)) s.k.k) (sym (nears_of first.0 first.1 first.2)) ∙ (and_parts _ _ (folds first.0 first.1 first.2 t)).0) s.k.high;
      whole = λ t. used_is first.0 first.1 first.2 t ∙ whole first.0 first.1 first.2;
      fits = λ t. subst (λ (n : ℕ). n ≤ length cells - used) (sym (used_is first.0 first.1 first.2 t)) (leb-true _ _ (and_parts _ _ (folds first.0 first.1 first.2 t)).1);
    }
  where
    S : Passing
    S = (setup_of K s.choices (answers_of pick) s.k s.limit).passing

    adj : ℕ → ℕ → Bool
    adj = share (terms_from K m s.choices s.lines cells force 0)

    next : ℕ → List ℕ → Step
    next r rs = decide (setup_of K s.choices (answers_of pick) s.k s.limit).passing (share (terms_from K m s.choices s.lines cells force 0)) (length cells - used) r rs

    says : (r : ℕ) (rs : List ℕ) → bays_from remaining 0 ≡ r ∷ rs → settled (next r rs).bay (next r rs).fold (next r rs).cells ≡ d
    says r rs e =
        decide_is (setup_of K s.choices (answers_of pick) s.k s.limit).passing pick s.choices (record { asks = λ vs k. refl; tells = λ i. refl; remains = remains }) remaining nears (share (terms_from K m s.choices s.lines cells force 0)) (length cells - used) some small
        (agrees K m s.choices s.lines cells force remaining nears small h) r rs (sym e ∙ bays_same remaining)
        ∙ sym is

    same_bay : (r : ℕ) (rs : List ℕ) → bays_from remaining 0 ≡ r ∷ rs → (next r rs).bay ≡ d.bay
    same_bay r rs e = ap (λ (t : Taken). t.bay) (says r rs e)

    same_fold : (r : ℕ) (rs : List ℕ) → bays_from remaining 0 ≡ r ∷ rs → (next r rs).fold ≡ (is_some d.table)
    same_fold r rs e = sym (folds_if (next r rs).fold (next r rs).cells) ∙ ap (λ (t : Taken). is_some t.table) (says r rs e)

    on : (r : ℕ) (rs : List ℕ) → bays_from remaining 0 ≡ r ∷ rs → member d.bay (bays_from remaining 0) ≡ true
    on r rs e = ap₂ member (sym (same_bay r rs e)) e ∙ decide_in (setup_of K s.choices (answers_of pick) s.k s.limit).passing (share (terms_from K m s.choices s.lines cells force 0)) (length cells - used) r rs

    inside : (r : ℕ) (rs : List ℕ) → bays_from remaining 0 ≡ r ∷ rs → d.bay < 24
    inside r rs e = omega (arith, (members_sound (has remaining) d.bay 0 24 (on r rs e)).2)

    nears_of : (r : ℕ) (rs : List ℕ) → bays_from remaining 0 ≡ r ∷ rs → near (share (terms_from K m s.choices s.lines cells force 0)) (r ∷ rs) (next r rs).bay ≡ bays_from (get_or nears d.bay 0) 0
    nears_of r rs e =
        ap₂ (near (share (terms_from K m s.choices s.lines cells force 0))) (sym e) (same_bay r rs e)
        ∙ near_list K m s.choices s.lines cells force remaining d.bay (get_or nears d.bay 0) (λ i. h d.bay i (inside r rs e))

    whole : (r : ℕ) (rs : List ℕ) → bays_from remaining 0 ≡ r ∷ rs → (next r rs).cells ≡ product (byte_of s.choices) (bays_from (get_or nears d.bay 0) 0)
    whole r rs e = decide_cells (setup_of K s.choices (answers_of pick) s.k s.limit).passing (share (terms_from K m s.choices s.lines cells force 0)) (length cells - used) r rs ∙ ap (product (byte_of s.choices)) (nears_of r rs e)

    folds : (r : ℕ) (rs : List ℕ) → bays_from remaining 0 ≡ r ∷ rs → (is_some d.table) ≡ true
        → (le_z (pos (length (near (share (terms_from K m s.choices s.lines cells force 0)) (r ∷ rs) (next r rs).bay))) s.k.k && leb (next r rs).cells (length cells - used)) ≡ true
    folds r rs e t = sym (decide_fold (setup_of K s.choices (answers_of pick) s.k s.limit).passing (share (terms_from K m s.choices s.lines cells force 0)) (length cells - used) r rs) ∙ same_fold r rs e ∙ t

    used_is : (r : ℕ) (rs : List ℕ) → bays_from remaining 0 ≡ r ∷ rs → (is_some d.table) ≡ true → unwrap_or d.table 0 ≡ (next r rs).cells
    used_is r rs e t = sym (ap (λ (x : Taken). unwrap_or x.table 0) (says r rs e)) ∙ ap (λ (x : Bool). unwrap_or (if x then Some (next r rs).cells else None) 0) (same_fold r rs e ∙ t)

-- what a decision says, with a table and with none
module _ {P : Type 0} (K : Ops P) (m : Meaning P) (pick : Answers) (s : Search P) (left : Left) (cells : List P) (b : ℕ) where
  pub decides : (t : Maybe ℕ) (near : ℕ) → Decided K m pick s left.remaining left.force.now left.used cells b (is_some t) near (unwrap_or t 0) → (r : Maybe Table)
      → r ≡ option_map (λ (size : ℕ). record { near = near; size = size }) t → Decides K m pick s left cells (record { bay = b; table = r })
  decides None near d r e = rw e (near, 0, d)
  decides (Some size) near d r e = rw e d

  pub by_table : (r : Maybe Table) → Decides K m pick s left cells (record { bay = b; table = r }) → (t : Table) → r ≡ Some t → Decided K m pick s left.remaining left.force.now left.used cells b true t.near t.size
  by_table r d t e = rw e at d

  pub by_none : (r : Maybe Table) → Decides K m pick s left cells (record { bay = b; table = r }) → r ≡ None → (near size : ℕ) × Decided K m pick s left.remaining left.force.now left.used cells b false near size
  by_none r d e = rw e at d
