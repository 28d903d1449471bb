-- What the lines and the state of a search stand for, and what its steps make of them.
use Rattle.std.specs.Prelude.{◌≡◌, ℕ, zero, suc, ◌+◌, ◌-◌, ◌^◌, ◌<◌, ◌≤◌, Bool, true, false, cond, not, ◌&&◌, List, [], ◌∷◌, length, ◌==◌, Some, None, Option as Maybe, nat_lt, slice_index}
use Rattle.std.proofs.Math.Option.{Option, none, some}
use Rattle.course.specs.declared.bound.Bound.{Bound}
use Rattle.model.specs.Prices.{Ops}
use Rattle.model.specs.Books.{Meaning}
use Rattle.model.specs.Lists.{member, product}
use Rattle.model.specs.Sets.{has}
use Rattle.model.specs.Course.{Answers, Step, decide, drop_bay}
use Rattle.model.specs.Terms.{Plan, Term, Fold, floor, put, folded}
use Rattle.model.specs.Search.{Setup, Sofar, visit, each, share}
use Rattle.search.specs.Places.{members, bays_from, byte_of, Open, Few}
use Rattle.search.specs.Force.{line_at, flag, scope_mask, terms_from, shares, Fits}
use Rattle.search.specs.declared.state.Left.{Left}
use Rattle.search.specs.declared.state.Line.{Line}
use Rattle.search.specs.declared.state.Passed.TheVariants.{Branched}
use Rattle.search.specs.declared.state.Search.{Search}

abbrev pub setup_of : {P : Type 0} → Ops P → List ℕ → Answers → Bound → ℕ → Setup P
setup_of o cs pick k limit = record { passing = record { choices = byte_of cs; pick = pick; k = k.k }; ops = o; bound = floor o (byte_of cs); limit = limit }

-- the bays with choices
abbrev pub all_bays : List ℕ → List ℕ
all_bays cs = members (λ i. nat_lt 0 (slice_index cs i)) 0 24

-- the plan that bytes hold, if there are any
abbrev pub plan_of : Maybe (List ℕ) → Option Plan
plan_of None = none
plan_of (Some plan) = some (byte_of plan)

-- what a search has so far
abbrev pub sofar : {P : Type 0} → Search P → Bool → Sofar P
sofar s r = record { count = s.count; best = s.best; plan = plan_of s.plan; stopped = r }

-- the choices that the first d lines set: a branched bay has its line's choice
unfoldable pub set_in : List Line → ℕ → Plan
set_in lines zero = λ _. 0
set_in lines (suc d) = cond (line_at lines d).folded (set_in lines d) (put (line_at lines d).bay (line_at lines d).choice (set_in lines d))

-- the folded bays of the first d lines, the newest first
unfoldable pub folds_of : {P : Type 0} → Ops P → Meaning P → List ℕ → List Line → List P → ℕ → List (Fold P)
folds_of o m cs lines cells zero = []
folds_of o m cs lines cells (suc d) =
    cond (line_at lines d).folded
    (record { bay = (line_at lines d).bay; terms = terms_from o m cs lines cells (line_at lines d).force 0 } ∷ folds_of o m cs lines cells d)
    (folds_of o m cs lines cells d)

-- each branched line below d has one of its bay's choices
abbrev pub ChoicesOk : List ℕ → List Line → ℕ → Type 0
ChoicesOk cs lines d = (e : ℕ) → e < d → (line_at lines e).folded ≡ false → ((line_at lines e).bay < 24) × ((line_at lines e).choice < slice_index cs (line_at lines e).bay)

-- each folded line below d is of a bay with choices
abbrev pub BaysOk : List ℕ → List Line → ℕ → Type 0
BaysOk cs lines d = (e : ℕ) → e < d → (line_at lines e).folded ≡ true → ((line_at lines e).bay < 24) × (0 < slice_index cs (line_at lines e).bay)

-- the tables in force are those of folded lines below d
abbrev pub Tabled : List Line → ℕ → List Bool → Type 0
Tabled lines d force = (j : ℕ) → flag force j ≡ true → 88 ≤ j → (j - 88 < d) × ((line_at lines (j - 88)).folded ≡ true)

-- the folded lines below d have their tables in the used cells
pub record Stack (cs : List ℕ) (lines : List Line) (d used : ℕ) : Type 0 where
  pub tables : (e : ℕ) → e < d → (line_at lines e).folded ≡ true → (line_at lines e).offset + (line_at lines e).size ≤ used
  pub forces : (e : ℕ) → e < d → (line_at lines e).folded ≡ true → Tabled lines d (line_at lines e).force
  pub bays : BaysOk cs lines d

-- what holds between steps, of the first d lines
pub record State {P : Type 0} (m : Meaning P) (s : Search P) (d : ℕ) (left : Left) (total : ℕ) : Type 0 where
  pub fits : Fits m s.choices
  pub few : Few s.choices
  pub legal : ChoicesOk s.choices s.lines d
  pub opened : Open s.choices left.remaining
  pub small : left.remaining < 2 ^ 24
  pub deep : s.depth + length (bays_from left.remaining 0) ≤ 24
  pub room : left.used ≤ total
  pub tabled : Tabled s.lines d left.force.now
  pub stack : Stack s.choices s.lines d left.used

-- the first d lines stay
abbrev pub Kept : List Line → List Line → ℕ → Type 0
Kept lines lines' d = (e : ℕ) → e < d → line_at lines' e ≡ line_at lines e

-- what a visit leaves as it was, with d lines
pub record Framed {P : Type 0} (d : ℕ) (a b : Search P) : Type 0 where
  pub choices : b.choices ≡ a.choices
  pub depth : b.depth ≡ a.depth
  pub limit : b.limit ≡ a.limit
  pub k : b.k ≡ a.k
  pub kept : Kept a.lines b.lines d

-- what a step on the lines leaves as it was
pub record Same {P : Type 0} (a b : Search P) : Type 0 where
  pub choices : b.choices ≡ a.choices
  pub best : b.best ≡ a.best
  pub plan : b.plan ≡ a.plan
  pub count : b.count ≡ a.count
  pub limit : b.limit ≡ a.limit
  pub k : b.k ≡ a.k

-- the visit that the model makes of a state
abbrev pub visited : {P : Type 0} → Ops P → Meaning P → Answers → Search P → Left → List P → ℕ → Sofar P → Sofar P
visited o m pick s left cells n =
    visit (setup_of o s.choices pick s.k s.limit) n (bays_from left.remaining 0) (terms_from o m s.choices s.lines cells left.force.now 0) (length cells - left.used) (set_in s.lines s.depth) (folds_of o m s.choices s.lines cells s.depth)

-- a fold of the bay b
abbrev pub folding : {P : Type 0} → Ops P → Meaning P → Answers → Search P → ℕ → Left → List P → ℕ → ℕ → ℕ → Sofar P → Sofar P
folding o m pick s rest left cells b size n =
    let ts = terms_from o m s.choices s.lines cells left.force.now 0 in
    visit (setup_of o s.choices pick s.k s.limit) n (bays_from rest 0) (folded o (byte_of s.choices) b ts) (length cells - left.used - size) (set_in s.lines s.depth) (record { bay = b; terms = ts } ∷ folds_of o m s.choices s.lines cells s.depth)

-- the first t choices of the bay b, with d lines before it
abbrev pub branching : {P : Type 0} → Ops P → Meaning P → Answers → Search P → ℕ → Left → List P → ℕ → ℕ → ℕ → Sofar P → Sofar P
branching o m pick s d left cells b t n =
    each t (λ c. visit (setup_of o s.choices pick s.k s.limit) n (bays_from left.remaining 0) (terms_from o m s.choices s.lines cells left.force.now 0) (length cells - left.used) (put b c (set_in s.lines d)) (folds_of o m s.choices s.lines cells d))

-- the bays that a set of neighbours has
abbrev pub is_near : {P : Type 0} → Meaning P → List Line → List Bool → ℕ → ℕ → ℕ → Bool
is_near m lines force remaining b i = has remaining i && (not (i == b) && shares m lines force b 0 i)

-- a set has the neighbours of a bay
pub record Nears {P : Type 0} (m : Meaning P) (lines : List Line) (force : List Bool) (remaining b set : ℕ) : Type 0 where
  pub has_is : (i : ℕ) → has set i ≡ is_near m lines force remaining b i

-- the terms in force once b is folded at the depth d
abbrev pub after : {P : Type 0} → Meaning P → List Line → List Bool → ℕ → ℕ → ℕ → Bool
after m lines force b d j = cond (j == 88 + d) true (flag force j && not (has (scope_mask m lines j) b))

-- a line with another choice
abbrev pub tried : Line → ℕ → Line
tried l c = record { bay = l.bay; passed = Branched c }

-- what is decided of the next bay: which, and, where it is folded, its neighbours and the size of their table
pub record Decided {P : Type 0} (o : Ops P) (m : Meaning P) (pick : Answers) (s : Search P) (remaining : ℕ) (force : List Bool) (used : ℕ) (cells : List P) (bay : ℕ) (fold : Bool) (nears size : ℕ) : Type 0 where
  pub bay_in : member bay (bays_from remaining 0) ≡ true
  pub near_is : (i : ℕ) → has nears i ≡ is_near m s.lines force remaining bay i
  pub step : (r : ℕ) (rs : List ℕ) → bays_from remaining 0 ≡ r ∷ rs → decide (setup_of o s.choices pick s.k s.limit).passing (share (terms_from o m s.choices s.lines cells force 0)) (length cells - used) r rs
      ≡ record { bay = bay; fold = fold; cells = product (byte_of s.choices) (bays_from nears 0) }
  pub short : fold ≡ true → length (bays_from nears 0) ≤ 4
  pub whole : fold ≡ true → size ≡ product (byte_of s.choices) (bays_from nears 0)
  pub fits : fold ≡ true → size ≤ length cells - used

-- a visit from its pick on: a bay is picked, and folded or branched
abbrev pub passed : {P : Type 0} → Setup P → ℕ → List ℕ → List (Term P) → ℕ → Plan → List (Fold P) → Step → Bool → Sofar P → Sofar P
passed S n left ts unused σ folds d true = visit S n (drop_bay d.bay left) (folded S.ops S.passing.choices d.bay ts) (unused - d.cells) σ (record { bay = d.bay; terms = ts } ∷ folds)
passed S n left ts unused σ folds d false = each (S.passing.choices d.bay) (λ c. visit S n (drop_bay d.bay left) ts unused (put d.bay c σ) folds)

abbrev pub onward : {P : Type 0} → Setup P → ℕ → List ℕ → List (Term P) → ℕ → Plan → List (Fold P) → Sofar P → Sofar P
onward S n [] ts unused σ folds s = s
onward S n (r ∷ rs) ts unused σ folds s = let d = decide S.passing (share ts) unused r rs in passed S n (r ∷ rs) ts unused σ folds d d.fold s

abbrev pub passing : {P : Type 0} → Ops P → Meaning P → Answers → Search P → Left → List P → ℕ → Sofar P → Sofar P
passing o m pick s left cells n =
    onward (setup_of o s.choices pick s.k s.limit) n (bays_from left.remaining 0) (terms_from o m s.choices s.lines cells left.force.now 0) (length cells - left.used) (set_in s.lines s.depth) (folds_of o m s.choices s.lines cells s.depth)
