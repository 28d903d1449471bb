-- What is claimed of every search, over any terms.
use Rattle.std.specs.Prelude.{◌≡◌, ℕ, ◌<◌, ◌≤◌, true, false, List, [], length}
use Rattle.std.proofs.Math.Option.{Option, none, some}
use Rattle.model.specs.Prices.{Ops, PriceLaws}
use Rattle.model.specs.Lists.{any, member}
use Rattle.model.specs.Course.{course, forecast}
use Rattle.model.specs.Terms.{Plan, put, Term, cost, floor, touching, folded, chosen, Legal, Completes}
use Rattle.model.specs.Search.{Setup, Sofar, share, search}

-- a bound is at most what each completion costs, and is the cost where no bay is left
pub record Bounds {P : Type 0} (S : Setup P) : Type 0 where
  pub under : (ts : List (Term P)) (left : List ℕ) (σ π : Plan) → Legal S.passing.choices left π → Completes left σ π → S.ops.at_most (S.bound ts left σ) (cost S.ops ts π) ≡ true
  pub exact : (ts : List (Term P)) (σ : Plan) → S.bound ts [] σ ≡ cost S.ops ts σ

-- the floor is such a bound
abbrev pub FloorBounds : Type 0 → Type 0
FloorBounds P = (S : Setup P) → PriceLaws S.ops → S.bound ≡ floor S.ops S.passing.choices → Bounds S

-- Folding a bay keeps the least price: the terms then cost what they cost at the choice that the bay is read with, and
-- no more than at any choice. That choice is the first at which the terms that touch the bay combine least.
pub record Folds {P : Type 0} (o : Ops P) (choices : ℕ → ℕ) (b : ℕ) (ts : List (Term P)) (π : Plan) : Type 0 where
  pub reads : cost o (folded o choices b ts) π ≡ cost o ts (put b (chosen o choices b ts π) π)
  pub under : (c : ℕ) → c < choices b → o.at_most (cost o (folded o choices b ts) π) (cost o ts (put b c π)) ≡ true
  pub legal : chosen o choices b ts π < choices b
  pub first : (c : ℕ) → c < chosen o choices b ts π → o.at_most (cost o (touching b ts) (put b c π)) (cost o (touching b ts) (put b (chosen o choices b ts π) π)) ≡ false

abbrev pub FoldSound : Type 0 → Type 0
FoldSound P = (o : Ops P) → PriceLaws o → (choices : ℕ → ℕ) (b : ℕ) (ts : List (Term P)) (π : Plan) → 0 < choices b → Folds o choices b ts π

-- a plan that was found costs the best, which is below the ceiling; where none was, the best is the ceiling
abbrev pub Honest : {P : Type 0} → Setup P → List ℕ → List (Term P) → P → Option Plan → P → Type 0
Honest S bays terms ceiling none best = best ≡ ceiling
Honest S bays terms ceiling (some π) best = Legal S.passing.choices bays π × (cost S.ops terms π ≡ best) × (S.ops.at_most ceiling best ≡ false)

-- what a search answers: honest in any case, and unless it stopped no legal plan costs less than the best
pub record Cheapest {P : Type 0} (S : Setup P) (bays : List ℕ) (terms : List (Term P)) (ceiling : P) (s : Sofar P) : Type 0 where
  pub honest : Honest S bays terms ceiling s.plan s.best
  pub cheapest : s.stopped ≡ false → (π : Plan) → Legal S.passing.choices bays π → S.ops.at_most s.best (cost S.ops terms π) ≡ true

abbrev pub SearchCheapest : Type 0 → Type 0
SearchCheapest P = (S : Setup P) → PriceLaws S.ops → Bounds S → (bays : List ℕ) → ((i : ℕ) → member i bays ≡ true → 0 < S.passing.choices i)
    → (terms : List (Term P)) → ((i : ℕ) → any (λ t. t.scope i) terms ≡ true → member i bays ≡ true)
    → (cells : ℕ) (ceiling : P) → Cheapest S bays terms ceiling (search S bays terms cells ceiling)

-- The visits never exceed the forecast f or the limit. A search stops at exactly its limit, and only where that is
-- below the forecast.
pub record Counts {P : Type 0} (f limit : ℕ) (s : Sofar P) : Type 0 where
  pub visits : s.count ≤ f
  pub limited : s.count ≤ limit
  pub at_limit : s.stopped ≡ true → s.count ≡ limit
  pub stops : s.stopped ≡ true → limit < f

-- the forecast is of the course whose bays are neighbours at the start where they share a term
abbrev pub SearchCounts : Type 0 → Type 0
SearchCounts P = (S : Setup P) (bays : List ℕ) (terms : List (Term P)) (cells : ℕ) (ceiling : P)
    → Counts (forecast (course S.passing (length bays) bays (share terms) cells)) S.limit (search S bays terms cells ceiling)
