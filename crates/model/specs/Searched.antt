-- The search of a book, and what it promises of every book, in words of plans and their prices.
use Rattle.std.specs.Prelude.{◌≡◌, ℕ, Bool, true, false, cond, List, ◌++◌, map, ℤ, ◌==◌, slice_index, refl}
use Rattle.std.proofs.Common.{ap}
use Rattle.std.proofs.Math.Path.{fun_ext}
use Rattle.std.proofs.Math.Option.{none, some}
use Rattle.std.specs.List.{range_with_len}
use Rattle.std.proofs.lemmas.Bool.{eq-eqb}
use Rattle.model.specs.Prices.{Ops, PriceLaws}
use Rattle.model.specs.Sets.{has}
use Rattle.model.specs.Books.{Meaning, BookLaws, planned}
use Rattle.model.specs.Plans.{plan_price}
use Rattle.model.specs.Course.{Answers, course, passing_in, course_in, forecast}
use Rattle.model.specs.Terms.{Plan, Term, cost, floor}
use Rattle.model.specs.Search.{Setup, Sofar, share, search}
use Rattle.model.specs.SearchClaims.{Counts}

-- the bytes of a plan, one a bay of the book
abbrev pub bytes_in : {P : Type 0} → Meaning P → Plan → List ℕ
bytes_in m π = map π (range_with_len 0 m.bays)

-- a plan within a set of bays: the first choice elsewhere
abbrev pub within : ℕ → Plan → Plan
within set π i = cond (has set i) (π i) 0

pub within_same : (set : ℕ) (π ρ : Plan) → ((i : ℕ) → has set i ≡ true → π i ≡ ρ i) → within set π ≡ within set ρ
within_same set π ρ h = fun_ext (λ i. go i (has set i) (h i))
  where
    go : (i : ℕ) (t : Bool) → (t ≡ true → π i ≡ ρ i) → cond t (π i) 0 ≡ cond t (ρ i) 0
    go i true e = e refl
    go i false e = refl

-- the term of a bay's own price
abbrev pub own_term : {P : Type 0} → Meaning P → ℕ → Term P
own_term m b = record {
  scope = λ i. (i == b);
  value = λ π. m.own b (π b);
  stable = λ π ρ h. ap (m.own b) (h b (eq-eqb b b refl));
}

-- the term of a rule, which is asked about the plan within its scope
abbrev pub rule_term : {P : Type 0} → Meaning P → ℕ → Term P
rule_term m r = record {
  scope = has (m.scope r);
  value = λ π. m.price r (bytes_in m (within (m.scope r) π));
  stable = λ π ρ h. ap (λ (τ : Plan). m.price r (bytes_in m τ)) (within_same (m.scope r) π ρ h);
}

-- the terms at the start: all own prices by bay, then all rules by number
unfoldable pub terms_in : {P : Type 0} → Meaning P → List (Term P)
terms_in m = map (own_term m) (range_with_len 0 m.bays) ++ map (rule_term m) (range_with_len 0 m.rules)

-- the search of a book is bounded by the floor
abbrev pub setup_in : {P : Type 0} → Ops P → Meaning P → Answers → ℤ → ℕ → Setup P
setup_in o m pick k limit = record { passing = passing_in m pick k; ops = o; bound = floor o m.choices; limit = limit }

-- the search of a book under a picker, with k, a limit of visits, a number of cells, and a ceiling
unfoldable pub search_in : {P : Type 0} → Ops P → Meaning P → Answers → ℤ → (limit cells : ℕ) → (ceiling : P) → Sofar P
search_in o m pick k limit cells ceiling = search (setup_in o m pick k limit) (range_with_len 0 m.bays) (terms_in m) cells ceiling

-- the terms cost what a plan costs
abbrev pub TermsPrice : Type 0 → Type 0
TermsPrice P = (o : Ops P) → PriceLaws o → (m : Meaning P) → BookLaws o m → (plan : List ℕ) → planned m plan ≡ true
    → cost o (terms_in m) (λ i. slice_index plan i) ≡ plan_price o m plan

-- a book's course is the same whether its bays are neighbours by the terms or by the rules
abbrev pub TermsCourse : Type 0 → Type 0
TermsCourse P = (m : Meaning P) (pick : Answers) (k : ℤ) (cells : ℕ)
    → course (passing_in m pick k) m.bays (range_with_len 0 m.bays) (share (terms_in m)) cells ≡ course_in m pick k cells

-- bytes are a plan of this price, which is below the ceiling
pub record Below {P : Type 0} (o : Ops P) (m : Meaning P) (ceiling price : P) (bytes : List ℕ) : Type 0 where
  pub is_plan : planned m bytes ≡ true
  pub costs : plan_price o m bytes ≡ price
  pub below : o.at_most ceiling price ≡ false

-- no plan costs less than this price
abbrev pub NoneBelow : {P : Type 0} → Ops P → Meaning P → P → Type 0
NoneBelow o m price = (q : List ℕ) → planned m q ≡ true → o.at_most price (plan_price o m q) ≡ true

-- What a search promises. A plan that was found has the best price, below the ceiling; unless the search stopped, no
-- plan costs less, and it ends without a plan exactly when every plan costs the ceiling or more. Its visits are within
-- the forecast f and the limit.
pub record Promise {P : Type 0} (o : Ops P) (m : Meaning P) (f limit : ℕ) (ceiling : P) (s : Sofar P) : Type 0 where
  pub found : (π : Plan) → s.plan ≡ some π → Below o m ceiling s.best (bytes_in m π)
  pub cheapest : s.stopped ≡ false → NoneBelow o m s.best
  pub ended : s.stopped ≡ false → s.plan ≡ none → NoneBelow o m ceiling
  pub no_plan : NoneBelow o m ceiling → s.plan ≡ none
  pub counts : Counts f limit s

-- the forecast is that of the book's course
abbrev pub SearchKeeps : Type 0 → Type 0
SearchKeeps P = (o : Ops P) → PriceLaws o → (m : Meaning P) → BookLaws o m → (pick : Answers) (k : ℤ) (limit cells : ℕ) (ceiling : P)
    → Promise o m (forecast (course_in m pick k cells)) limit ceiling (search_in o m pick k limit cells ceiling)
