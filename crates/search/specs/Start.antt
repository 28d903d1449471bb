-- What a search starts from, and what a call for a plan answers.
use Rattle.std.specs.Prelude.{◌≡◌, ℕ, ◌-◌, Bool, false, cond, not, ◌&&◌, List, ℤ, Some, None, Option as Maybe, Ok, Err, Result, is_err, IfOk, MatchOption, nat_lt, slice_index}
use Rattle.std.proofs.Math.Option.{Option, none, some}
use Rattle.course.specs.Bounds.{small}
use Rattle.course.specs.Views.{answers_of}
use Rattle.model.specs.Prices.{Ops}
use Rattle.model.specs.Books.{Meaning}
use Rattle.model.specs.Terms.{Plan}
use Rattle.model.specs.Search.{Sofar}
use Rattle.model.specs.Searched.{search_in}
use Rattle.pickers.specs.declared.question.Question.{Question}
use Rattle.refusals.specs.declared.Refusal.{Refusal}
use Rattle.refusals.specs.declared.Refusal.TheVariants.{BadSetting, BadCell}
use Rattle.search.specs.Places.{byte_of}
use Rattle.search.specs.declared.answer.Planned.{Planned}
use Rattle.search.specs.declared.answer.Best.{Best}
use Rattle.search.specs.declared.answer.Ended.{Ended}
use Rattle.search.specs.declared.answer.Planned.TheVariants.{Found, NoPlan, Stopped, Refused}

-- whether the term j is in force at the start: all own prices and all rules are
abbrev pub starts : ℕ → ℕ → ℕ → Bool
starts bays rules j = cond (nat_lt j 24) (nat_lt j bays) (cond (nat_lt j 88) (nat_lt (j - 24) rules) false)

-- a plan with its price, or none
abbrev pub Holds : {P : Type 0} → Maybe (Best P) → Option Plan → P → Type 0
Holds b plan price = MatchOption b (plan ≡ none) (λ x. (plan ≡ some (byte_of x.plan)) × (x.price ≡ price))

-- what a search ended with: the visits made, and the plan that was found with its price, unless it stopped
pub record Ends {P : Type 0} (e : Ended P) (s : Sofar P) : Type 0 where
  pub visits : e.visits ≡ s.count
  pub stopped : is_err e.best ≡ s.stopped
  pub best : IfOk e.best (λ b. Holds b s.plan s.best)

-- what is answered of a search
abbrev pub by_plan : {P : Type 0} → Option Plan → P → ℕ → Planned P
by_plan none best count = NoPlan count
by_plan (some π) best count = Found best count

abbrev pub outcome_of : {P : Type 0} → Sofar P → Planned P
outcome_of s = cond s.stopped (Stopped s.count) (by_plan s.plan s.best s.count)

-- what stands in the plan bytes: the plan that was found, unless the search stopped, and later bytes as they were
abbrev pub bytes_by : Option Plan → ℕ → List ℕ → ℕ → ℕ
bytes_by none n old i = slice_index old i
bytes_by (some π) n old i = cond (nat_lt i n) (π i) (slice_index old i)

abbrev pub bytes_of : {P : Type 0} → Sofar P → ℕ → List ℕ → ℕ → ℕ
bytes_of s n old i = cond s.stopped (slice_index old i) (bytes_by s.plan n old i)

-- whether the settings are taken: k from -1 to 4, some visit allowed, and a byte for each bay
abbrev pub taken : ℤ → (limit bays room : ℕ) → Bool
taken k limit bays room = small k && (nat_lt 0 limit && not (nat_lt room bays))

abbrev pub allowed : {P : Type 0} → Meaning P → ℤ → (limit room : ℕ) → Bool
allowed m k limit room = taken k limit m.bays room

-- what follows an offered ceiling: refused where it is none
abbrev pub by_offer : {P : Type 0} → Maybe P → (P → Planned P) → Planned P
by_offer None f = Refused BadCell
by_offer (Some ceiling) f = f ceiling

abbrev pub bytes_by_offer : {P : Type 0} → Maybe P → (P → ℕ) → ℕ → ℕ
bytes_by_offer None f old = old
bytes_by_offer (Some ceiling) f old = f ceiling

-- a refusal is an answer too
abbrev pub answered : {P : Type 0} → Result (Planned P) Refusal → Planned P
answered (Ok p) = p
answered (Err e) = Refused e

-- the answer: that of the model's search, under the settings
abbrev pub reply : {P : Type 0} → Ops P → Meaning P → (Question → ℕ) → ℤ → (limit cells room : ℕ) → Maybe P → Planned P
reply o m pick k limit cells room offered =
    cond (allowed m k limit room) (by_offer offered (λ c. outcome_of (search_in o m (answers_of pick) k limit cells c))) (Refused BadSetting)

-- the plan bytes after the call
abbrev pub bytes_after : {P : Type 0} → Ops P → Meaning P → (Question → ℕ) → ℤ → (limit cells room : ℕ) → Maybe P → List ℕ → ℕ → ℕ
bytes_after o m pick k limit cells room offered old i =
    cond (allowed m k limit room) (bytes_by_offer offered (λ c. bytes_of (search_in o m (answers_of pick) k limit cells c) m.bays old i) (slice_index old i)) (slice_index old i)
