-- What a whole run of requests comes to, by the call sheet of the evening.
use Rattle.std.specs.Prelude.{◌≡◌, ℕ, min, false, List, [], ◌∷◌, map, replicate, Some, None, Option, Result, MatchResult}
use Rattle.std.specs.List.{range_with_len}
use Rattle.course.specs.Replies as course
use Rattle.course.specs.Views.{answers_of}
use Rattle.course.specs.declared.line.Line.{Line}
use Rattle.model.specs.Books.{Meaning}
use Rattle.model.specs.Course.{course_in, forecast}
use Rattle.model.specs.Prices.{Ops}
use Rattle.pickers.specs.declared.question.Question.{Question}
use Rattle.refusals.specs.Numbers.{number_of}
use Rattle.refusals.specs.declared.Refusal.{Refusal}
use Rattle.search.specs.Promise.{Promise}
use Rattle.search.specs.Start as search
use Rattle.search.specs.declared.answer.Planned.{Planned}
use Rattle.trials.specs.Dropped.{Trial, dropping}
use Rattle.trials.specs.Follows.{Follows}
use Rattle.trials.specs.Racks.{Rack, made, said, reply_by, sheet_by, rack_by}
use Rattle.trials.specs.Sheet.{Call, Sheet, Ground, Reply, sheet_book, after_all}
use Rattle.trials.specs.declared.evening.Evening.{Evening}
use Rattle.runs.specs.declared.request.Request.{Request}
use Rattle.runs.specs.declared.request.Request.TheVariants as asks
use Rattle.runs.specs.declared.request.Response.{Response}
use Rattle.runs.specs.declared.request.Response.TheVariants as says
use Rattle.runs.specs.declared.request.Exchange.{Exchange}

-- what a run goes by, besides its evening: the price kind, which offers are prices, the picker's answers, the cells lent
pub record Setting (O P : Type 0) : Type 0 where
  pub ops : Ops P
  pub accepts : O → Option P
  pub pick : Question → ℕ
  pub cells : ℕ

abbrev pub setting : {O P : Type 0} → Ops P → (O → Option P) → (Question → ℕ) → ℕ → Setting O P
setting o accepts pick cells = record { ops = o; accepts = accepts; pick = pick; cells = cells }

-- the cells of a course or a plan: as many as it asks for, at most all that are lent
abbrev pub lent : {O P : Type 0} → Setting O P → ℕ → ℕ
lent σ n = min n σ.cells

-- the buffers of a course and a plan before they are written
abbrev pub blank_lines : List Line
blank_lines = replicate 24 (record { bay = 0; choices = 0; folded = false })

abbrev pub blank_bytes : List ℕ
blank_bytes = replicate 24 0

-- a response by what it tells: the reply to a call, if one was made; a course; a plan
pub data Heard (P : Type 0) : Type 0 where
  acted : Option Reply → Heard P
  coursed : List Line → Result ℕ Refusal → Heard P
  planned : List ℕ → Planned P → Heard P

abbrev pub heard : {P : Type 0} → Response P → Heard P
heard (says.Act a) = acted (said a)
heard (says.Course lines forecast) = coursed lines forecast
heard (says.Plan plan answer) = planned plan answer

-- the answer to a request: the sheet's reply; the course, or the search, in the sheet's book
abbrev pub answer : {O P : Type 0} → Setting O P → Ground P → Sheet → Rack → Request O → Heard P
answer σ g s t (asks.Act c) = acted (reply_by g s (made t c))
answer σ g s t (asks.Course k n) =
    coursed (course.after (sheet_book σ.ops g s) σ.pick k (lent σ n) blank_lines) (course.reply (sheet_book σ.ops g s) σ.pick k (lent σ n) 24)
answer σ g s t (asks.Plan k n limit ceiling) =
    planned (map (search.bytes_after σ.ops (sheet_book σ.ops g s) σ.pick k limit (lent σ n) 24 (σ.accepts ceiling) blank_bytes) (range_with_len 0 24))
    (search.reply σ.ops (sheet_book σ.ops g s) σ.pick k limit (lent σ n) 24 (σ.accepts ceiling))

-- What holds of a course and a plan, in words of the sheet's book. A course lists each bay once and its forecast counts the
-- states. A plan that is found has its stated price, below the ceiling, and no plan costs less; none is found exactly where
-- every plan costs the ceiling or more; visits are within forecast and limit; it stops only where the limit is below the
-- forecast.
abbrev pub Claim : {O P : Type 0} → Setting O P → Ground P → Sheet → Request O → Heard P → Type 0
Claim σ g s (asks.Act c) (acted r) = Unit {0}
Claim σ g s (asks.Act c) (coursed lines r) = ⊥
Claim σ g s (asks.Act c) (planned plan r) = ⊥
Claim σ g s (asks.Course k n) (acted r) = ⊥
Claim σ g s (asks.Course k n) (coursed lines r) = MatchResult r (λ f. course.Tells (sheet_book σ.ops g s) lines f) (λ e. (number_of e ≡ 10) × (lines ≡ blank_lines))
Claim σ g s (asks.Course k n) (planned plan r) = ⊥
Claim σ g s (asks.Plan k n limit ceiling) (acted r) = ⊥
Claim σ g s (asks.Plan k n limit ceiling) (coursed lines r) = ⊥
Claim σ g s (asks.Plan k n limit ceiling) (planned plan r) =
    Promise σ.ops (sheet_book σ.ops g s) (search.allowed (sheet_book σ.ops g s) k limit 24) (σ.accepts ceiling) (forecast (course_in (sheet_book σ.ops g s) (answers_of σ.pick) k (lent σ n))) limit plan r

-- one exchange: answered as the sheet says, with what holds of the answer
pub record Good {O P : Type 0} (σ : Setting O P) (g : Ground P) (s : Sheet) (t : Rack) (x : Exchange O P) : Type 0 where
  pub answers : heard x.response ≡ answer σ g s t x.request
  pub claims : Claim σ g s x.request (heard x.response)

-- the call that a request makes; a course and a plan make none
abbrev pub call_of : {O : Type 0} → Rack → Request O → Option Call
call_of t (asks.Act c) = made t c
call_of t (asks.Course k n) = None
call_of t (asks.Plan k n limit ceiling) = None

-- the sheet and the tickets at hand after a request
abbrev pub next_sheet : {O P : Type 0} → Ground P → Sheet → Rack → Request O → Sheet
next_sheet g s t r = sheet_by g s (call_of t r)

abbrev pub next_rack : {O P : Type 0} → Ground P → Sheet → Rack → Request O → Rack
next_rack g s t (asks.Act c) = rack_by g s t c (made t c)
next_rack g s t (asks.Course k n) = t
next_rack g s t (asks.Plan k n limit ceiling) = t

-- the calls that a list of requests makes, one after the other
abbrev pub with_call : Option Call → List Call → List Call
with_call None cs = cs
with_call (Some c) cs = c ∷ cs

abbrev pub calls_of : {O P : Type 0} → Ground P → Sheet → Rack → List (Request O) → List Call
calls_of g s t [] = []
calls_of g s t (r ∷ rs) = with_call (call_of t r) (calls_of g (next_sheet g s t r) (next_rack g s t r) rs)

-- the sheet of all those calls, and the tickets at hand at the end
abbrev pub sheet_of : {O P : Type 0} → Ground P → Sheet → Rack → List (Request O) → Sheet
sheet_of g s t rs = after_all g s (calls_of g s t rs)

abbrev pub rack_of : {O P : Type 0} → Ground P → Sheet → Rack → List (Request O) → Rack
rack_of g s t [] = t
rack_of g s t (r ∷ rs) = rack_of g (next_sheet g s t r) (next_rack g s t r) rs

-- exchanges line by line, each by the sheet and the tickets of its moment
abbrev pub Lines : {O P : Type 0} → Setting O P → Ground P → Sheet → Rack → List (Exchange O P) → Type 0
Lines σ g s t [] = Unit {0}
Lines σ g s t (x ∷ xs) = Good σ g s t x × Lines σ g (next_sheet g s t x.request) (next_rack g s t x.request) xs

-- the answers to a list of requests
abbrev pub answers : {O P : Type 0} → Setting O P → Ground P → Sheet → Rack → List (Request O) → List (Heard P)
answers σ g s t [] = []
answers σ g s t (r ∷ rs) = answer σ g s t r ∷ answers σ g (next_sheet g s t r) (next_rack g s t r) rs

abbrev pub requests_in : {O P : Type 0} → List (Exchange O P) → List (Request O)
requests_in {O} {P} xs = map (λ (x : Exchange O P). x.request) xs

abbrev pub heard_in : {O P : Type 0} → List (Exchange O P) → List (Heard P)
heard_in {O} {P} xs = map (λ (x : Exchange O P). heard x.response) xs

-- one request: answered as the sheet says, and the evening and the rack are as after it
pub record Met {O B P : Type 0} (meaning : B → Meaning P) (σ : Setting O P) (g : Ground P) (s : Sheet) (t : Rack) (x : Exchange O P) (e : Evening B) (t' : Rack) : Type 0 where
  pub good : Good σ g s t x
  pub follows : Follows meaning g e (next_sheet g s t x.request)
  pub rack : t' ≡ next_rack g s t x.request

-- A run: the requests stand as they were, each is answered by the sheet of its moment, the evening has the pins, the
-- suspensions and the open trials of the sheet of the whole list, and the rack its tickets.
pub record Ran {O B P : Type 0} (meaning : B → Meaning P) (σ : Setting O P) (g : Ground P) (s : Sheet) (t : Rack) (old xs : List (Exchange O P)) (e : Evening B) (t' : Rack) : Type 0 where
  pub requests : requests_in xs ≡ requests_in old
  pub lines : Lines σ g s t xs
  pub answered : heard_in xs ≡ answers σ g s t (requests_in old)
  pub follows : Follows meaning g e (sheet_of g s t (requests_in old))
  pub rack : t' ≡ rack_of g s t (requests_in old)

-- a trial that is opened, used and dropped leaves nothing: with the same tickets at hand, every later request is answered as
-- if none of it had been made
abbrev pub TrialsLeaveNothing : {O P : Type 0} → Setting O P → Ground P → Type 0
TrialsLeaveNothing {O} σ g = (s : Sheet) (inside : List Call) → Trial g s inside → (t : Rack) (later : List (Request O)) → answers σ g (after_all g s (dropping g s inside)) t later ≡ answers σ g s t later
