-- What a course and a plan are in a book: their answers, what they write, and what is promised of them.
use Rattle.std.specs.Prelude.{◌≡◌, ℕ, List, length, ℤ, Option, Result, MatchResult, slice_index}
use Rattle.course.specs.Replies as course
use Rattle.course.specs.Views.{answers_of}
use Rattle.course.specs.declared.line.Line.{Line}
use Rattle.model.specs.Books.{Meaning}
use Rattle.model.specs.Course.{course_in, forecast}
use Rattle.model.specs.Prices.{Ops}
use Rattle.pickers.specs.declared.question.Question.{Question}
use Rattle.refusals.specs.Numbers.{number_of}
use Rattle.refusals.specs.declared.Refusal.{Refusal}
use Rattle.search.specs.Promise.{Promise}
use Rattle.search.specs.Start as search
use Rattle.search.specs.declared.answer.Planned.{Planned}

-- The course of a book: its answer and its lines are the book's course; answered, it lists each bay once, with its choices,
-- and its forecast counts the states; refused, the lines stay.
pub record Coursed {P : Type 0} (m : Meaning P) (pick : Question → ℕ) (k : ℤ) (cells : ℕ) (old lines : List Line) (r : Result ℕ Refusal) : Type 0 where
  pub answers : r ≡ course.reply m pick k cells (length old)
  pub writes : lines ≡ course.after m pick k cells old
  pub tells : MatchResult r (λ n. course.Tells m lines n) (λ e. (number_of e ≡ 10) × (lines ≡ old))

-- The search of a book: its answer and the plan bytes are the search's, and it keeps its promise of plans and prices, with
-- the forecast of the book's course under the same picker, k and cells.
pub record Sought {P : Type 0} (o : Ops P) (m : Meaning P) (pick : Question → ℕ) (k : ℤ) (limit cells : ℕ) (offered : Option P) (old bytes : List ℕ) (r : Planned P) : Type 0 where
  pub answers : r ≡ search.reply o m pick k limit cells (length old) offered
  pub writes : (i : ℕ) → slice_index bytes i ≡ search.bytes_after o m pick k limit cells (length old) offered old i
  pub promise : Promise o m (search.allowed m k limit (length old)) offered (forecast (course_in m (answers_of pick) k cells)) limit bytes r
