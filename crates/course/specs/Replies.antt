-- What a call for a course answers, and what its lines hold after it.
use Rattle.std.specs.Prelude.{◌≡◌, ℕ, Bool, cond, not, ◌&&◌, List, ◌++◌, map, length, take, drop, ℤ, Ok, Err, Result, nat_lt}
use Rattle.model.specs.Books.{Meaning}
use Rattle.model.specs.Claims.{Lists, states}
use Rattle.model.specs.Course.{course_in, forecast, capped, Line as Passed}
use Rattle.pickers.specs.declared.question.Question.{Question}
use Rattle.refusals.specs.declared.Refusal.{Refusal}
use Rattle.refusals.specs.declared.Refusal.TheVariants.{BadSetting}
use Rattle.course.specs.Bounds.{small}
use Rattle.course.specs.Views.{answers_of}
use Rattle.course.specs.Written.{written, unwritten}
use Rattle.course.specs.declared.line.Line.{Line}

-- the lines of a book's course under a picker of questions
abbrev pub lines_of : {P : Type 0} → Meaning P → (Question → ℕ) → ℤ → ℕ → List Passed
lines_of m pick k cells = course_in m (answers_of pick) k cells

-- whether a course may be made: k from -1 to 4, and a line for each bay
abbrev pub allowed : {P : Type 0} → Meaning P → ℤ → ℕ → Bool
allowed m k room = small k && not (nat_lt room m.bays)

abbrev pub reply : {P : Type 0} → Meaning P → (Question → ℕ) → ℤ → ℕ → ℕ → Result ℕ Refusal
reply m pick k cells room = cond (allowed m k room) (Ok (capped (forecast (lines_of m pick k cells)))) (Err BadSetting)

-- the lines written in front, the later ones left; refused, all are left
abbrev pub after : {P : Type 0} → Meaning P → (Question → ℕ) → ℤ → ℕ → List Line → List Line
after m pick k cells lines = cond (allowed m k (length lines)) (map written (lines_of m pick k cells) ++ drop m.bays lines) lines

-- in a course's own words: the lines list each bay of the book once, with its choices, and the forecast counts the states
-- that they lead to
pub record Tells {P : Type 0} (m : Meaning P) (lines : List Line) (n : ℕ) : Type 0 where
  pub lists : Lists m (map unwritten (take m.bays lines))
  pub counts : n ≡ capped (states 1 (map unwritten (take m.bays lines)))
