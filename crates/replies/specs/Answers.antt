-- What the program answers to a command, as text.
use Rattle.std.specs.Prelude.{◌≡◌, ℕ, List, length, map, replicate, ℤ, Ok, Err, Option, Result}
use Rattle.std.specs.List.{range_with_len}
use Rattle.commands.specs.Writings.{Writes}
use Rattle.commands.specs.declared.command.Command.{Command}
use Rattle.commands.specs.declared.command.Command.TheVariants.{Pin, Unpin, Suspend, Resume, Course, Plan}
use Rattle.course.specs.Replies.{lines_of, reply}
use Rattle.course.specs.Written.{written}
use Rattle.course.specs.declared.line.Line.{Line}
use Rattle.model.specs.Books.{Meaning}
use Rattle.model.specs.Prices.{Ops}
use Rattle.prices.specs.Amounts.{sums, taken}
use Rattle.prices.specs.declared.upto.Upto.{Upto}
use Rattle.search.specs.Start as search
use Rattle.pickers.specs.Orders.{last_in}
use Rattle.pickers.specs.declared.question.Question.{Question}
use Rattle.refusals.specs.declared.Refusal.{Refusal}
use Rattle.refusals.specs.declared.Refusal.TheVariants.{UnreadLine}
use Rattle.replies.specs.declared.reply.Sought.{Sought}
use Rattle.replies.specs.Texts.{refusal_text, course_text, planned_text}

-- the program's picker: the order from 0 to 23
abbrev pub rising : Question → ℕ
rising q = last_in q.remaining (range_with_len 0 24) 0

abbrev pub course_told : List Line → Result ℕ Refusal → List ℕ
course_told ls (Ok n) = course_text ls n
course_told ls (Err e) = refusal_text e

-- the course of a book by a picker, or why it is refused, where there is room for so many lines
abbrev pub course_by : {P : Type 0} → Meaning P → (Question → ℕ) → ℤ → (cells room : ℕ) → List ℕ
course_by m pick k cells room = course_told (map written (lines_of m pick k cells)) (reply m pick k cells room)

-- by the program's picker; there is room for 24 lines
abbrev pub course_answer : {P : Type 0} → Meaning P → ℤ → ℕ → List ℕ
course_answer m k cells = course_by m rising k cells 24

-- the cheapest plan of a book by a picker, or why there is none, where these plan bytes stood before
abbrev pub plan_by : {TOP : ℕ} → Ops (Upto TOP) → Meaning (Upto TOP) → (Question → ℕ) → Sought → Option (Upto TOP) → List ℕ → List ℕ
plan_by o m pick s offered bytes =
    planned_text (map (search.bytes_after o m pick s.k s.limit s.cells (length bytes) offered bytes) (range_with_len 0 m.bays))
    (search.reply o m pick s.k s.limit s.cells (length bytes) offered)

-- a book of cents
abbrev pub Book : Type 0
Book = Meaning (Upto 1000000000)

-- by the program's picker; there are 24 plan bytes, all 0 before
abbrev pub plan_answer : Book → Sought → List ℕ
plan_answer m s = plan_by (sums 1000000000) m rising s (taken 1000000000 s.ceiling) (replicate 24 0)

abbrev pub answer_text : {P : Type 0} → Meaning P → Command → List ℕ
answer_text m (Pin bay choice) = refusal_text UnreadLine
answer_text m (Unpin bay) = refusal_text UnreadLine
answer_text m (Suspend rule) = refusal_text UnreadLine
answer_text m (Resume rule) = refusal_text UnreadLine
answer_text m (Course k cells) = course_answer m k cells
answer_text m (Plan k cells limit ceiling) = refusal_text UnreadLine

-- a line that writes a command is answered as the command, and any other line is refused
pub record Answered {P : Type 0} (m : Meaning P) (line text : List ℕ) : Type 0 where
  pub written : (c : Command) → Writes line c → text ≡ answer_text m c
  pub unwritten : ((c : Command) → Writes line c → ⊥) → text ≡ refusal_text UnreadLine
