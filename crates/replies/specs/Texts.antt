-- The text of the program's answers, as bytes.
use Rattle.std.specs.Prelude.{ℕ, cond, List, ◌++◌, codes, decimal}
use Rattle.std.specs.List.{flat_map}
use Rattle.course.specs.declared.line.Line.{Line}
use Rattle.prices.specs.declared.upto.Upto.{Upto}
use Rattle.refusals.specs.declared.Refusal.{Refusal}
use Rattle.refusals.specs.declared.Refusal.TheVariants as refusal
use Rattle.replies.specs.declared.text.Reply.{Reply}
use Rattle.replies.specs.declared.text.Reply.TheVariants as reply
use Rattle.search.specs.declared.answer.Planned.{Planned}
use Rattle.search.specs.declared.answer.Planned.TheVariants.{Found, NoPlan, Stopped, Refused}
pub use Rattle.refusals.specs.Texts.{refusal_text}

-- a bay, and f where it is folded, b where it is branched, each after a space
abbrev pub line_text : Line → List ℕ
line_text l = codes " " ++ (decimal l.bay ++ cond l.folded (codes " f") (codes " b"))

abbrev pub lines_text : List Line → List ℕ
lines_text ls = flat_map line_text ls

abbrev pub course_text : List Line → ℕ → List ℕ
course_text ls n = codes "course" ++ (lines_text ls ++ (codes " forecast " ++ decimal n))

-- numbers, each after a space
abbrev pub byte_text : ℕ → List ℕ
byte_text b = codes " " ++ decimal b

abbrev pub bytes_text : List ℕ → List ℕ
bytes_text bs = flat_map byte_text bs

abbrev pub plan_text : List ℕ → ℕ → ℕ → List ℕ
plan_text plan price visits = codes "plan" ++ (bytes_text plan ++ (codes " price " ++ (decimal price ++ (codes " visits " ++ decimal visits))))

-- a search without a plan: why, and its visits
abbrev pub ended_text : Refusal → ℕ → List ℕ
ended_text e visits = refusal_text e ++ (codes " visits " ++ decimal visits)

-- what a search answered, with the plan that it wrote
abbrev pub planned_text : {TOP : ℕ} → List ℕ → Planned (Upto TOP) → List ℕ
planned_text plan (Found price visits) = plan_text plan price.number visits
planned_text plan (NoPlan visits) = ended_text refusal.NoPlan visits
planned_text plan (Stopped visits) = ended_text refusal.Stopped visits
planned_text plan (Refused e) = refusal_text e

abbrev pub reply_text : Reply → List ℕ
reply_text (reply.Refused e) = refusal_text e
reply_text (reply.Course lines forecast) = course_text lines.now forecast
reply_text (reply.Plan choices price visits) = plan_text choices.now price visits
reply_text (reply.Ended e visits) = ended_text e visits
