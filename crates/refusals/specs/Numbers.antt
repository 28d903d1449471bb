-- The one table of refusal numbers.
use Rattle.std.specs.Prelude.{ℕ, cond, Some, None, Ok, Err, Option, Result, ◌==◌}
use Rattle.refusals.specs.declared.Refusal.{Refusal}
use Rattle.refusals.specs.declared.Refusal.TheVariants.{StrangeMark, StrangeVersion, CutBook, OutOfLimits, BadCell, UnknownNumber, NothingToDo, TrialsFull, WrongTicket, BadSetting, NoPlan, Stopped, OutOfLines, NoOrder, UnreadLine}

abbrev pub number_of : Refusal → ℕ
number_of StrangeMark = 1
number_of StrangeVersion = 2
number_of CutBook = 3
number_of OutOfLimits = 4
number_of BadCell = 5
number_of UnknownNumber = 6
number_of NothingToDo = 7
number_of TrialsFull = 8
number_of WrongTicket = 9
number_of BadSetting = 10
number_of NoPlan = 11
number_of Stopped = 12
number_of OutOfLines = 13
number_of NoOrder = 14
number_of UnreadLine = 15

-- the word that a number stands for
abbrev pub word_of : ℕ → Option Refusal
word_of n =
    cond (n == 1) (Some StrangeMark)
    (cond (n == 2) (Some StrangeVersion)
    (cond (n == 3) (Some CutBook)
    (cond (n == 4) (Some OutOfLimits)
    (cond (n == 5) (Some BadCell)
    (cond (n == 6) (Some UnknownNumber)
    (cond (n == 7) (Some NothingToDo)
    (cond (n == 8) (Some TrialsFull)
    (cond (n == 9) (Some WrongTicket)
    (cond (n == 10) (Some BadSetting)
    (cond (n == 11) (Some NoPlan)
    (cond (n == 12) (Some Stopped)
    (cond (n == 13) (Some OutOfLines)
    (cond (n == 14) (Some NoOrder)
    (cond (n == 15) (Some UnreadLine) None))))))))))))))

-- the number by which an answer is refused; none where it is not
abbrev pub refused_by : {A : Type 0} → Result A Refusal → Option ℕ
refused_by (Ok a) = None
refused_by (Err e) = Some (number_of e)
