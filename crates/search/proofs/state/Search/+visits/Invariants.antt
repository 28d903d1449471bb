use Rattle.std.proofs.Common.{◌≡◌, ℕ, ◌+◌, ◌-◌, ◌*◌, ◌≤◌, false, length, take}
use Rattle.course.specs.Views.{answers_of}
use Rattle.search.specs.Force.{line_at}
use Rattle.search.specs.Visit.{Framed, sofar, branching}
use Rattle.search.specs.Places.{bays_from}
use Rattle.search.proofs.state.Search.+visits.Given as goal

abbrev pub decreases-visit : goal.decreases-visit
decreases-visit g l = 1000 * length (bays_from l.left.now.remaining 0) + 2

abbrev pub decreases-pass : goal.decreases-pass
decreases-pass g l = 1000 * length (bays_from l.left.now.remaining 0) + 1

abbrev pub decreases-fold_bay : goal.decreases-fold_bay
decreases-fold_bay g l = 1000 * length (bays_from l.rest 0) + 600

abbrev pub decreases-branch_bay : goal.decreases-branch_bay
decreases-branch_bay g l = 1000 * length (bays_from l.left.now.remaining 0) + 600

abbrev pub decreases-try_choices : goal.decreases-try_choices
decreases-try_choices g l = 1000 * length (bays_from l.left.now.remaining 0) + 300

abbrev pub invariant-try_choices-loop-choice : goal.invariant-try_choices-loop-choice
invariant-try_choices-loop-choice g l =
    let a = l.initial.self in
    record {
      state : (k : ℕ) → length (bays_from l.left.remaining 0) ≤ k → sofar l.self false ≡ branching g.P.Price.ops (g.B.Book.meaning l.given.book.now) (answers_of (g.K.Picker.answer l.given.picker.now)) a (a.depth - 1) l.left l.initial.scratch l.bay l.choice k (sofar a false);
      framed : Framed (a.depth - 1) a l.self;
      newest : (line_at l.self.lines (l.self.depth - 1)).bay ≡ l.bay;
      cells : take l.left.used l.scratch ≡ take l.left.used l.initial.scratch;
    }
