use Rattle.std.proofs.Common.{◌≡◌, ◌<◌, length, get_or, set, None, Some, ◌∙◌, arith, get_or-set_same, set-set}
use Rattle.trials.specs.Racks.{refilled}
use Rattle.trials.proofs.Racked.{presented}
use Rattle.trials.proofs.rack.close_at.Goals as goal

pub returns : goal.returns
returns t c = λ g s f.
    let k = c.args.rack.now in
    let i = c.args.place in
    let inside : i < length k = omega arith in
    let at : get_or k i None ≡ Some c.in-Some.ticket = cc in
    let empty : get_or (set k i c.take.new.self) i None ≡ None = get_or-set_same k i c.take.new.self None inside ∙ c.take.ensures.after in
    let again : c.closed.new.slot ≡ refilled None c.close-answer.result = rw empty at c.closed.ensures.place in
    rw (set-set k i c.take.new.self c.closed.new.slot, again)
    (presented c.args.ending i c.in-Some.ticket c.close-answer.result inside at (c.close-answer.ensures g s f) c.closed.ensures.says)
