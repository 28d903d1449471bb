use Rattle.trials.proofs.Closes.{keeps}
use Rattle.trials.proofs.evening.Evening.keep.Goals as goal

pub returns-clause-sheet : goal.returns-clause-sheet
returns-clause-sheet t c = λ g s f.
    keeps c.args.self.now c.close.new.self _ _ f c.in_ok-close.ensures.state.1 c.in_ok-close.ensures.answer
