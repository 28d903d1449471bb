use Rattle.std.proofs.Common.{rules}
use Rattle.trials.proofs.Closes.{drops}
use Rattle.trials.proofs.evening.Evening.drop.Goals as goal

pub returns-clause-sheet : goal.returns-clause-sheet
returns-clause-sheet t c = λ g s f.
    drops c.args.self.now c.set_marks.new.self _ _ f (search rules) c.in_ok-saved.ensures.answer
