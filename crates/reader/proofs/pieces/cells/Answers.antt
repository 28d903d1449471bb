use Rattle.std.proofs.Common.{refl, rules}
use Rattle.format.specs.Steps.{cell_of}
use Rattle.reader.proofs.pieces.cells.Goals as goal

pub returns : goal.returns
returns c = c.times.ensures (λ _. cell_of c.args.top) (λ s _. s) (λ _. record { 0 = c.args.top }) 0 refl (λ t x r f s. search rules)
