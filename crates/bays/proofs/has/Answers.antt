use Rattle.std.proofs.Common.{sym, ◌∙◌, arith}
use Rattle.std.proofs.lemmas.Bool.{le-ltb}
use Rattle.model.proofs.Bits.{has_beyond}
use Rattle.bays.proofs.has.Goals as goal

pub returns-else-bay-lt32 : goal.returns-else-bay-lt32
returns-else-bay-lt32 c = le-ltb c.args.bay 32 (omega arith) ∙ sym (has_beyond 32 c.args.set c.args.bay (omega arith) (omega arith))
