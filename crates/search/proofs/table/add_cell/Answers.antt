use Rattle.std.proofs.Common.{arith}
use Rattle.search.proofs.Tails.{tail_set}
use Rattle.search.proofs.table.add_cell.Goals as goal

pub returns : goal.returns
returns g c = tail_set c.args.at c.args.scratch.now c.store.new.tail c.args.cell (omega arith) c.store.ensures
