use Rattle.reader.proofs.pieces.fn.cells.times.Goals as goal

pub returns : goal.returns
returns c = (_, c.in_ok-cell.ensures)
