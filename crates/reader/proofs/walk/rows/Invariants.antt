use Rattle.reader.specs.Indexed.{items}
use Rattle.reader.proofs.Spans.{RowsNoted}
use Rattle.reader.proofs.walk.rows.Given as goal

abbrev pub invariant-loop-n : goal.invariant-loop-n
invariant-loop-n l = RowsNoted l.top l.body l.counts.bytes.now l.n-index l.bytes (items l.own_at) l.rest
