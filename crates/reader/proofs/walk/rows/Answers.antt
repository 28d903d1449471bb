use Rattle.std.proofs.Common.{arith}
use Rattle.std.proofs.lemmas.Result.{err_from_is_err_and}
use Rattle.reader.specs.Indexed.{items}
use Rattle.reader.proofs.Spans.{row_more, row_bad}
use Rattle.reader.proofs.Noted.{ends_short}
use Rattle.reader.proofs.walk.rows.Goals as goal

pub overflow_sub-body : goal.overflow_sub-body
overflow_sub-body c = ends_short c.args.body.now c.loop-n.rest.now c.loop-n.invariant.ends

pub returns-in_err-rest : goal.returns-in_err-rest
returns-in_err-rest c =
    let p = err_from_is_err_and c.from_residual.result c.from_residual.ensures.1 in
    rw (p.1, p.2) (row_bad c.args.top c.args.body.now c.args.counts.bytes.now c.loop-n.n-index c.from.result c.args.bytes.now (items c.loop-n.own_at) c.loop-n.rest.now _ c.loop-n.invariant (omega arith) c.from.ensures c.in_err-rest.ensures)

pub loop-n-preserved : goal.loop-n-preserved
loop-n-preserved c =
    let all = c.in_ok-rest.ensures in
    rw c.push.ensures (row_more c.args.top c.args.body.now c.args.counts.bytes.now c.loop-n.n-index c.from.result c.args.bytes.now (items c.loop-n.own_at) c.loop-n.rest.now all.0 c.in_ok-rest.rest.now c.loop-n.invariant (omega arith) c.from.ensures all.1)
