use Rattle.std.proofs.Common.{arith}
use Rattle.std.proofs.lemmas.Result.{err_from_is_err_and}
use Rattle.reader.specs.Indexed.{items}
use Rattle.reader.proofs.Spans.{rule_more, rule_bad}
use Rattle.reader.proofs.Noted.{ends_short}
use Rattle.reader.proofs.walk.rules.Goals as goal

pub overflow_sub-body : goal.overflow_sub-body
overflow_sub-body c = ends_short c.args.body.now c.loop-i.rest.now c.loop-i.invariant.ends

pub returns-in_err-rest : goal.returns-in_err-rest
returns-in_err-rest c =
    let p = err_from_is_err_and c.from_residual.result c.from_residual.ensures.1 in
    rw (p.1, p.2) (rule_bad c.args.top c.args.body.now c.args.counts.bytes.now c.args.n c.loop-i._i c.args.bytes.now (items c.loop-i.rule_at) c.loop-i.rest.now _ c.loop-i.invariant (omega arith) c.in_err-rest.ensures)

pub loop-i-preserved : goal.loop-i-preserved
loop-i-preserved c =
    let all = c.in_ok-rest.ensures in
    rw c.push.ensures (rule_more c.args.top c.args.body.now c.args.counts.bytes.now c.args.n c.loop-i._i c.args.bytes.now (items c.loop-i.rule_at) c.loop-i.rest.now all.0 c.in_ok-rest.rest.now c.loop-i.invariant (omega arith) all.1)
