use Rattle.std.proofs.Common.{length, arith}
use Rattle.reader.proofs.Spans.{few_read, scope_long, rule_skips}
use Rattle.reader.proofs.pieces.rule.Goals as goal

pub cells-requires : goal.cells-requires
cells-requires c =
    omega (arith, scope_long c.from.result (length c.args.counts.bytes.now) c.in_ok-n.rest.now c.in_ok-scope.scope.now c.in_ok-scope.rest.now c.in_ok-scope.ensures, c.from.ensures, (few_read 0 4 c.in_ok-n.n c.args.bytes.now c.in_ok-n.rest.now c.in_ok-n.ensures).1)

pub returns : goal.returns
returns c =
    rule_skips c.args.top c.in_ok-n.n c.from.result c.cells.result c.args.counts.bytes.now c.args.bytes.now c.in_ok-scope.scope.now c.in_ok-n.rest.now c.in_ok-scope.rest.now c.cells-2.result c.in_ok-n.ensures c.from.ensures c.in_ok-scope.ensures c.cells.ensures c.cells-2.ensures
