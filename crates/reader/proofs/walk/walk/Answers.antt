use Rattle.std.proofs.Common.{sym, ap, ◌∙◌, arith}
use Rattle.std.proofs.lemmas.Result.{err_from_is_err_and}
use Rattle.format.specs.Pieces.{bad}
use Rattle.reader.specs.Indexed.{items}
use Rattle.reader.proofs.Walked.{Opened, opened, body_is, left_over, walked}
use Rattle.reader.proofs.walk.walk.Goals as goal
use Rattle.reader.proofs.walk.walk.Goals.{In_ok-counts, at-invariant_of-counts, at-rows-requires}

so_far : (c : In_ok-counts) → Opened c.args.body.now c.from.result c.in_ok-counts.counts.now c.in_ok-counts.rest.now
so_far c = opened c.args.body.now c.in_ok-bays.bays c.in_ok-n.n c.from.result c.in_ok-bays.rest.now c.in_ok-n.rest.now c.in_ok-counts.counts.now c.in_ok-counts.rest.now c.in_ok-bays.ensures c.in_ok-n.ensures c.from.ensures c.in_ok-counts.ensures

pub invariant_of-counts : goal.invariant_of-counts
invariant_of-counts c = let o = so_far (at-invariant_of-counts c).In_ok-counts in record { some = omega (arith, o.some, o.long); few = omega (arith, o.few, o.long) }

pub rows-requires : goal.rows-requires
rows-requires c = (so_far (at-rows-requires c).In_ok-counts).ends

pub returns-in_err-all_read : goal.returns-in_err-all_read
returns-in_err-all_read c =
    let p = err_from_is_err_and c.from_residual-in_err-all_read.result c.from_residual-in_err-all_read.ensures.1 in
    let long = c.in_err-all_read.ensures in
    let all = body_is c.args.top c.args.body.now c.in_ok-bays.bays c.in_ok-n.n c.from.result c.from-2.result c.in_ok-bays.rest.now c.in_ok-n.rest.now c.in_ok-counts.counts.now c.in_ok-counts.rest.now (items c.in_ok-own_at.own_at) c.in_ok-own_at.rest.now (items c.in_ok-rule_at.rule_at) c.in_ok-rule_at.rest.now c.in_ok-bays.ensures c.in_ok-n.ensures c.from.ensures c.from-2.ensures c.in_ok-counts.ensures c.in_ok-own_at.ensures c.in_ok-rule_at.ensures in
    rw (p.1, p.2) (left_over _ _ c.in_ok-rule_at.rest.now all long.0 ∙ ap bad (sym long.1))

pub returns : goal.returns
returns c =
    walked c.args.top c.args.body.now c.in_ok-bays.bays c.in_ok-n.n c.from.result c.from-2.result c.in_ok-bays.rest.now c.in_ok-n.rest.now c.in_ok-counts.counts.now c.in_ok-counts.rest.now c.in_ok-own_at.rest.now c.in_ok-rule_at.rest.now c.in_ok-own_at.own_at c.in_ok-rule_at.rule_at c.in_ok-bays.ensures c.in_ok-n.ensures c.from.ensures c.from-2.ensures c.in_ok-counts.ensures c.in_ok-own_at.ensures c.in_ok-rule_at.ensures c.in_ok-all_read.ensures (omega arith) (λ i. omega (arith, c.type_inv.body i))
