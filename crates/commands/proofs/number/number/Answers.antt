-- `number`: its loop reads on.
use Rattle.std.proofs.Common.{sym, ap, ◌∙◌, rules}
use Rattle.commands.specs.Numbers.{held, onwards}
use Rattle.commands.proofs.Runs.{tail, onwards_more}
use Rattle.commands.proofs.number.number.Goals as goal

pub loop-rest-preserved : goal.loop-rest-preserved
loop-rest-preserved c =
    c.loop-rest.invariant ∙ onwards_more c.loop-rest.n.number c.in-Some.d c.loop-rest.rest.now (search rules) c.in-Some.ensures ∙
    ap (λ n. held (onwards n (tail c.loop-rest.rest.now))) (sym c.with_digit-n-in-len1-up-rest.ensures)
