use Rattle.reader.specs.Indexed.{items}
use Rattle.reader.proofs.Spans.{RulesNoted}
use Rattle.reader.proofs.walk.rules.Given as goal

abbrev pub invariant-loop-i : goal.invariant-loop-i
invariant-loop-i l = RulesNoted l.top l.body l.counts.bytes.now l.n l._i l.bytes (items l.rule_at) l.rest
