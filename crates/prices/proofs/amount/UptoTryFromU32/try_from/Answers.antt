use Rattle.std.proofs.Common.{sym, ap}
use Rattle.std.specs.Option.{ok_or}
use Rattle.prices.specs.Amounts.{upto}
use Rattle.prices.proofs.Accepted.{accepted_some, accepted_none}
use Rattle.prices.proofs.amount.UptoTryFromU32.try_from.Goals as goal

pub returns-then-number : goal.returns-then-number
returns-then-number g c = sym (ap (λ offer. ok_or offer (record {})) (accepted_some c.args.number g.row.TOP (upto g.row.TOP c.args.number) _))

pub returns-else-number : goal.returns-else-number
returns-else-number g c = sym (ap (λ offer. ok_or offer (record {})) (accepted_none c.args.number g.row.TOP (upto g.row.TOP c.args.number) c.if-number.false))
