-- What a picker that is named answers.
use Rattle.std.specs.Prelude.{◌≡◌, ℕ, ◌^◌, ◌<◌, true}
use Rattle.cases.specs.declared.named.Named.{Named}
use Rattle.cases.specs.declared.named.Named.TheVariants.{Order, Fewest}
use Rattle.fewest.specs.Leasts.{fewest}
use Rattle.fewest.specs.Minima.{fewest_remains}
use Rattle.model.specs.Sets.{has}
use Rattle.pickers.specs.Orders.{last_in}
use Rattle.pickers.specs.Perms.{order_last}
use Rattle.pickers.specs.declared.question.Question.{Question}

abbrev pub answer_of : Named → Question → ℕ
answer_of (Order o) q = last_in q.remaining o.bays 0
answer_of Fewest q = fewest q

pub answer_remains : (n : Named) (q : Question) → 0 < q.remaining → q.remaining < 2 ^ 24 → has q.remaining (answer_of n q) ≡ true
answer_remains (Order o) q some small = (order_last o.bays o.each q.remaining some small).remains
answer_remains Fewest q some small = fewest_remains q some small
