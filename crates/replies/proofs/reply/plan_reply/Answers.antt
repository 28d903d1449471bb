use Rattle.std.proofs.Common.{◌≡◌, ℕ, List, replicate, IfOk, string_bytes, subst}
use Rattle.pickers.specs.Orders.{last_in}
use Rattle.prices.specs.Amounts.{sums, taken}
use Rattle.replies.specs.Answers.{plan_by}
use Rattle.replies.proofs.reply.plan_reply.Goals as goal

pub returns : goal.returns
returns g c =
    let m = g.B.Book.meaning c.args.book.now in
    let s = c.args.sought in
    subst (λ (bays : List ℕ). IfOk c.plan_by.result (λ t. string_bytes t ≡ plan_by (sums 1000000000) m (λ q. last_in q.remaining bays 0) s (taken 1000000000 s.ceiling) (replicate 24 0)))
    c.rising.ensures c.plan_by.ensures
