use Rattle.std.proofs.Common.{◌≡◌, ℕ, ◌+◌, ◌<◌, get_or, take}
use Rattle.model.specs.Sets.{has}
use Rattle.model.specs.Terms.{least}
use Rattle.search.specs.Force.{trial}
use Rattle.search.specs.Places.{byte_of, decoded}
use Rattle.search.proofs.state.Search.fill.Given as goal

abbrev pub invariant-loop-place : goal.invariant-loop-place
invariant-loop-place g l = (take l.left.used l.scratch ≡ take l.left.used l.initial.scratch)
    × ((k : ℕ) → k < l.place → get_or l.scratch (l.left.used + k) g.P.Price.ops.forbidden ≡ least g.P.Price.ops (get_or l.self.choices l.bay 0) (trial g.P.Price.ops (g.B.Book.meaning l.book) l.self.choices l.self.lines l.initial.scratch l.left.force.now l.bay (byte_of (decoded l.self.choices (has l.table.near) 0 24 k l.plan))))
