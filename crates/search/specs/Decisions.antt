-- What is decided of the next bay, as the code says it.
use Rattle.std.specs.Prelude.{ℕ, true, false, List, MatchOption}
use Rattle.model.specs.Books.{Meaning}
use Rattle.model.specs.Course.{Answers}
use Rattle.model.specs.Prices.{Ops}
use Rattle.search.specs.Visit.{Decided}
use Rattle.search.specs.declared.decide.Decision.{Decision}
use Rattle.search.specs.declared.state.Left.{Left}
use Rattle.search.specs.declared.state.Search.{Search}

-- a decision with a table is a fold over the table's bays, and one with none a branch
abbrev pub Decides : {P : Type 0} → Ops P → Meaning P → Answers → Search P → Left → List P → Decision → Type 0
Decides o m pick s left cells d =
    MatchOption d.table ((near size : ℕ) × Decided o m pick s left.remaining left.force.now left.used cells d.bay false near size) (λ t. Decided o m pick s left.remaining left.force.now left.used cells d.bay true t.near t.size)
