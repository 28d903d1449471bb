use Rattle.std.proofs.Common.{◌≡◌, true}
use Rattle.model.specs.Books.{begins}
use Rattle.layout.specs.Kept.{kept_layout}
use Rattle.layout.specs.Meant.{choices_in}
use Rattle.layout.proofs.kept.Kept.is_plan.Given as goal

abbrev pub invariant-loop-bay : goal.invariant-loop-bay
invariant-loop-bay l = begins (choices_in (kept_layout l.self)) l.bay l.plan ≡ true
