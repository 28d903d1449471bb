use Rattle.std.proofs.Common.{ℕ, List, length, ap, ◌∙◌}
use Rattle.layout.specs.Kept.{held}
use Rattle.layout.specs.Places.{rules_is}
use Rattle.layout.proofs.kept.Kept.rules.Goals as goal

pub returns : goal.returns
returns c = ap (λ (l : List ℕ). length l) c.as_slice.ensures ∙ rules_is (held c.args.self.now) c.args.self.now.index
