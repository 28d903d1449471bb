use Rattle.std.proofs.Common.{ℕ, List, sym, ap, subst}
use Rattle.reader.specs.Indexed.{Found, layout_by}
use Rattle.layout.proofs.copy.kept.Goals as goal

pub invariant_of-result : goal.invariant_of-result
invariant_of-result c = record { short = c.requires.short; found = ∣ subst (λ (l : List ℕ). Found l c.args.index) (sym c.copied.ensures) c.requires.found ∣₁ }

pub returns : goal.returns
returns c = ap (λ (l : List ℕ). layout_by l c.args.index) c.copied.ensures
