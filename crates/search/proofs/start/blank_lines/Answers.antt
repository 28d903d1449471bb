use Rattle.std.proofs.Common.{refl}
use Rattle.search.proofs.Starting.{sound_start}
use Rattle.search.specs.declared.state.Line.{Line}
use Rattle.search.specs.declared.state.Passed.TheVariants.{Branched}
use Rattle.search.proofs.start.blank_lines.Goals as goal

pub returns : goal.returns
returns c cs = let l : Line = record { bay = 0; passed = Branched 0 } in sound_start cs l refl
