use Rattle.model.proofs.Folds.{fold_sound}
use Rattle.model.proofs.fold_sound_stands.Goals as goal

pub returns : goal.returns
returns g c = fold_sound
