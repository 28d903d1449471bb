-- Lines as they are written, and the forecast of written lines.
use Rattle.std.specs.Prelude.{ℕ, ◌+◌, ◌*◌, cond, List, [], ◌∷◌}
use Rattle.model.specs.Course.{Line as Passed}
use Rattle.course.specs.declared.line.Line.{Line}

abbrev pub written : Passed → Line
written l = record { bay = l.bay; choices = l.tries; folded = l.fold }

-- what the model says of a written line
abbrev pub unwritten : Line → Passed
unwritten l = record { bay = l.bay; tries = l.choices; fold = l.folded }

abbrev pub forecast_of : List Line → ℕ
forecast_of [] = 1
forecast_of (l ∷ ls) = cond l.folded (1 + forecast_of ls) (1 + l.choices * forecast_of ls)
