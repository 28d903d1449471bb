-- What is claimed of every course and forecast, in words of their own.
use Rattle.std.specs.Prelude.{◌≡◌, ℕ, ◌+◌, ◌*◌, ◌<◌, ◌≤◌, cond, List, [], ◌∷◌, map, length, ℤ, nat_lt}
use Rattle.model.specs.Books.{Meaning}
use Rattle.model.specs.Course.{Answers, Line, course_in, forecast}
use Rattle.model.specs.Lists.{Each, times}

-- each bay of the book stands on one line, no other number does, and each line has its bay's choices
pub record Lists {P : Type 0} (m : Meaning P) (ls : List Line) : Type 0 where
  pub once : (b : ℕ) → times b (map (λ l. l.bay) ls) ≡ cond (nat_lt b m.bays) 1 0
  pub tries : Each (λ l. l.tries ≡ m.choices l.bay) ls

abbrev pub CourseLists : Type 0 → Type 0
CourseLists P = (m : Meaning P) (pick : Answers) (k : ℤ) (cells : ℕ) → Lists m (course_in m pick k cells)

-- States counted level by level: w of them at the first line. A folded line leads from each to one, a branched line to
-- one for each choice.
abbrev pub states : ℕ → List Line → ℕ
states w [] = w
states w (l ∷ ls) = w + states (w * cond l.fold 1 l.tries) ls

-- The forecast is the number of states that lie below the first, itself included; so no course has fewer visits
-- forecast than it has lines.
pub record Forecast (ls : List Line) : Type 0 where
  pub counts : forecast ls ≡ states 1 ls
  pub above : Each (λ l. 1 ≤ l.tries) ls → length ls < forecast ls

abbrev pub ForecastCounts : Type 0
ForecastCounts = (ls : List Line) → Forecast ls
