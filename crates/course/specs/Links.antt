-- When sets of bays stand for what the model has in view.
use Rattle.std.specs.Prelude.{◌≡◌, ℕ, ◌^◌, ◌<◌, Bool, true, List, ℤ, ◌≢◌, slice_index}
use Rattle.model.specs.Course.{View, Passing}
use Rattle.model.specs.Sets.{has}
use Rattle.pickers.specs.declared.question.Question.{Question}
use Rattle.course.specs.Views.{question_of}

-- the model picks by the question, has these choices, and the picker answers a bay that remains
pub record Linked (S : Passing) (pick : Question → ℕ) (cs : List ℕ) : Type 0 where
  pub asks : (vs : List View) (k : ℤ) → S.pick vs k ≡ pick (question_of vs k)
  pub tells : (i : ℕ) → slice_index cs i ≡ S.choices i
  pub remains : (q : Question) → 0 < q.remaining → q.remaining < 2 ^ 24 → has q.remaining (pick q) ≡ true

-- the neighbour sets say which of the bays that remain are adjacent
abbrev pub Agree : ℕ → List ℕ → (ℕ → ℕ → Bool) → Type 0
Agree m ms adj = (i j : ℕ) → has m i ≡ true → has m j ≡ true → (i ≢ j) → has (slice_index ms i) j ≡ adj i j
