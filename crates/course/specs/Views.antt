-- The question that a picker is asked, from what the model tells a picker.
use Rattle.std.specs.Prelude.{ℕ, zero, suc, ◌+◌, ◌*◌, Bool, cond, List, [], ◌∷◌, map, ℤ, ◌==◌, nat_eq}
use Rattle.std.specs.List.{range_with_len}
use Rattle.model.specs.Course.{View, Answers}
use Rattle.model.specs.Lists.{any, member}
use Rattle.pickers.specs.declared.question.Question.{Question}

-- the set of the bays below n that pass a test
abbrev pub mask : ℕ → (ℕ → Bool) → ℕ
mask zero p = 0
mask (suc n) p = cond (p 0) 1 0 + 2 * mask n (λ i. p (suc i))

unfoldable pub set_of : (ℕ → Bool) → ℕ
set_of p = mask 24 p

-- a bay's neighbours and choices, and none of either for a bay that is not in view
abbrev pub near_in : List View → ℕ → ℕ
near_in [] b = 0
near_in (v ∷ vs) b = cond (b == v.bay) (set_of (λ i. member i v.near)) (near_in vs b)

abbrev pub tries_in : List View → ℕ → ℕ
tries_in [] b = 0
tries_in (v ∷ vs) b = cond (b == v.bay) v.tries (tries_in vs b)

abbrev pub question_of : List View → ℤ → Question
question_of vs k = record {
  remaining = set_of (λ b. any (λ v. nat_eq b v.bay) vs);
  neighbours = map (near_in vs) (range_with_len 0 24);
  choices = map (tries_in vs) (range_with_len 0 24);
  k = k;
}

-- a picker of questions, as the model asks one
abbrev pub answers_of : (Question → ℕ) → Answers
answers_of pick vs k = pick (question_of vs k)
