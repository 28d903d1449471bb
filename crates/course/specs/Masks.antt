-- The course worked out on sets of bays as numbers, step by step as the code takes it. Its lines are those of the course
-- that the model defines.
use Rattle.std.specs.Prelude.{ℕ, zero, suc, ◌-◌, min, Bool, cond, ◌&&◌, List, [], ◌∷◌, map, ℤ, pos, Some, None, if◌then◌else◌, is_some, unwrap_or, bit_or, count_ones, int_le, nat_le, slice_index}
use Rattle.std.specs.List.{range_with_len}
use Rattle.bays.specs.Neighbours.{connected}
use Rattle.model.specs.Lists.{keep, product}
use Rattle.model.specs.Sets.{has, one, minus}
use Rattle.pickers.specs.Questions.{asked}
use Rattle.pickers.specs.declared.question.Question.{Question}
use Rattle.course.specs.declared.line.Line.{Line}
use Rattle.course.specs.declared.line.Step.{Step}

-- the bays of a set, rising
unfoldable pub bays_of : ℕ → List ℕ
bays_of m = keep (has m) (range_with_len 0 24)

-- the bays of those of the first n rules that have the bay b
abbrev pub joins : ℕ → ℕ → ℕ → ℕ
joins near scope b = cond (has scope b) (bit_or near scope) near

abbrev pub touched : (ℕ → ℕ) → ℕ → ℕ → ℕ
touched scopes b zero = 0
touched scopes b (suc n) = joins (touched scopes b n) (scopes n) b

abbrev pub sets_of : (ℕ → ℕ) → ℕ → List ℕ
sets_of scopes rules = map (λ b. touched scopes b rules) (range_with_len 0 24)

abbrev pub tries_of : (ℕ → ℕ) → List ℕ
tries_of choices = map choices (range_with_len 0 24)

-- the product of the choices of a set's bays
unfoldable pub product_of : List ℕ → ℕ → ℕ
product_of cs m = product (λ i. slice_index cs i) (bays_of m)

abbrev pub capped_cells : ℕ → ℕ
capped_cells n = min n 340282366920938463463374607431768211455

-- which bay is next, and if it is folded, how many cells its table has
abbrev pub settled : ℕ → Bool → ℕ → Step
settled b f n = record { bay = b; table = if f then Some n else None }

unfoldable pub step_at : List ℕ → ℤ → ℕ → ℕ → ℕ → Step
step_at cs k unused b near = settled b (int_le (pos (count_ones near)) k && nat_le (product_of cs near) unused) (product_of cs near)

unfoldable pub decided : (Question → ℕ) → List ℕ → ℤ → List ℕ → ℕ → ℕ → Step
decided pick cs k ms m unused =
    let q = asked m ms cs k in
    step_at cs k unused (pick q) (slice_index q.neighbours (pick q))

abbrev pub course_of : (Question → ℕ) → List ℕ → ℤ → ℕ → List ℕ → ℕ → ℕ → List Line
course_of pick cs k zero ms m unused = []
course_of pick cs k (suc n) ms m unused =
    let d = decided pick cs k ms m unused in
    record { bay = d.bay; choices = slice_index cs d.bay; folded = is_some d.table }
    ∷ course_of pick cs k n (cond (is_some d.table) (connected ms d.bay) ms) (minus m (one d.bay)) (unused - unwrap_or d.table 0)
