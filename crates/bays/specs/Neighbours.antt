-- Twenty-four sets of neighbours, one for each bay, and what a fold makes of them.
use Rattle.std.specs.Prelude.{ℕ, cond, List, map, bit_or, slice_index}
use Rattle.std.specs.List.{range_with_len}
use Rattle.model.specs.Sets.{has, one, minus}

-- the neighbours of the bay n, once the bays of `near` are neighbours of one another and `bay` is gone
abbrev pub joined : ℕ → ℕ → ℕ → ℕ → ℕ
joined m near bay n = cond (has near n) (minus (minus (bit_or m near) (one n)) (one bay)) m

-- the neighbour sets once the bay is folded
abbrev pub connected : List ℕ → ℕ → List ℕ
connected ms b = map (λ n. joined (slice_index ms n) (slice_index ms b) b n) (range_with_len 0 24)
