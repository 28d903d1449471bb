-- The numbers below 24 of a list, gathered as a set.
use Rattle.std.specs.Prelude.{ℕ, List, filter, fold, nat_lt}
use Rattle.bays.specs.Made.{with_one}

abbrev pub mask_in : List ℕ → ℕ
mask_in xs = fold with_one 0 (filter (λ x. nat_lt x 24) xs)
