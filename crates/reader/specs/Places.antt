-- A layout that is left in its bytes, by the places of its rows and rules.
use Rattle.std.specs.Prelude.{ℕ, ◌+◌, ◌*◌, List, map, length, take, drop, slice_index}
use Rattle.std.specs.List.{range_with_len}
use Rattle.format.specs.Pieces.{number}
use Rattle.format.specs.House.{cells_in, Rule, Layout}

-- the price that stands at a place: four bytes, the high byte first
abbrev pub price_at : List ℕ → ℕ → ℕ
price_at bs at = number (take 4 (drop at bs))

-- n prices from a place on
abbrev pub cells_at : List ℕ → ℕ → ℕ → List ℕ
cells_at bs at n = map (λ k. price_at bs (at + 4 * k)) (range_with_len 0 n)

-- the choices of the bays, which follow the two counts
abbrev pub choices_at : List ℕ → ℕ → List ℕ
choices_at bs bays = take bays (drop 2 bs)

-- the bays of the rule at a place, and where its prices begin
abbrev pub scope_at : List ℕ → ℕ → List ℕ
scope_at bs at = take (slice_index bs at) (drop (at + 1) bs)

abbrev pub table_at : List ℕ → ℕ → ℕ
table_at bs at = at + 1 + slice_index bs at

abbrev pub rule_at : List ℕ → List ℕ → ℕ → Rule
rule_at bs cs at = record { scope = scope_at bs at; cells = cells_at bs (table_at bs at) (cells_in cs (scope_at bs at)) }

-- the first n rows of own prices, and the first n rules
abbrev pub rows_at : List ℕ → List ℕ → List ℕ → ℕ → List (List ℕ)
rows_at bs cs own n = map (λ i. cells_at bs (slice_index own i) (slice_index cs i)) (range_with_len 0 n)

abbrev pub rules_at : List ℕ → List ℕ → List ℕ → ℕ → List Rule
rules_at bs cs rule n = map (λ r. rule_at bs cs (slice_index rule r)) (range_with_len 0 n)

abbrev pub layout_at : List ℕ → List ℕ → List ℕ → Layout
layout_at bs own rule =
    let cs = choices_at bs (length own) in
    record { own = rows_at bs cs own (length own); rules = rules_at bs cs rule (length rule) }
