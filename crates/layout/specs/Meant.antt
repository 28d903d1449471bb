-- What a layout means as a book of one kind of price.
use Rattle.std.specs.Prelude.{ℕ, ◌+◌, ◌*◌, Bool, cond, List, [], ◌∷◌, length, Some, None, Option, bit_or, slice_index, slice_index_or}
use Rattle.std.specs.List.{slice_get}
use Rattle.model.specs.Prices.{Ops}
use Rattle.model.specs.Books.{Meaning, begins}
use Rattle.model.specs.Sets.{one}
use Rattle.format.specs.House.{Rule, Layout, counts_of}

-- the price of a cell, forbidden where there is none
abbrev pub priced : {P : Type 0} → Ops P → (ℕ → P) → Option ℕ → P
priced k cell None = k.forbidden
priced k cell (Some n) = cell n

-- the set of some bays
abbrev pub mask_of : List ℕ → ℕ
mask_of [] = 0
mask_of (b ∷ bs) = bit_or (one b) (mask_of bs)

-- place so far times the next bay's choices, plus its choice
abbrev pub place_of : List ℕ → List ℕ → ℕ → List ℕ → ℕ
place_of cs plan at [] = at
place_of cs plan at (b ∷ bs) = place_of cs plan (at * slice_index cs b + slice_index plan b) bs

abbrev pub choices_in : Layout → ℕ → ℕ
choices_in L i = slice_index (counts_of L) i

abbrev pub nth_rule : Layout → ℕ → Rule
nth_rule L r = slice_index_or L.rules r (record { scope = []; cells = [] })

abbrev pub own_in : Layout → ℕ → ℕ → Option ℕ
own_in L i j = slice_get (slice_index_or L.own i []) j

abbrev pub cell_in : Layout → ℕ → List ℕ → Option ℕ
cell_in L r plan = slice_get (nth_rule L r).cells (place_of (counts_of L) plan 0 (nth_rule L r).scope)

abbrev pub planned_in : Layout → List ℕ → Bool
planned_in L plan = begins (choices_in L) (length L.own) plan

abbrev pub meaning_of : {P : Type 0} → Ops P → (ℕ → P) → Layout → Meaning P
meaning_of k cell L = record {
  bays = length L.own;
  rules = length L.rules;
  choices = choices_in L;
  own = λ i j. priced k cell (own_in L i j);
  scope = λ r. mask_of (nth_rule L r).scope;
  price = λ r plan. cond (planned_in L plan) (priced k cell (cell_in L r plan)) k.forbidden;
}
