-- The same reading, piece by piece, as a reader takes it.
use Rattle.std.specs.Prelude.{ℕ, zero, suc, ◌+◌, ◌-◌, List, [], ◌∷◌, length, slice_index}
use Rattle.format.specs.Pieces.{Got, bad, got, and_then, piece_in}
use Rattle.format.specs.House.{Rule, Layout, cells_in, mark_piece, version_piece, count_piece, cell_piece}

abbrev pub mapped : {A B : Type 0} → (A → B) → Got A → Got B
mapped f (bad e) = bad e
mapped f (got a rest) = got (f a) rest

-- n pieces, of which each may depend on a state that the piece before has set
abbrev pub chain : {S A : Type 0} → (S → List ℕ → Got A) → (S → A → S) → ℕ → S → List ℕ → Got (List A)
chain R next zero s bs = got [] bs
chain R next (suc n) s bs = and_then (R s bs) (λ x rest. mapped (λ xs. x ∷ xs) (chain R next n (next s x) rest))

-- n pieces of one kind
abbrev pub times : {A : Type 0} → ℕ → (List ℕ → Got A) → List ℕ → Got (List A)
times n R = chain {S = ℕ} (λ _. R) (λ s _. s) n 0

abbrev pub cell_of : ℕ → List ℕ → Got ℕ
cell_of top = piece_in (cell_piece top)

abbrev pub count_of : ℕ → ℕ → List ℕ → Got ℕ
count_of lo hi = piece_in (count_piece lo hi)

-- n bays in rising order, from lo, below the number of bays
abbrev pub rising : ℕ → ℕ → ℕ → List ℕ → Got (List ℕ)
rising n lo bays = chain (λ low. count_of low (bays - 1)) (λ _ b. b + 1) n lo

abbrev pub rule_in : ℕ → List ℕ → List ℕ → Got Rule
rule_in top counts bs =
    and_then (count_of 0 4 bs) (λ n bs.
    and_then (rising n 0 (length counts) bs) (λ scope bs.
    mapped (λ cells. record { scope = scope; cells = cells }) (times (cells_in counts scope) (cell_of top) bs)))

-- a row of own prices for each bay
abbrev pub prices_in : ℕ → List ℕ → List ℕ → Got (List (List ℕ))
prices_in top counts = chain (λ i. times (slice_index counts i) (cell_of top)) (λ i _. i + 1) (length counts) 0

-- the bays and rules, after mark and version
abbrev pub body_in : ℕ → List ℕ → Got Layout
body_in top bs =
    and_then (count_of 1 24 bs) (λ bays bs.
    and_then (count_of 0 64 bs) (λ n bs.
    and_then (times bays (count_of 1 8) bs) (λ counts bs.
    and_then (prices_in top counts bs) (λ own bs.
    mapped (λ rules. record { own = own; rules = rules }) (times n (rule_in top counts) bs)))))

-- mark and version
abbrev pub head_in : ℕ → List ℕ → Got ℕ
head_in mark bs = and_then (piece_in (mark_piece mark) bs) (λ _ bs. piece_in version_piece bs)
