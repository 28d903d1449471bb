-- The house layout of a book: its one description, the bytes of a layout, and what is accepted and refused.
use Rattle.std.specs.Prelude.{◌≡◌, ℕ, ◌+◌, ◌-◌, ◌*◌, ◌^◌, ◌<◌, ◌≤◌, cond, ◌⊎◌, List, [], ◌∷◌, ◌++◌, map, length, nat_le, slice_index}
use Rattle.std.specs.List.{flat_map}
use Rattle.refusals.specs.declared.Refusal.{Refusal}
use Rattle.refusals.specs.declared.Refusal.TheVariants.{StrangeMark, StrangeVersion, CutBook, OutOfLimits, BadCell}
use Rattle.model.specs.Lists.{Each}
use Rattle.format.specs.Pieces.{Got, bad, got, digits, Piece, Form, done, bind, one, many, run, FirstFault, GoesOn}

-- a rule: the bays that it touches, in rising order, and a cell for each combination of their choices
pub record Rule : Type 0 where
  pub scope : List ℕ
  pub cells : List ℕ

-- a book: the own prices of each bay, one for each choice, and the rules
pub record Layout : Type 0 where
  pub own : List (List ℕ)
  pub rules : List Rule

-- how many combinations of choices some bays have
abbrev pub cells_in : List ℕ → List ℕ → ℕ
cells_in counts [] = 1
cells_in counts (b ∷ bs) = slice_index counts b * cells_in counts bs

-- three letters
abbrev pub mark_piece : ℕ → Piece
mark_piece mark = record { width = 3; low = mark; high = mark; missing = StrangeMark; wrong = StrangeMark }

abbrev pub version_piece : Piece
version_piece = record { width = 2; low = 1; high = 1; missing = StrangeVersion; wrong = StrangeVersion }

-- a count or the number of a bay
abbrev pub count_piece : ℕ → ℕ → Piece
count_piece lo hi = record { width = 1; low = lo; high = hi; missing = CutBook; wrong = OutOfLimits }

-- a price, which is at most top
abbrev pub cell_piece : ℕ → Piece
cell_piece top = record { width = 4; low = 0; high = top; missing = CutBook; wrong = BadCell }

abbrev pub cells_form : ℕ → ℕ → Form (List ℕ)
cells_form top n = many {S = ℕ} (λ _. one (cell_piece top)) (λ s _. s) n 0

-- a rule: a count, that many bays, each above the one before, and the cells
abbrev pub rule_form : ℕ → List ℕ → Form Rule
rule_form top counts =
    bind (one (count_piece 0 4)) (λ n.
    bind (many (λ low. one (count_piece low (length counts - 1))) (λ _ b. b + 1) n 0) (λ scope.
    bind (cells_form top (cells_in counts scope)) (λ cells. done (record { scope = scope; cells = cells }))))

abbrev pub rules_form : ℕ → ℕ → List ℕ → List (List ℕ) → Form Layout
rules_form top n counts own = bind (many {S = ℕ} (λ _. rule_form top counts) (λ s _. s) n 0) (λ rules. done (record { own = own; rules = rules }))

-- the own prices bay by bay, then the rules
abbrev pub prices_form : ℕ → ℕ → List ℕ → Form Layout
prices_form top n counts = bind (many (λ i. cells_form top (slice_index counts i)) (λ i _. i + 1) (length counts) 0) (rules_form top n counts)

-- the number of rules, and the choices of each bay
abbrev pub bays_form : ℕ → ℕ → Form Layout
bays_form top bays =
    bind (one (count_piece 0 64)) (λ n. bind (many {S = ℕ} (λ _. one (count_piece 1 8)) (λ s _. s) bays 0) (prices_form top n))

abbrev pub body_form : ℕ → Form Layout
body_form top = bind (one (count_piece 1 24)) (bays_form top)

-- a book: mark, version, and the body
abbrev pub book_form : ℕ → ℕ → Form Layout
book_form mark top = bind (one (mark_piece mark)) (λ _. bind (one version_piece) (λ _. body_form top))

-- no byte may be left
abbrev pub ended : {A : Type 0} → Got A → Got A
ended (bad e) = bad e
ended (got a []) = got a []
ended (got a (b ∷ bs)) = bad CutBook

-- reading a whole book of at most 65536 bytes
unfoldable pub book_in : ℕ → ℕ → List ℕ → Got Layout
book_in mark top bs = cond (nat_le (length bs) 65536) (ended (run (book_form mark top) bs)) (bad OutOfLimits)

-- strictly rising numbers from lo, below bays
abbrev pub Rising : ℕ → ℕ → List ℕ → Type 0
Rising lo bays [] = Unit {0}
Rising lo bays (b ∷ bs) = ((lo ≤ b) × (b < bays)) × Rising (b + 1) bays bs

-- the choices of each bay
abbrev pub counts_of : Layout → List ℕ
counts_of L = map length L.own

-- the bytes of a layout
abbrev pub price_bytes : List ℕ → List ℕ
price_bytes = flat_map (digits 4)

abbrev pub rule_bytes : Rule → List ℕ
rule_bytes r = digits 1 (length r.scope) ++ (flat_map (digits 1) r.scope ++ price_bytes r.cells)

abbrev pub body_bytes : Layout → List ℕ
body_bytes L =
    digits 1 (length L.own) ++ (digits 1 (length L.rules) ++ (flat_map (digits 1) (counts_of L) ++ (flat_map price_bytes L.own ++ flat_map rule_bytes L.rules)))

unfoldable pub book_bytes : ℕ → Layout → List ℕ
book_bytes mark L = digits 3 mark ++ (digits 2 1 ++ body_bytes L)

-- the limits
pub record FitsRule (top : ℕ) (counts : List ℕ) (r : Rule) : Type 0 where
  pub few : length r.scope ≤ 4
  pub rises : Rising 0 (length counts) r.scope
  pub full : length r.cells ≡ cells_in counts r.scope
  pub priced : Each (λ p. p ≤ top) r.cells

pub record FitsBody (top : ℕ) (L : Layout) : Type 0 where
  pub some : 1 ≤ length L.own
  pub few : length L.own ≤ 24
  pub rules_few : length L.rules ≤ 64
  pub choices : Each (λ n. (1 ≤ n) × (n ≤ 8)) (counts_of L)
  pub priced : Each (Each (λ p. p ≤ top)) L.own
  pub ruled : Each (FitsRule top (counts_of L)) L.rules

pub record FitsBook (mark top : ℕ) (L : Layout) : Type 0 where
  pub body : FitsBody top L
  pub short : length (book_bytes mark L) ≤ 65536

-- Bytes are accepted, as the layout L, exactly when L keeps the limits and they are L's bytes.
abbrev pub Accepts : Type 0
Accepts =
    (mark top : ℕ) → mark < 256 ^ 3 → top < 256 ^ 4 → (bs : List ℕ) → ((i : ℕ) → slice_index bs i < 256) → (L : Layout) →
    (book_in mark top bs ≡ got L [] → FitsBook mark top L × (bs ≡ book_bytes mark L)) ×
    (FitsBook mark top L → bs ≡ book_bytes mark L → book_in mark top bs ≡ got L [])

-- why bytes are refused by e: they are too long, or the first piece at fault says e, or all is written and they go on
unfoldable pub Refused : ℕ → ℕ → List ℕ → Refusal → Type 0
Refused mark top bs e =
    ((65536 < length bs) × (e ≡ OutOfLimits)) ⊎
    ((length bs ≤ 65536) × (FirstFault (book_form mark top) bs e ⊎ (GoesOn (book_form mark top) bs × (e ≡ CutBook))))

-- Bytes are refused by e exactly when that is why.
abbrev pub Refuses : Type 0
Refuses =
    (mark top : ℕ) (bs : List ℕ) → ((i : ℕ) → slice_index bs i < 256) → (e : Refusal) →
    (book_in mark top bs ≡ bad e → Refused mark top bs e) × (Refused mark top bs e → book_in mark top bs ≡ bad e)
