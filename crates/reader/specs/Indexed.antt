-- An index of a book's bytes.
use Rattle.std.specs.Prelude.{◌≡◌, ℕ, ◌+◌, ◌*◌, ◌<◌, ◌≤◌, List, [], length, take, drop, slice_index}
use Rattle.format.specs.Pieces.{got}
use Rattle.format.specs.House.{cells_in, Layout, book_in, ended, FitsBody}
use Rattle.format.specs.Steps.{body_in}
use Rattle.reader.specs.declared.places.Places.{Places}
use Rattle.reader.specs.declared.places.Index.{Index}
use Rattle.reader.specs.Places.{layout_at, choices_at, table_at, scope_at}

-- the places that are held
abbrev pub items : {n : ℕ} → Places n → List ℕ
items p = take p.len p.at

-- the layout that an index finds in what follows mark and version
abbrev pub layout_by : List ℕ → Index → Layout
layout_by bs i = layout_at bs (items i.own_at) (items i.rule_at)

-- the layout that an index finds keeps the limits, and each row and each rule lies within the bytes
pub record Found (bs : List ℕ) (i : Index) : Type 0 where
  pub fits : FitsBody 4294967295 (layout_by bs i)
  pub counts : 2 + length (items i.own_at) ≤ length bs
  pub rows : (j : ℕ) → j < length (items i.own_at) → slice_index (items i.own_at) j + 4 * slice_index (choices_at bs (length (items i.own_at))) j ≤ length bs
  pub tables : (r : ℕ) → r < length (items i.rule_at) → table_at bs (slice_index (items i.rule_at) r) + 4 * cells_in (choices_at bs (length (items i.own_at))) (scope_at bs (slice_index (items i.rule_at) r)) ≤ length bs

-- the index finds what follows mark and version
pub record Walked (top : ℕ) (bs : List ℕ) (i : Index) : Type 0 where
  pub reads : ended (body_in top bs) ≡ got (layout_by bs i) []
  pub found : Found bs i

-- the index finds the layout that the bytes are accepted as
pub record Indexes (mark top : ℕ) (bytes : List ℕ) (i : Index) : Type 0 where
  pub reads : book_in mark top bytes ≡ got (layout_by (drop 5 bytes) i) []
  pub long : 5 ≤ length bytes
  pub short : length bytes ≤ 65536
  pub found : Found (drop 5 bytes) i
