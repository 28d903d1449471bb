-- The layout of a book that keeps a copy of its bytes.
use Rattle.std.specs.Prelude.{◌≡◌, ℕ, ◌<◌, List, length, take, drop, slice_index}
use Rattle.format.specs.House.{Layout}
use Rattle.reader.specs.Indexed.{items, layout_by}
use Rattle.reader.specs.Places.{table_at}
use Rattle.layout.specs.Meant.{nth_rule}
use Rattle.layout.specs.declared.kept.Kept.{Kept}
use Rattle.layout.specs.declared.book.HouseBook.{HouseBook}

-- the bytes that are kept
abbrev pub held : Kept → List ℕ
held k = take k.len k.bytes

abbrev pub kept_layout : Kept → Layout
kept_layout k = layout_by (held k) k.index

abbrev pub layout_of : {P : Type 0} → HouseBook P → Layout
layout_of b = kept_layout b.kept

-- the bays of a rule that the book has, and the bytes from its prices on
pub record StandsAt (k : Kept) (rule : ℕ) (bays rest : List ℕ) : Type 0 where
  pub there : rule < length (items k.index.rule_at)
  pub scope : bays ≡ (nth_rule (kept_layout k) rule).scope
  pub table : rest ≡ drop (table_at (held k) (slice_index (items k.index.rule_at) rule)) (held k)
