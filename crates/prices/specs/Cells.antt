-- What a cell of a book stands for, up to the limit of its price kind.
use Rattle.std.specs.Prelude.{◌≡◌, ℕ, ◌≤◌, nat_le}
use Rattle.model.specs.Prices.{Ops}

-- the smallest cell is free and the largest forbidden, and prices are ordered as their cells are
pub record CellLaws {P : Type 0} (o : Ops P) (top : ℕ) (cell : ℕ → P) : Type 0 where
  pub lowest : cell 0 ≡ o.free
  pub highest : cell top ≡ o.forbidden
  pub ordered : (m n : ℕ) → m ≤ top → n ≤ top → o.at_most (cell m) (cell n) ≡ nat_le m n
