-- What a price kind is, and the laws that it keeps.
use Rattle.std.specs.Prelude.{◌≡◌, Bool, true, false}

-- the parts of a price kind
pub record Ops (P : Type 0) : Type 0 where
  pub free : P
  pub forbidden : P
  pub combine : P → P → P
  pub at_most : P → P → Bool

pub record PriceLaws {P : Type 0} (o : Ops P) : Type 0 where
  pub assoc : (p q r : P) → o.combine (o.combine p q) r ≡ o.combine p (o.combine q r)
  pub comm : (p q : P) → o.combine p q ≡ o.combine q p
  pub neutral : (p : P) → o.combine o.free p ≡ p
  pub absorbs : (p : P) → o.combine o.forbidden p ≡ o.forbidden
  pub total : (p q : P) → o.at_most p q ≡ false → o.at_most q p ≡ true
  pub trans : (p q r : P) → o.at_most p q ≡ true → o.at_most q r ≡ true → o.at_most p r ≡ true
  pub least : (p : P) → o.at_most o.free p ≡ true
  pub greatest : (p : P) → o.at_most p o.forbidden ≡ true
  pub mono : (p q r : P) → o.at_most p q ≡ true → o.at_most (o.combine p r) (o.combine q r) ≡ true

-- Two prices mean the same exactly when each is at most the other. What they mean is compared, not how they are
-- written: a kind may write one price in several ways.
pub record Same {P V : Type 0} (o : Ops P) (means : P → V) : Type 0 where
  pub antisym : (p q : P) → o.at_most p q ≡ true → o.at_most q p ≡ true → means p ≡ means q
  pub respects : (p q : P) → means p ≡ means q → o.at_most p q ≡ true
