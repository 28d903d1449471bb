-- How a decimal number is read from the front of a line.
use Rattle.std.specs.Prelude.{ℕ, ◌+◌, ◌-◌, ◌*◌, min, cond, List, [], ◌∷◌, nat_le}
use Rattle.std.specs.Char.{is_ascii_digit}

-- the number that one more digit makes
abbrev pub with_digit : ℕ → ℕ → ℕ
with_digit n b = n * 10 + (b - 48)

-- a piece from the front of a line, and what follows it
pub data Got (A : Type 0) : Type 0 where
  unread : Got A
  got : A → List ℕ → Got A

abbrev pub mapped : {A B : Type 0} → (A → B) → Got A → Got B
mapped f unread = unread
mapped f (got a rest) = got (f a) rest

-- the digits that go on after those that write n
abbrev pub onwards : ℕ → List ℕ → Got ℕ
onwards n [] = got n []
onwards n (b ∷ bs) = cond (is_ascii_digit b) (onwards (with_digit n b) bs) (got n (b ∷ bs))

-- one digit or more
abbrev pub numeral : List ℕ → Got ℕ
numeral [] = unread
numeral (b ∷ bs) = cond (is_ascii_digit b) (onwards (b - 48) bs) unread

-- a number held at the first that no field takes
abbrev pub held : Got ℕ → Got ℕ
held = mapped (λ n. min n 4294967296)

-- a number that is not above the limit
abbrev pub at_most : ℕ → Got ℕ → Got ℕ
at_most most unread = unread
at_most most (got n rest) = cond (nat_le n most) (got n rest) unread
