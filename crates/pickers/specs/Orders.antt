-- Orders of the 24 bays.
use Rattle.std.specs.Prelude.{◌≡◌, ℕ, zero, suc, Bool, true, false, cond, ◌&&◌, List, [], ◌∷◌, ◌++◌, length, fold, ◌==◌, nat_eq, nat_lt}
use Rattle.model.specs.Lists.{times}
use Rattle.model.specs.Sets.{has}

-- whether each number below n passes a test
abbrev pub every : ℕ → (ℕ → Bool) → Bool
every zero p = true
every (suc n) p = p n && every n p

-- 24 numbers, each from 0 to 23 once
abbrev pub permutes : List ℕ → Bool
permutes xs = length xs == 24 && every 24 (λ b. nat_eq (times b xs) 1)

-- the last number of a list that is a bay of the set; d if none is
abbrev pub later : ℕ → ℕ → ℕ → ℕ
later m d x = cond (nat_lt x 24 && has m x) x d

abbrev pub last_in : ℕ → List ℕ → ℕ → ℕ
last_in m xs d = fold (later m) d xs

-- no number of a list is a bay of the set
abbrev pub NoneRemains : ℕ → List ℕ → Type 0
NoneRemains m [] = Unit {0}
NoneRemains m (x ∷ xs) = (has m x ≡ false) × NoneRemains m xs

-- b remains, and no bay after it in the order does
pub record Last (m : ℕ) (order : List ℕ) (b : ℕ) : Type 0 where
  pub before : List ℕ
  pub after : List ℕ
  pub stands : order ≡ before ++ (b ∷ after)
  pub remains : has m b ≡ true
  pub none : NoneRemains m after
