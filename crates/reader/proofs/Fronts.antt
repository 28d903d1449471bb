-- The first bytes of a list, as a slice pattern takes them.
use Rattle.std.proofs.Common.{◌≡◌, ℕ, ◌≤◌, List, [], ◌∷◌, length, get_or, take, refl, ap, ◌∙◌, arith}
use Rattle.format.specs.Pieces.{number}

take_one : (bs : List ℕ) → 1 ≤ length bs → take 1 bs ≡ get_or bs 0 0 ∷ []
take_one [] h = absurd (omega arith)
take_one (a ∷ bs) h = refl

pub byte_is : (bs : List ℕ) → 1 ≤ length bs → number (take 1 bs) ≡ get_or bs 0 0
byte_is bs h = ap number (take_one bs h) ∙ omega arith
