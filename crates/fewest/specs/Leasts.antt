-- The bay with the fewest neighbours, or with the least choices for each neighbour.
use Rattle.std.specs.Prelude.{◌≡◌, ℕ, zero, suc, ◌*◌, ◌<◌, Bool, true, false, cond, not, ◌&&◌, ◌||◌, ◌⊎◌, pos, ◌==◌, count_ones, int_le, nat_lt, slice_index, Option, Some, None, if◌then◌else◌}
use Rattle.std.specs.Fn.{Shared}
use Rattle.model.specs.Sets.{has}
use Rattle.pickers.specs.Orders.{every}
use Rattle.pickers.specs.declared.question.Question.{Question}

-- the lowest number below n that passes a test; n if none does
abbrev pub lowest : ℕ → (ℕ → Bool) → ℕ
lowest zero p = 0
lowest (suc n) p = cond (p 0) 0 (suc (lowest n (λ i. p (suc i))))

-- the lowest bay of a set that no bay of the set is below; 24 if the set is empty
unfoldable pub least_by : (ℕ → ℕ → Bool) → ℕ → ℕ
least_by below m = lowest 24 (λ b. has m b && every 24 (λ c. not (has m c && below c b)))

-- the same, none if the set is empty
abbrev pub least_in : (ℕ → ℕ → Bool) → ℕ → Option ℕ
least_in below m = if nat_lt (least_by below m) 24 then Some (least_by below m) else None

-- how many neighbours a bay has, and how many choices
abbrev pub number : Question → ℕ → ℕ
number q b = count_ones (slice_index q.neighbours b)

abbrev pub tries : Question → ℕ → ℕ
tries q b = slice_index q.choices b

-- a has fewer neighbours than b
abbrev pub fewer : Question → ℕ → ℕ → Bool
fewer q a b = nat_lt (number q a) (number q b)

-- a's choices divided by its neighbours are below b's, by the crosswise products; no neighbours count as largest
abbrev pub lighter : Question → ℕ → ℕ → Bool
lighter q a b = nat_lt 0 (number q a) && (number q b == 0 || nat_lt (tries q a * number q b) (tries q b * number q a))

-- the fewest neighbours if that is at most k, else the least choices divided by neighbours
abbrev pub fewest : Question → ℕ
fewest q =
    cond (int_le (pos (number q (least_by (fewer q) q.remaining))) q.k)
    (least_by (fewer q) q.remaining)
    (least_by (lighter q) q.remaining)

-- b remains, no bay that remains is below it, and it is below every lower one that does
pub record Least (below : ℕ → ℕ → Bool) (m b : ℕ) : Type 0 where
  pub remains : has m b ≡ true
  pub least : (c : ℕ) → has m c ≡ true → below c b ≡ false
  pub lowest_one : (c : ℕ) → c < b → has m c ≡ true → below b c ≡ true

-- the bay has the fewest neighbours, at most k; or every bay that remains has more than k, and it has the least choices
-- divided by neighbours; of equals it is the lowest
abbrev pub FewestPicked : Question → ℕ → Type 0
FewestPicked q b =
    (Least (fewer q) q.remaining b × (int_le (pos (number q b)) q.k ≡ true))
    ⊎ (Least (lighter q) q.remaining b × ((c : ℕ) → has q.remaining c ≡ true → int_le (pos (number q c)) q.k ≡ false))

-- a strict comparison that leaves ties
pub record Ranks (below : ℕ → ℕ → Bool) : Type 0 where
  pub asym : (a b : ℕ) → below a b ≡ true → below b a ≡ false
  pub past : (a b c : ℕ) → below a b ≡ true → below c b ≡ false → below a c ≡ true

-- each call of f answers as a comparison does
pub record Compares {F : Type 0} (g : Shared F (ℕ × (ℕ × Unit {0})) Bool) (f : F) (below : ℕ → ℕ → Bool) : Type 0 where
  pub answers : (a b : ℕ) (r : Bool) → g.post f (a, (b, tt)) r → r ≡ below a b
