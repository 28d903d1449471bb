-- Sets of bays, written as numbers: the bay b is in the set where the bit b is 1.
use Rattle.std.specs.Prelude.{ℕ, ◌/◌, ◌%◌, ◌^◌, Bool, ◌==◌, bit_and, bit_xor}

abbrev pub bit : ℕ → ℕ → ℕ
bit m b = m / 2 ^ b % 2

abbrev pub has : ℕ → ℕ → Bool
has m b = bit m b == 1

-- the set of one bay
abbrev pub one : ℕ → ℕ
one b = 2 ^ b

-- the bays of one set that are not in another
abbrev pub minus : ℕ → ℕ → ℕ
minus m gone = bit_xor m (bit_and m gone)
