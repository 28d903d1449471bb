-- Sets of bays that fit 32 bits, made from bays.
use Rattle.std.specs.Prelude.{ℕ, if◌then◌else◌, bit_or, nat_lt}
use Rattle.model.specs.Sets.{one}

-- a set with one bay more, if it fits
abbrev pub with_one : ℕ → ℕ → ℕ
with_one m b = if nat_lt b 32 then bit_or m (one b) else m
