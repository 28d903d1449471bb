use Rattle.std.proofs.Common.{◌≡◌, ℕ, ◌-◌, ◌*◌, ◌^◌, ◌%◌, ⊎_elim, sym, subst, arith, w32}
use lib.Bits.{bit_and}
use Rattle.model.specs.Sets.{bit, minus, one}
use Rattle.std.proofs.lemmas.Bool.{cases_eq}
use Rattle.std.proofs.lemmas.Nat.{and_le_l}
use Rattle.std.proofs.lemmas.Nat.Bits.{bit_at_clear_same, bit_at_clear_other}
use Rattle.model.proofs.Bits.{same_set, minus_small, minus_beyond, bit_minus, bit_one_same, bit_one_other, bit_below}
use Rattle.bays.proofs.without.Goals as goal

pub returns-then-bay-lt32 : goal.returns-then-bay-lt32
returns-then-bay-lt32 c =
    let s = c.args.set in
    let b = c.args.bay in
    same_set 32 _ _ (omega (arith, and_le_l s (4294967295 - 1 * 2 ^ b % 4294967296))) (minus_small 32 s _ (omega arith))
    (λ i l. ⊎_elim
    (λ e. subst (λ (j : ℕ). bit (bit_and s (4294967295 - 1 * 2 ^ b % 4294967296)) j ≡ bit (minus s (one b)) j) e (omega (arith, bit_at_clear_same w32 s b (omega arith), bit_minus s (2 ^ b) b, bit_one_same b, bit_below s b)))
    (λ n. omega (arith, bit_at_clear_other w32 s b (omega arith) i (omega arith) (λ e. n (sym e)), bit_minus s (2 ^ b) i, bit_one_other b i n))
    (cases_eq b i))

pub returns-else-bay-lt32 : goal.returns-else-bay-lt32
returns-else-bay-lt32 c = sym (minus_beyond 32 c.args.set c.args.bay (omega arith) (omega arith))
