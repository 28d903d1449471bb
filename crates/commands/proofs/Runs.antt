-- What the first byte leaves to read.
use Rattle.std.proofs.Common.{◌≡◌, ℕ, ◌+◌, ◌-◌, ◌*◌, ◌<◌, min, true, false, cond, List, [], ◌∷◌, length, get_or, take, drop, Some, None, Option, sym, ap, ◌∙◌, arith}
use Rattle.std.specs.Char.{is_ascii_digit}
use Rattle.std.proofs.lemmas.List.{take_rest}
use Rattle.std.proofs.lemmas.Option.{cond_some}
use Rattle.commands.specs.Numbers.{got, with_digit, onwards, held}
use Rattle.commands.specs.Lines.{letter_in, command_in}

-- what a slice pattern leaves after the first byte
abbrev pub tail : List ℕ → List ℕ
tail bs = take (length bs - 1) (drop 1 bs)

-- what is asked of a byte that is to be a digit
abbrev pub digit_of : ℕ → Option ℕ
digit_of b = cond (is_ascii_digit b) (Some (b - 48)) None

-- to hold a number before its other digits are read changes nothing
hold_early : (n : ℕ) (bs : List ℕ) → held (onwards n bs) ≡ held (onwards (min n 4294967296) bs)
hold_early n [] = ap (λ m. got m []) (omega arith)
hold_early n (b ∷ bs) =
    let m : ℕ = min n 4294967296 in
    let same : min (with_digit n b) 4294967296 ≡ min (with_digit m b) 4294967296 = omega arith in
    elim (is_ascii_digit b) as (λ t. held (cond t (onwards (with_digit n b) bs) (got n (b ∷ bs))) ≡ held (cond t (onwards (with_digit m b) bs) (got m (b ∷ bs)))) [
      | true ↦ hold_early (with_digit n b) bs ∙ ap (λ k. held (onwards k bs)) same ∙ sym (hold_early (with_digit m b) bs)
      | false ↦ ap (λ k. got k (b ∷ bs)) (omega arith)
    ]

pub onwards_more : (n d : ℕ) (bs : List ℕ) → 0 < length bs → Some d ≡ digit_of (get_or bs 0 0) → held (onwards n bs) ≡ held (onwards (min (n * 10 + d) 4294967296) (tail bs))
onwards_more n d [] h e = absurd (omega arith)
onwards_more n d (b ∷ bs) h e =
    let is = cond_some (is_ascii_digit b) (b - 48) d (sym e) in
    ap (λ t. held (cond t (onwards (with_digit n b) bs) (got n (b ∷ bs)))) is.0 ∙ hold_early (with_digit n b) bs ∙
    (λ i. held (onwards (min (n * 10 + is.1 i) 4294967296) (sym (take_rest (b ∷ bs) 1) i)))

pub command_is : (bs : List ℕ) → 0 < length bs → command_in bs ≡ letter_in (get_or bs 0 0) (tail bs)
command_is [] h = absurd (omega arith)
command_is (b ∷ bs) h = ap (letter_in b) (sym (take_rest (b ∷ bs) 1))
