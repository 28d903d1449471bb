-- How a command line is read: a letter, then its fields.
use Rattle.std.specs.Prelude.{ℕ, min, Bool, false, cond, ◌&&◌, List, [], ◌∷◌, drop, ℤ, pos, neg_ℤ, Some, None, Option, ◌==◌}
use Rattle.std.specs.Option.{option_map as made}
use Rattle.commands.specs.Numbers.{Got, unread, got, mapped, numeral, at_most}
use Rattle.commands.specs.declared.command.Command.{Command}
use Rattle.commands.specs.declared.command.Command.TheVariants.{Pin, Unpin, Suspend, Resume, Course, Plan}

-- one space, then a number that is not above the limit
abbrev pub field_in : ℕ → List ℕ → Got ℕ
field_in most [] = unread
field_in most (b ∷ bs) = cond (b == 32) (at_most most (numeral bs)) unread

abbrev pub starts_minus : List ℕ → Bool
starts_minus [] = false
starts_minus (a ∷ []) = false
starts_minus (a ∷ b ∷ bs) = a == 32 && b == 45

-- what a minus makes of a number, however large
abbrev pub below_zero : ℕ → ℤ
below_zero n = neg_ℤ (pos (min n 4294967296))

-- one space, then a number that may have a minus
abbrev pub signed_in : List ℕ → Got ℤ
signed_in bs = cond (starts_minus bs) (mapped below_zero (numeral (drop 2 bs))) (mapped pos (field_in 4294967295 bs))

-- what is read of a piece, and of what follows it
abbrev pub then : {A B : Type 0} → Got A → (A → List ℕ → Option B) → Option B
then unread k = None
then (got a rest) k = k a rest

-- nothing is left
abbrev pub done : {A : Type 0} → A → List ℕ → Option A
done a [] = Some a
done a (b ∷ bs) = None

abbrev pub last_in : ℕ → List ℕ → Option ℕ
last_in most bs = then (field_in most bs) done

abbrev pub pin_in : List ℕ → Option Command
pin_in bs = then (field_in 4294967295 bs) (λ bay bs. made (Pin bay) (last_in 4294967295 bs))

abbrev pub course_in : List ℕ → Option Command
course_in bs = then (signed_in bs) (λ k bs. made (Course k) (last_in 4096 bs))

abbrev pub plan_in : List ℕ → Option Command
plan_in bs = then (signed_in bs) (λ k bs. then (field_in 4096 bs) (λ cells bs. then (field_in 4294967295 bs) (λ limit bs. made (Plan k cells limit) (last_in 1000000000 bs))))

-- P, U, S, R, C and L, by their ASCII codes
abbrev pub letter_in : ℕ → List ℕ → Option Command
letter_in b bs =
    cond (b == 80) (pin_in bs)
    (cond (b == 85) (made Unpin (last_in 4294967295 bs))
    (cond (b == 83) (made Suspend (last_in 4294967295 bs))
    (cond (b == 82) (made Resume (last_in 4294967295 bs))
    (cond (b == 67) (course_in bs)
    (cond (b == 76) (plan_in bs)
    None)))))

abbrev pub command_in : List ℕ → Option Command
command_in [] = None
command_in (b ∷ bs) = letter_in b bs
