-- When a line is a writing of a command: what the bytes are, and not how they are read.
use Rattle.std.specs.Prelude.{◌≡◌, ℕ, ◌+◌, ◌-◌, ◌*◌, ◌^◌, ◌<◌, ◌≤◌, min, true, ◌⊎◌, List, [], ◌∷◌, ◌++◌, length, ℤ, pos, neg_ℤ, Option, Result, MatchOption, MatchResult}
use Rattle.std.specs.Char.{is_ascii_digit}
use Rattle.refusals.specs.declared.Refusal.{Refusal}
use Rattle.refusals.specs.declared.Refusal.TheVariants.{UnreadLine}
use Rattle.commands.specs.declared.command.Command.{Command}
use Rattle.commands.specs.declared.command.Command.TheVariants.{Pin, Unpin, Suspend, Resume, Course, Plan}

-- the number that decimal digits write: each counts by its place
abbrev pub value : List ℕ → ℕ
value [] = 0
value (d ∷ ds) = (d - 48) * 10 ^ length ds + value ds

abbrev pub AllDigits : List ℕ → Type 0
AllDigits [] = Unit {0}
AllDigits (d ∷ ds) = (is_ascii_digit d ≡ true) × AllDigits ds

-- one digit or more, which write n
pub record Digits (ds : List ℕ) (n : ℕ) : Type 0 where
  pub some : 0 < length ds
  pub all : AllDigits ds
  pub worth : value ds ≡ n

-- digits that write n, which is not above the limit
pub record Number (most : ℕ) (bs : List ℕ) (n : ℕ) : Type 0 where
  pub digits : Digits bs n
  pub within : n ≤ most

-- a number without a sign, or a minus (45) and a number of any size, held at -4,294,967,296
abbrev pub Signed : List ℕ → ℤ → Type 0
Signed bs k =
    ((n : ℕ) × Number 4294967295 bs n × (k ≡ pos n)) ⊎
    ((ds : List ℕ) × (n : ℕ) × (bs ≡ 45 ∷ ds) × Digits ds n × (k ≡ neg_ℤ (pos (min n 4294967296))))

-- each field with one space (32) before it
abbrev pub fields : List (List ℕ) → List ℕ
fields [] = []
fields (bs ∷ more) = 32 ∷ (bs ++ fields more)

-- the line is the command's letter (P, U, S, R, C or L, by its ASCII code) and then a writing of each field in turn
abbrev pub Writes : List ℕ → Command → Type 0
Writes line (Pin bay choice) =
    (b : List ℕ) × (c : List ℕ) × (line ≡ 80 ∷ fields (b ∷ c ∷ [])) × Number 4294967295 b bay × Number 4294967295 c choice
Writes line (Unpin bay) = (b : List ℕ) × (line ≡ 85 ∷ fields (b ∷ [])) × Number 4294967295 b bay
Writes line (Suspend rule) = (r : List ℕ) × (line ≡ 83 ∷ fields (r ∷ [])) × Number 4294967295 r rule
Writes line (Resume rule) = (r : List ℕ) × (line ≡ 82 ∷ fields (r ∷ [])) × Number 4294967295 r rule
Writes line (Course k cells) =
    (s : List ℕ) × (c : List ℕ) × (line ≡ 67 ∷ fields (s ∷ c ∷ [])) × Signed s k × Number 4096 c cells
Writes line (Plan k cells limit ceiling) =
    (s : List ℕ) × (c : List ℕ) × (l : List ℕ) × (t : List ℕ) × (line ≡ 76 ∷ fields (s ∷ c ∷ l ∷ t ∷ [])) × Signed s k × Number 4096 c cells ×
    Number 4294967295 l limit × Number 1000000000 t ceiling

-- the line is a writing of the command, and of no other
abbrev pub WritesOnly : List ℕ → Command → Type 0
WritesOnly line c = Writes line c × ((other : Command) → Writes line other → other ≡ c)

-- the line is a writing of no command
abbrev pub WritesNone : List ℕ → Type 0
WritesNone line = (c : Command) → Writes line c → ⊥

-- what is read is the command that the line is a writing of, and nothing where there is none
abbrev pub Reads : List ℕ → Option Command → Type 0
Reads line o = MatchOption o (WritesNone line) (WritesOnly line)

-- the command that the line is a writing of, and of no other; a refusal where it is a writing of none
abbrev pub Accepts : List ℕ → Result Command Refusal → Type 0
Accepts line r = MatchResult r (WritesOnly line) (λ e. (e ≡ UnreadLine) × WritesNone line)
