-- What each step of reading finds.
use Rattle.std.specs.Prelude.{◌≡◌, ℕ, ◌+◌, ◌-◌, ◌*◌, ◌<◌, ◌≤◌, List, length, drop, MatchResult, slice_index}
use Rattle.std.specs.Borrow.{Bor}
use Rattle.std.specs.declared.result.Result.{Result}
use Rattle.refusals.specs.declared.Refusal.{Refusal}
use Rattle.format.specs.Pieces.{Got, got, bad}
use Rattle.format.specs.House.{cells_in}
use Rattle.format.specs.Steps.{times, rule_in, prices_in}
use Rattle.reader.specs.Places.{scope_at, table_at, rows_at, rules_at}

-- what a reading gives: what was read and the bytes after it, or the first fault
abbrev pub Reads : {A : Type 0} → Got A → Result (A × Bor (List ℕ)) Refusal → Type 0
Reads g result = MatchResult result (λ p. g ≡ got p.0 p.1.now) (λ e. g ≡ bad e)

-- the same, where the bytes that were read are answered
abbrev pub Cuts : Got (List ℕ) → Result (Bor (List ℕ) × Bor (List ℕ)) Refusal → Type 0
Cuts g result = MatchResult result (λ p. g ≡ got p.0.now p.1.now) (λ e. g ≡ bad e)

-- the same, where only the bytes after them are answered
abbrev pub Skips : {A : Type 0} → Got A → Result (Bor (List ℕ)) Refusal → Type 0
Skips {A} g result = MatchResult result (λ rest. (a : A) × (g ≡ got a rest.now)) (λ e. g ≡ bad e)

-- the same, where a state follows from what was read
abbrev pub Steps : {S A : Type 0} → Got A → (A → S) → Result (Bor (List ℕ)) Refusal → S → Type 0
Steps {S} {A} g next result state = MatchResult result (λ rest. (a : A) × (g ≡ got a rest.now) × (state ≡ next a)) (λ e. g ≡ bad e)

-- a closure reads by R: step is what its calls do, and at gives it in each of its states
abbrev pub ReadsBy : {F : Type 0} → (F → Bor (List ℕ) → Result (Bor (List ℕ)) Refusal → F → Type 0) → (ℕ → List ℕ → Got ℕ) → (ℕ → ℕ → ℕ) → (ℕ → F) → Type 0
ReadsBy {F} step R next at = (s : ℕ) (x : Bor (List ℕ)) (r : Result (Bor (List ℕ)) Refusal) (f : F) → step (at s) x r f → Steps (R s x.now) (λ a. at (next s a)) r f

-- the end of a body that begins where so many of its bytes are read
abbrev pub Ends : List ℕ → List ℕ → Type 0
Ends body rest = rest ≡ drop (length body - length rest) body

-- the own prices of each bay: where each row begins, and the bytes after them
pub record Rows (top : ℕ) (body cs bytes own rest : List ℕ) : Type 0 where
  pub reads : prices_in top cs bytes ≡ got (rows_at body cs own (length cs)) rest
  pub long : length own ≡ length cs
  pub rows : (i : ℕ) → i < length cs → slice_index own i + 4 * slice_index cs i ≤ length body
  pub ends : Ends body rest

-- n rules: where each begins, and the bytes after them
pub record Rules (top : ℕ) (body cs bytes : List ℕ) (n : ℕ) (rule rest : List ℕ) : Type 0 where
  pub reads : times n (rule_in top cs) bytes ≡ got (rules_at body cs rule n) rest
  pub long : length rule ≡ n
  pub tables : (r : ℕ) → r < n → table_at body (slice_index rule r) + 4 * cells_in cs (scope_at body (slice_index rule r)) ≤ length body
  pub ends : Ends body rest
