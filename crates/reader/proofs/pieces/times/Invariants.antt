use Rattle.std.proofs.Common.{◌≡◌, ℕ, ◌-◌, List}
use Rattle.format.specs.Pieces.{Got}
use Rattle.format.specs.Steps.{chain}
use Rattle.reader.specs.Finds.{ReadsBy}
use Rattle.reader.proofs.Chains.{After}
use Rattle.reader.proofs.pieces.times.Given as goal

abbrev pub invariant-loop-i : goal.invariant-loop-i
invariant-loop-i g l =
    goal.F-IsAlwaysCallable g l.piece ×
    ((R : ℕ → List ℕ → Got ℕ) (next : ℕ → ℕ → ℕ) (at : ℕ → _) (s : ℕ) → l.fn.piece ≡ at s → ReadsBy (goal.F-step g) R next at →
    (t : ℕ) × (l.piece ≡ at t) × ((xs : List ℕ) × (chain R next l.n s l.fn.bytes ≡ After R next xs (l.n - l._i) t l.rest)))
