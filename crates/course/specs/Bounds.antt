-- The settings of k that a course takes.
use Rattle.std.specs.Prelude.{◌≡◌, Bool, false, ◌&&◌, ℤ, pos, negsuc, Result, MatchResult, int_le}
use Rattle.refusals.specs.declared.Refusal.{Refusal}
use Rattle.refusals.specs.declared.Refusal.TheVariants.{BadSetting}
use Rattle.course.specs.declared.bound.Bound.{Bound}

-- from -1 to 4
abbrev pub small : ℤ → Bool
small k = int_le (negsuc 0) k && int_le k (pos 4)

-- the bound with this k, or a bad setting exactly where k is not from -1 to 4
abbrev pub Bounds : ℤ → Result Bound Refusal → Type 0
Bounds k r = MatchResult r (λ b. b.k ≡ k) (λ e. (e ≡ BadSetting) × (small k ≡ false))
