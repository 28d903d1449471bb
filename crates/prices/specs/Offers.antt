-- An offered number, which is accepted where it is not above a limit.
use Rattle.std.specs.Prelude.{◌≡◌, ℕ, ◌≤◌, Bool, true, false, Some, None, Option, nat_le, refl}
use Rattle.std.proofs.Common.{leb-true}

unfoldable pub by_test : {P : Type 0} (n limit : ℕ) (make : n ≤ limit → P) (b : Bool) → nat_le n limit ≡ b → Option P
by_test n limit make true e = Some (make (leb-true n limit e))
by_test n limit make false e = None

unfoldable pub accepted : {P : Type 0} (n limit : ℕ) → (n ≤ limit → P) → Option P
accepted n limit make = by_test n limit make (nat_le n limit) refl
