use Rattle.std.proofs.Common.{◌≡◌, ℕ, zero, suc, false, get_or, replicate, refl}
use Rattle.layers.proofs.suspensions.Suspensions.new.Goals as goal

all_same : {A : Type 0} (n i : ℕ) (a : A) → get_or (replicate n a) i a ≡ a
all_same zero i a = refl
all_same (suc n) zero a = refl
all_same (suc n) (suc i) a = all_same n i a

pub returns : goal.returns
returns g c = record { below = refl; off = λ s. all_same 64 s false }
