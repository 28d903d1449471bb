-- A fold that passes over what a test refuses.
use Rattle.std.proofs.Common.{◌≡◌, ℕ, Bool, true, false, cond, List, [], ◌∷◌, refl}
use Rattle.std.specs.Prelude.{filter, fold}

pub fold_kept : (test : ℕ → Bool) (step : ℕ → ℕ → ℕ) (s : ℕ) (xs : List ℕ) → fold (λ a x. cond (test x) (step a x) a) s xs ≡ fold step s (filter test xs)
fold_kept test step s [] = refl
fold_kept test step s (x ∷ xs) = go (test x) (λ s. fold_kept test step s xs)
  where
    go : (t : Bool) → ((s : ℕ) → fold (λ a x. cond (test x) (step a x) a) s xs ≡ fold step s (filter test xs)) → fold (λ a x. cond (test x) (step a x) a) (cond t (step s x) s) xs ≡ fold step s (cond t (x ∷ filter test xs) (filter test xs))
    go true more = more (step s x)
    go false more = more s
