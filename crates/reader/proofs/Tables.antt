-- How many cells the table of a rule has.
use Rattle.std.proofs.Common.{◌≡◌, ℕ, ◌*◌, ◌^◌, ◌≤◌, List, [], ◌∷◌, length, reverse, fold, get_or, min, refl, ap, ◌∙◌, arith}
use native.Mathlib.Nat.{pow-succ', pow-le-pow_right, mul_comm}
use Rattle.std.proofs.lemmas.Nat.{mul-le}
use Rattle.std.proofs.lemmas.List.{reverse-append}
use Rattle.std.proofs.lemmas.List.Sums.{fold-append}
use Rattle.format.specs.House.{cells_in}

-- the product with one bay more, held at the largest of 64 bits
abbrev pub taken : List ℕ → ℕ → ℕ → ℕ
taken cs n b = min (n * get_or cs b 0) 18446744073709551615

module _ (cs : List ℕ) (few : (i : ℕ) → get_or cs i 0 ≤ 255) where
  size_bound : (scope : List ℕ) → cells_in cs scope ≤ 256 ^ length scope
  size_bound [] = omega arith
  size_bound (b ∷ bs) = rw pow-succ' (mul-le (get_or cs b 0) (cells_in cs bs) 256 (256 ^ length bs) (omega (arith, few b)) (size_bound bs))

  size_small : (scope : List ℕ) → length scope ≤ 4 → cells_in cs scope ≤ 4294967296
  size_small scope h = let p : 256 ^ length scope ≤ 256 ^ 4 = pow-le-pow_right (omega arith) h in omega (arith, size_bound scope)

  pub product_is : (scope : List ℕ) → length scope ≤ 4 → fold (taken cs) 1 (reverse scope) ≡ cells_in cs scope
  product_is [] h = refl
  product_is (b ∷ bs) h =
      ap (fold (taken cs) 1) (reverse-append (b ∷ []) bs)
      ∙ fold-append (taken cs) 1 (reverse bs) (b ∷ [])
      ∙ ap (λ n. taken cs n b) (product_is bs (omega arith))
      ∙ omega (arith, mul_comm (cells_in cs bs) (get_or cs b 0), size_small (b ∷ bs) h)
