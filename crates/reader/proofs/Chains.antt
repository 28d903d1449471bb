-- A run of pieces, of which some are read.
use Rattle.std.proofs.Common.{◌≡◌, ℕ, suc, ◌+◌, ◌-◌, ◌<◌, ◌≤◌, List, [], ◌∷◌, ◌++◌, sym, refl, ap, append_assoc, append-nil, add-one, arith}
use Rattle.refusals.specs.declared.Refusal.{Refusal}
use Rattle.format.specs.Pieces.{Got, got, bad}
use Rattle.format.specs.Steps.{chain, mapped}

module _ {S A : Type 0} (R : S → List ℕ → Got A) (next : S → A → S) where
  -- what is left of a chain, of which xs are read
  abbrev pub After : List A → ℕ → S → List ℕ → Got (List A)
  After xs n s rest = mapped (λ ys. xs ++ ys) (chain R next n s rest)

  mapped_mapped : (xs : List A) (x : A) (g : Got (List A)) → mapped (λ ys. xs ++ ys) (mapped (λ ys. x ∷ ys) g) ≡ mapped (λ ys. (xs ++ x ∷ []) ++ ys) g
  mapped_mapped xs x (bad e) = refl
  mapped_mapped xs x (got ys r) = ap (λ l. got l r) (sym (append_assoc xs (x ∷ []) ys))

  mapped_none : (g : Got (List A)) → g ≡ mapped (λ ys. [] ++ ys) g
  mapped_none (bad e) = refl
  mapped_none (got ys r) = refl

  pub after_start : (n : ℕ) (s : S) (rest : List ℕ) → chain R next n s rest ≡ After [] (n - 0) s rest
  after_start n s rest = let z : n - 0 ≡ n = omega arith in rw z (mapped_none (chain R next n s rest))

  less_one : (n i : ℕ) → i < n → n - i ≡ suc (n - (i + 1))
  less_one n i h = omega (arith, add-one (n - (i + 1)))

  pub after_more : (xs : List A) (n i : ℕ) (s : S) (rest : List ℕ) (x : A) (after : List ℕ) → i < n → R s rest ≡ got x after → After xs (n - i) s rest ≡ After (xs ++ x ∷ []) (n - (i + 1)) (next s x) after
  after_more xs n i s rest x after h e =
      rw (less_one n i h, e) (mapped_mapped xs x (chain R next (n - (i + 1)) (next s x) after))

  pub after_bad : (xs : List A) (n i : ℕ) (s : S) (rest : List ℕ) (e : Refusal) → i < n → R s rest ≡ bad e → After xs (n - i) s rest ≡ bad e
  after_bad xs n i s rest e h q = rw (less_one n i h, q)

  pub after_all : (xs : List A) (n i : ℕ) (s : S) (rest : List ℕ) → n ≤ i → After xs (n - i) s rest ≡ got xs rest
  after_all xs n i s rest h = let z : n - i ≡ 0 = omega arith in rw z (ap (λ l. got l rest) (append-nil xs))
