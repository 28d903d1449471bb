-- Laws of the call sheet: what striking an opening leaves.
use Rattle.std.proofs.Common.{◌≡◌, ℕ, suc, ◌-◌, ◌<◌, Bool, true, false, cond, eqb, [], ◌∷◌, Some, None, Option, sym, refl, ap, arith, eq-eqb, ne_eqb}
use Rattle.trials.specs.Sheet.{Sheet, pinned, unpinned, suspended, resumed, opened, pin_of, off_of, openings, kept, dropped}
use Rattle.trials.specs.Follows.{before}

pub kept_pin : (s : Sheet) (b : ℕ) → pin_of (kept s) b ≡ pin_of s b
kept_pin [] b = refl
kept_pin (pinned a c ∷ s) b = ap (λ (x : Option ℕ). cond (eqb a b) (Some c) x) (kept_pin s b)
kept_pin (unpinned a ∷ s) b = ap (λ (x : Option ℕ). cond (eqb a b) None x) (kept_pin s b)
kept_pin (suspended a ∷ s) b = kept_pin s b
kept_pin (resumed a ∷ s) b = kept_pin s b
kept_pin (opened ∷ s) b = refl

pub kept_off : (s : Sheet) (r : ℕ) → off_of (kept s) r ≡ off_of s r
kept_off [] r = refl
kept_off (pinned a c ∷ s) r = kept_off s r
kept_off (unpinned a ∷ s) r = kept_off s r
kept_off (suspended a ∷ s) r = ap (λ (x : Bool). cond (eqb a r) true x) (kept_off s r)
kept_off (resumed a ∷ s) r = ap (λ (x : Bool). cond (eqb a r) false x) (kept_off s r)
kept_off (opened ∷ s) r = refl

-- one opening fewer stands, and those below the newest stand where they stood
pub record Struck (s s' : Sheet) : Type 0 where
  pub fewer : openings s' ≡ openings s - 1
  pub older : (j : ℕ) → j < openings s - 1 → before s' j ≡ before s j

struck : (s : Sheet) → Struck (opened ∷ s) s
struck s = record {
  fewer = omega arith;
  older = λ j h. sym (ap (λ (t : Bool). cond t s (before s j)) (ne_eqb (openings s) j (λ p. omega arith)));
}

pub kept_struck : (s : Sheet) → Struck s (kept s)
kept_struck [] = record { fewer = refl; older = λ j h. refl }
kept_struck (pinned a c ∷ s) = let i = kept_struck s in record { fewer = i.fewer; older = i.older }
kept_struck (unpinned a ∷ s) = let i = kept_struck s in record { fewer = i.fewer; older = i.older }
kept_struck (suspended a ∷ s) = let i = kept_struck s in record { fewer = i.fewer; older = i.older }
kept_struck (resumed a ∷ s) = let i = kept_struck s in record { fewer = i.fewer; older = i.older }
kept_struck (opened ∷ s) = struck s

pub dropped_struck : (s : Sheet) → Struck s (dropped s)
dropped_struck [] = record { fewer = refl; older = λ j h. refl }
dropped_struck (pinned a c ∷ s) = let i = dropped_struck s in record { fewer = i.fewer; older = i.older }
dropped_struck (unpinned a ∷ s) = let i = dropped_struck s in record { fewer = i.fewer; older = i.older }
dropped_struck (suspended a ∷ s) = let i = dropped_struck s in record { fewer = i.fewer; older = i.older }
dropped_struck (resumed a ∷ s) = let i = dropped_struck s in record { fewer = i.fewer; older = i.older }
dropped_struck (opened ∷ s) = struck s

-- a drop goes back to the sheet as it stood before the newest opening
pub dropped_is : (s : Sheet) (j : ℕ) → openings s ≡ suc j → before s j ≡ dropped s
dropped_is [] j h = refl
dropped_is (pinned a c ∷ s) j h = dropped_is s j h
dropped_is (unpinned a ∷ s) j h = dropped_is s j h
dropped_is (suspended a ∷ s) j h = dropped_is s j h
dropped_is (resumed a ∷ s) j h = dropped_is s j h
dropped_is (opened ∷ s) j h = ap (λ (t : Bool). cond t s (before s j)) (eq-eqb (openings s) j (omega arith))
