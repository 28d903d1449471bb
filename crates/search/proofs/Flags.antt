-- Flags of the terms in force.
use Rattle.std.proofs.Common.{◌≡◌, ℕ, ◌+◌, ◌<◌, Bool, true, false, cond, not, ◌&&◌, eqb, List, [], ◌∷◌, ◌++◌, length, take, subst, set, sym, refl, ap, ◌∙◌, arith, eqb-true}
use native.Mathlib.Decide.{dec_lt}
use borrow.Author.Tests.{eqb-false}
use Rattle.std.proofs.Math.Seq.{take-length}
use Rattle.std.proofs.lemmas.List.{get_or-set_same, get_or-set_other, get_or_past, length-take}
use Rattle.search.proofs.Settled.{newest_taken}
use Rattle.search.specs.Force.{flag}

pub near_bool : (t r e : Bool) → ((t && r) && not e) ≡ (r && (not e && t))
near_bool true true true = refl
near_bool true true false = refl
near_bool true false true = refl
near_bool true false false = refl
near_bool false true true = refl
near_bool false true false = refl
near_bool false false true = refl
near_bool false false false = refl

-- a flag set where those that some terms touch are gone
pub flag_set : (out force : List Bool) (touch : ℕ → Bool) → length out ≡ 112 → length force ≡ 112 → ((k : ℕ) → k < 112 → flag out k ≡ (flag force k && not (touch k)))
    → (n : ℕ) → n < 112 → (k : ℕ) → flag (set out n true) k ≡ cond (eqb k n) true (flag force k && not (touch k))
flag_set out force touch long long' is n l k = go (eqb k n) refl
  where
    go : (x : Bool) → eqb k n ≡ x → flag (set out n true) k ≡ cond x true (flag force k && not (touch k))
    go true e = ap (λ (i : ℕ). flag (set out n true) i) (eqb-true k n e) ∙ get_or-set_same out n true false (omega arith)
    go false e = get_or-set_other out n k true false (eqb-false k n e) ∙ elim (dec_lt k 112) [
      | yes lt ↦ is k lt
      | no ge ↦ get_or_past out k false (omega arith) ∙ sym (ap (λ (x : Bool). x && not (touch k)) (get_or_past force k false (omega arith)))
    ]

-- what a loop over the flags from the back still has to go through: the first so many, each with its number
pub record Back (force rest : List Bool) (count : ℕ) : Type 0 where
  pub none : count ≡ 0
  pub first : rest ≡ take (length rest) force

pub back_start : (force rest : List Bool) (count : ℕ) → rest ≡ force → count ≡ 0 → Back force rest count
back_start force rest count e z = record { none = z; first = subst (λ (xs : List Bool). xs ≡ take (length xs) force) (sym e) (sym (take-length force)) }

-- the flag that comes next is that of its number, which is the next below
pub record Next (force rest new : List Bool) (number : ℕ) (on : Bool) (count : ℕ) : Type 0 where
  pub one : length rest ≡ number + 1
  pub number_is : length new ≡ number
  pub below : length force ≡ 112 → number < 112
  pub on_is : flag force number ≡ on
  pub back : Back force new count

pub back_next : (force rest new : List Bool) (number : ℕ) (on : Bool) (count count' : ℕ) → Back force rest count → count' ≡ count → rest ≡ new ++ on ∷ [] → number ≡ count + length new → Next force rest new number on count'
back_next force rest new number on count count' b c p n =
    let t = newest_taken false force rest new on b.first p in
    let z : length new ≡ number = omega (arith, n, b.none) in
    record {
      one = omega (arith, t.0, z);
      number_is = z;
      below = λ l. omega (arith, t.0, z, l, ap length b.first, length-take (length rest) force);
      on_is = ap (flag force) (sym z) ∙ sym t.1;
      back = record { none = c ∙ b.none; first = t.2 };
    }
