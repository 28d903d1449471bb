-- Amounts up to a limit keep the laws of a price kind, by capped addition and by the larger.
use Rattle.std.specs.Prelude.{◌≡◌, ℕ, ◌+◌, ◌≤◌, min, max, true, nat_le}
use Rattle.std.proofs.Common.{ap, sym, ◌∙◌, arith, leb-true, leb-false, le-leb}
use mathlib.Core.HLevel.{is_prop→PathP}
use Rattle.std.proofs.Math.Bridge.{le_prop}
use Rattle.std.proofs.Math.Decide.{dec_le}
use Rattle.model.specs.Prices.{PriceLaws}
use Rattle.prices.specs.Amounts.{Combines, capped, combined, sums, larger}
use Rattle.prices.specs.declared.upto.Upto.{Upto}

-- the limit has one proof, so the number says all
pub upto_path : {cap : ℕ} {x y : Upto cap} → x.number ≡ y.number → x ≡ y
upto_path {cap} {x} {y} e = λ i. record { number = e i; within = is_prop→PathP (λ j. e j ≤ cap) (λ j. le_prop {n = e j} {m = cap}) x.within y.within i }

module _ (cap : ℕ) (together : ℕ → ℕ → ℕ) (laws : Combines together) where
  grows : (a b : ℕ) → b ≤ together a b
  grows a b = omega (arith, laws.mono 0 a b (omega arith), laws.neutral b)

  -- to cap one of two numbers first changes nothing of what they make, once that is capped
  cap_early : (a b : ℕ) → min (together (min a cap) b) cap ≡ min (together a b) cap
  cap_early a b =
      elim (dec_le a cap) [
        | yes h ↦ ap (λ n. min (together n b) cap) (omega arith)
        | no h ↦ omega (arith, laws.comm a b, grows b a, laws.comm (min a cap) b, grows b (min a cap))
      ]

  pub combined_laws : PriceLaws (combined cap together)
  combined_laws = record {
    assoc = λ p q r. upto_path (
        cap_early (together p.number q.number) r.number
        ∙ ap (λ n. min n cap) (laws.assoc p.number q.number r.number ∙ laws.comm p.number (together q.number r.number))
        ∙ sym (ap (λ n. min n cap) (laws.comm p.number (min (together q.number r.number) cap)) ∙ cap_early (together q.number r.number) p.number));
    comm = λ p q. upto_path (ap (λ n. min n cap) (laws.comm p.number q.number));
    neutral = λ p. upto_path (cap_early 0 p.number ∙ ap (λ n. min n cap) (laws.neutral p.number) ∙ omega (arith, p.within));
    absorbs = λ p. upto_path (omega (arith, laws.comm (min cap cap) p.number, grows p.number (min cap cap)));
    total = λ p q h. le-leb _ _ (omega (arith, leb-false _ _ h));
    trans = λ p q r h k. le-leb _ _ (omega (arith, leb-true _ _ h, leb-true _ _ k));
    least = λ p. le-leb _ _ (omega arith);
    greatest = λ p. le-leb _ _ (omega (arith, p.within));
    mono = λ p q r h. le-leb _ _ (omega (arith, laws.mono _ _ r.number (leb-true _ _ h)));
  }

pub sum_combines : Combines (λ m n. m + n)
sum_combines = record {
  assoc = λ a b c. omega arith;
  comm = λ a b. omega arith;
  neutral = λ a. omega arith;
  mono = λ a b c h. omega arith;
}

pub larger_combines : Combines max
larger_combines = record {
  assoc = λ a b c. omega arith;
  comm = λ a b. omega arith;
  neutral = λ a. omega arith;
  mono = λ a b c h. omega arith;
}

pub sums_laws : (cap : ℕ) → PriceLaws (sums cap)
sums_laws cap = combined_laws cap _ sum_combines

pub larger_laws : (cap : ℕ) → PriceLaws (larger cap)
larger_laws cap = combined_laws cap _ larger_combines

-- an amount means itself
pub same_number : (cap : ℕ) (p q : Upto cap) → nat_le p.number q.number ≡ true → nat_le q.number p.number ≡ true → p ≡ q
same_number cap p q h k = upto_path (omega (arith, leb-true _ _ h, leb-true _ _ k))

pub self_number : (cap : ℕ) (p q : Upto cap) → p ≡ q → nat_le p.number q.number ≡ true
self_number cap p q e = le-leb _ _ (omega (arith, ap (λ x. x.number) e))

pub capped_full : (cap : ℕ) → (capped cap cap).number ≡ cap
capped_full cap = omega arith

pub capped_order : (cap m n : ℕ) → m ≤ cap → n ≤ cap → nat_le (capped cap m).number (capped cap n).number ≡ nat_le m n
capped_order cap m n h k =
    let a : min m cap ≡ m = omega arith in
    let b : min n cap ≡ n = omega arith in
    λ i. nat_le (a i) (b i)
