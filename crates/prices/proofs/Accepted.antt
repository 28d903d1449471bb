-- When an offered number is accepted.
use Rattle.std.proofs.Common.{◌≡◌, ℕ, ◌<◌, ◌≤◌, Bool, true, false, leb, Some, None, refl, ap, le-leb, leb-true}
use native.Mathlib.Bridge.{le_prop}
use borrow.Author.Tests.{lt-leb, both_ways}
use Rattle.prices.specs.Offers.{by_test, accepted}

by_true : {P : Type 0} (n limit : ℕ) (make : n ≤ limit → P) (h : n ≤ limit) (b : Bool) (e : leb n limit ≡ b) → b ≡ true → by_test n limit make b e ≡ Some (make h)
unfolding by_test
by_true n limit make h true e t = ap (λ k. Some (make k)) (le_prop (leb-true n limit e) h)
by_true n limit make h false e t = absurd (both_ways _ e (le-leb n limit h))

pub accepted_some : {P : Type 0} (n limit : ℕ) (make : n ≤ limit → P) (h : n ≤ limit) → accepted n limit make ≡ Some (make h)
unfolding accepted
accepted_some n limit make h = by_true n limit make h (leb n limit) refl (le-leb n limit h)

by_false : {P : Type 0} (n limit : ℕ) (make : n ≤ limit → P) (b : Bool) (e : leb n limit ≡ b) → b ≡ false → by_test n limit make b e ≡ None
unfolding by_test
by_false n limit make true e t = absurd (both_ways _ t refl)
by_false n limit make false e t = refl

pub accepted_none : {P : Type 0} (n limit : ℕ) (make : n ≤ limit → P) → limit < n → accepted n limit make ≡ None
unfolding accepted
accepted_none n limit make h = by_false n limit make (leb n limit) refl (lt-leb n limit h)
