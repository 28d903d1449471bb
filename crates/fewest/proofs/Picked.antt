-- Which of the two least bays is picked.
use Rattle.std.proofs.Common.{◌≡◌, ℕ, zero, suc, ◌≤◌, Bool, true, false, cond, not, ◌&&◌, Some, None, pos, unwrap_or, nat_lt, refl, sym, ap, ◌∙◌, arith}
use Rattle.std.specs.Prelude.{int_le}
use Rattle.std.proofs.lemmas.Bool.{ltb-false}
use Rattle.model.specs.Sets.{has}
use Rattle.pickers.specs.Orders.{every}
use Rattle.pickers.specs.declared.question.Question.{Question}
use Rattle.fewest.specs.Leasts.{lowest, least_by, least_in, number, fewer, lighter, fewest}
use Rattle.fewest.specs.Minima.{fewer_ranks, lighter_ranks, none_in, no_least}

lowest_most : (n : ℕ) (p : ℕ → Bool) → lowest n p ≤ n
lowest_most zero p = omega arith
lowest_most (suc n) p = go (p 0) (lowest_most n (λ i. p (suc i)))
  where
    go : (t : Bool) → lowest n (λ i. p (suc i)) ≤ n → cond t 0 (suc (lowest n (λ i. p (suc i)))) ≤ suc n
    go true h = omega arith
    go false h = omega arith

least_most : (below : ℕ → ℕ → Bool) (m : ℕ) → least_by below m ≤ 24
unfolding least_by
least_most below m = lowest_most 24 (λ b. has m b && every 24 (λ c. not (has m c && below c b)))

some_least : (below : ℕ → ℕ → Bool) (m b : ℕ) → Some b ≡ least_in below m → b ≡ least_by below m
some_least below m b e = go (nat_lt (least_by below m) 24) e
  where
    go : (t : Bool) → Some b ≡ cond t (Some (least_by below m)) None → b ≡ least_by below m
    go true e = cc
    go false e = cc

least_or : (below : ℕ → ℕ → Bool) (m : ℕ) → unwrap_or (least_in below m) 24 ≡ least_by below m
least_or below m = go (nat_lt (least_by below m) 24) refl
  where
    go : (t : Bool) → nat_lt (least_by below m) 24 ≡ t → unwrap_or (cond t (Some (least_by below m)) None) 24 ≡ least_by below m
    go true e = refl
    go false e = omega (arith, ltb-false (least_by below m) 24 e, least_most below m)

pub picks_few : (q : Question) (b : ℕ) → Some b ≡ least_in (fewer q) q.remaining → int_le (pos (number q b)) q.k ≡ true → b ≡ fewest q
picks_few q b e h =
    let is = some_least (fewer q) q.remaining b e in
    is ∙ sym (ap (λ (t : Bool). cond t (least_by (fewer q) q.remaining) (least_by (lighter q) q.remaining)) (sym (ap (λ (x : ℕ). int_le (pos (number q x)) q.k) is) ∙ h))

pub picks_light : (q : Question) (b : ℕ) → Some b ≡ least_in (fewer q) q.remaining → int_le (pos (number q b)) q.k ≡ false → unwrap_or (least_in (lighter q) q.remaining) 24 ≡ fewest q
picks_light q b e h =
    let is = some_least (fewer q) q.remaining b e in
    least_or (lighter q) q.remaining ∙ sym (ap (λ (t : Bool). cond t (least_by (fewer q) q.remaining) (least_by (lighter q) q.remaining)) (sym (ap (λ (x : ℕ). int_le (pos (number q x)) q.k) is) ∙ h))

pub picks_none : (q : Question) → None ≡ least_in (fewer q) q.remaining → unwrap_or (least_in (lighter q) q.remaining) 24 ≡ fewest q
picks_none q e = least_or (lighter q) q.remaining ∙ go (int_le (pos (number q (least_by (fewer q) q.remaining))) q.k)
  where
    go : (t : Bool) → least_by (lighter q) q.remaining ≡ cond t (least_by (fewer q) q.remaining) (least_by (lighter q) q.remaining)
    go true =
        let none = none_in (fewer q) (fewer_ranks q) q.remaining (sym e) in
        no_least (lighter q) (lighter_ranks q) q.remaining none ∙ sym (no_least (fewer q) (fewer_ranks q) q.remaining none)
    go false = refl
