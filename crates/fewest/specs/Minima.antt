-- The least bay of a set, found one by one.
use Rattle.std.specs.Prelude.{◌≡◌, ℕ, zero, suc, ◌+◌, ◌*◌, ◌^◌, ◌<◌, ◌≤◌, Bool, true, false, cond, not, ◌&&◌, ◌||◌, ◌⊎◌, List, [], ◌∷◌, ◌++◌, filter, Option, Some, None, ℤ, pos, negsuc, ◌==◌, ◌≢◌, int_le, nat_lt}
use Rattle.std.proofs.Math.Path.{refl, sym, ap}
use Rattle.std.proofs.Math.Nat.{mul_right_comm}
use Rattle.std.proofs.Common.{subst, ◌∙◌, inl, inr, ⊎_elim, add-mul, arith}
use Rattle.std.specs.Int.Count.{count_trailing_zeros}
use Rattle.std.specs.List.{range_with_len, reduce}
use Rattle.std.proofs.lemmas.List.{append-nil}
use Rattle.std.proofs.lemmas.List.Elements.{filter-append}
use Rattle.std.proofs.lemmas.List.Sums.{fold-append}
use Rattle.model.proofs.Kept.{counting_more}
use Rattle.std.proofs.lemmas.Nat.{mul-le}
use Rattle.std.proofs.lemmas.Bool.{lt-leb, leb-false, cases_lt, cases_Bool, and_parts, and_from, and_left, and_right, or_from, or_left, or_right, or_cases, or_parts, and_cases, both_ways, eqb-true, eqb-false, eq-eqb, ne_eqb, ltb-true, ltb-false, lt-ltb, le-ltb}
use Rattle.model.specs.Sets.{has}
use Rattle.model.proofs.Bits.{some_bay, has_below}
use Rattle.pickers.specs.Orders.{every}
use Rattle.pickers.specs.declared.question.Question.{Question}
use Rattle.pickers.specs.Perms.{every_from, every_at}
use Rattle.fewest.specs.Leasts.{lowest, least_by, number, tries, fewer, lighter, least_in, fewest, Ranks, Least, FewestPicked}

pub record Best (below : ℕ → ℕ → Bool) (m n b : ℕ) : Type 0 where
  pub inside : has m b ≡ true
  pub under : b < n
  pub least : (c : ℕ) → c < n → has m c ≡ true → below c b ≡ false
  pub first : (c : ℕ) → c < b → has m c ≡ true → below b c ≡ true

abbrev pub NoneOf : ℕ → ℕ → Type 0
NoneOf m n = (c : ℕ) → c < n → has m c ≡ false

-- what has been found of the bays below n
abbrev Found : (ℕ → ℕ → Bool) → ℕ → ℕ → Option ℕ → Type 0
Found below m n None = NoneOf m n
Found below m n (Some b) = Best below m n b

-- the better of two, of which the first is the lower
abbrev pub better : (ℕ → ℕ → Bool) → ℕ → ℕ → ℕ
better below best b = cond (below b best) b best

abbrev added : (ℕ → ℕ → ℕ) → Option ℕ → ℕ → ℕ
added h None x = x
added h (Some b) x = h b x

reduce_push : (h : ℕ → ℕ → ℕ) (xs : List ℕ) (x : ℕ) → reduce h (xs ++ x ∷ []) ≡ Some (added h (reduce h xs) x)
reduce_push h [] x = refl
reduce_push h (y ∷ ys) x = ap Some (fold-append h y ys (x ∷ []))

lowest_at : (n : ℕ) (p : ℕ → Bool) (b : ℕ) → b < n → p b ≡ true → ((c : ℕ) → c < b → p c ≡ false) → lowest n p ≡ b
lowest_at zero p b h e no_one = absurd (omega arith)
lowest_at (suc n) p zero h e no_one = ap (λ (t : Bool). cond t 0 (suc (lowest n (λ i. p (suc i))))) e
lowest_at (suc n) p (suc b) h e no_one =
    ap (λ (t : Bool). cond t 0 (suc (lowest n (λ i. p (suc i))))) (no_one 0 (omega arith)) ∙ ap suc (lowest_at n (λ i. p (suc i)) b (omega arith) e (λ c l. no_one (suc c) (omega arith)))

lowest_none : (n : ℕ) (p : ℕ → Bool) → ((c : ℕ) → c < n → p c ≡ false) → lowest n p ≡ n
lowest_none zero p no_one = refl
lowest_none (suc n) p no_one =
    ap (λ (t : Bool). cond t 0 (suc (lowest n (λ i. p (suc i))))) (no_one 0 (omega arith)) ∙ ap suc (lowest_none n (λ i. p (suc i)) (λ c l. no_one (suc c) (omega arith)))

module _ (below : ℕ → ℕ → Bool) (ranks : Ranks below) (m : ℕ) where
  same_not : (a : ℕ) → below a a ≡ false
  same_not a = ⊎_elim (λ e. ranks.asym a a e) (λ e. e) (cases_Bool (below a a))

  up_to : (n : ℕ) (P : ℕ → Type 0) → ((c : ℕ) → c < n → P c) → P n → (c : ℕ) → c < suc n → P c
  up_to n P h here c l = ⊎_elim (λ lt. h c lt) (λ ge. let e : n ≡ c = omega arith in subst P e here) (cases_lt c n)

  taken : (n b : ℕ) → has m n ≡ true → Best below m n b → below n b ≡ true → Best below m (suc n) n
  taken n b h best l = record {
    inside = h;
    under = omega arith;
    least = up_to n (λ c. has m c ≡ true → below c n ≡ false) (λ c lt hc. ranks.asym n c (ranks.past n b c l (best.least c lt hc))) (λ _. same_not n);
    first = λ c lt hc. ranks.past n b c l (best.least c lt hc);
  }

  stays : (n b : ℕ) → (has m n ≡ true → below n b ≡ false) → Best below m n b → Best below m (suc n) b
  stays n b h best = record {
    inside = best.inside;
    under = omega (arith, best.under);
    least = up_to n (λ c. has m c ≡ true → below c b ≡ false) best.least h;
    first = best.first;
  }

  fresh : (n : ℕ) → has m n ≡ true → NoneOf m n → Best below m (suc n) n
  fresh n h no_one = record {
    inside = h;
    under = omega arith;
    least = up_to n (λ c. has m c ≡ true → below c n ≡ false) (λ c lt hc. absurd (both_ways (has m c) (no_one c lt) hc)) (λ _. same_not n);
    first = λ c lt hc. absurd (both_ways (has m c) (no_one c lt) hc);
  }

  step : (n : ℕ) (o : Option ℕ) → Found below m n o → Found below m (suc n) (cond (has m n) (Some (added (better below) o n)) o)
  step n None none = go (has m n) refl
    where
      go : (t : Bool) → has m n ≡ t → Found below m (suc n) (cond t (Some n) None)
      go true h = fresh n h none
      go false h = up_to n (λ c. has m c ≡ false) none h
  step n (Some b) best = go (has m n) (below n b) refl refl
    where
      go : (t l : Bool) → has m n ≡ t → below n b ≡ l → Found below m (suc n) (cond t (Some (cond l n b)) (Some b))
      go true true h l = taken n b h best l
      go true false h l = stays n b (λ _. l) best
      go false l h e = stays n b (λ t. absurd (both_ways (has m n) h t)) best

  -- the bays of the set below n, one by one
  chosen : ℕ → Option ℕ
  chosen n = reduce (better below) (filter (has m) (range_with_len 0 n))

  chosen_more : (n : ℕ) → chosen (suc n) ≡ cond (has m n) (Some (added (better below) (chosen n) n)) (chosen n)
  unfolding chosen
  chosen_more n =
      ap (λ (xs : List ℕ). reduce (better below) (filter (has m) xs)) (counting_more 0 n ∙ ap (λ (x : ℕ). range_with_len 0 n ++ x ∷ []) (omega arith))
      ∙ ap (reduce (better below)) (filter-append (has m) (range_with_len 0 n) (n ∷ []))
      ∙ go (has m n)
    where
      go : (t : Bool) → reduce (better below) (filter (has m) (range_with_len 0 n) ++ cond t (n ∷ []) []) ≡ cond t (Some (added (better below) (chosen n) n)) (chosen n)
      go true = reduce_push (better below) (filter (has m) (range_with_len 0 n)) n
      go false = ap (reduce (better below)) (append-nil (filter (has m) (range_with_len 0 n)))

  found : (n : ℕ) → Found below m n (chosen n)
  unfolding chosen
  found zero = λ c l. absurd (omega arith)
  found (suc n) = subst (Found below m (suc n)) (sym (chosen_more n)) (step n (chosen n) (found n))

  pub no_least : NoneOf m 24 → least_by below m ≡ 24
  unfolding least_by
  no_least none = lowest_none 24 (λ b. has m b && every 24 (λ c. not (has m c && below c b))) (λ c l. ap (λ (t : Bool). t && every 24 (λ d. not (has m d && below d c))) (none c l))

  is_least : (b : ℕ) → Best below m 24 b → least_by below m ≡ b
  unfolding least_by
  is_least b best =
      lowest_at 24 (λ b. has m b && every 24 (λ c. not (has m c && below c b))) b best.under
      (and_from (has m b) (every 24 (λ c. not (has m c && below c b))) best.inside (every_from 24 (λ c. not (has m c && below c b)) (λ c l. unbeaten c (has m c) refl l)))
      (λ c l. out c l (has m c) refl)
    where
      unbeaten : (c : ℕ) (t : Bool) → has m c ≡ t → c < 24 → not (t && below c b) ≡ true
      unbeaten c true h l = ap not (best.least c l h)
      unbeaten c false h l = refl

      falls : (x : Bool) → (x ≢ true) → x ≡ false
      falls true f = absurd (f refl)
      falls false f = refl

      out : (c : ℕ) → c < b → (t : Bool) → has m c ≡ t → (t && every 24 (λ d. not (has m d && below d c))) ≡ false
      out c l false h = refl
      out c l true h = falls (every 24 (λ d. not (has m d && below d c))) (λ e.
          let x : not (has m b && below b c) ≡ true = every_at 24 (λ d. not (has m d && below d c)) e b best.under in
          let y : (has m b && below b c) ≡ true = and_from (has m b) (below b c) best.inside (best.first c l h) in
          both_ways false refl (sym (ap not y) ∙ x))

  pub chosen_is : reduce (better below) (filter (has m) (range_with_len 0 24)) ≡ least_in below m
  unfolding chosen
  chosen_is = go (chosen 24) (found 24)
    where
      go : (o : Option ℕ) → Found below m 24 o → o ≡ least_in below m
      go None none = sym (ap (λ (x : ℕ). cond (nat_lt x 24) (Some x) None) (no_least none))
      go (Some b) best = sym (ap (λ (x : ℕ). cond (nat_lt x 24) (Some x) None) (is_least b best) ∙ ap (λ (t : Bool). cond t (Some b) None) (lt-ltb b 24 best.under))

  pub none_in : least_in below m ≡ None → NoneOf m 24
  unfolding chosen
  none_in e = go (chosen 24) (found 24) (chosen_is ∙ e)
    where
      go : (o : Option ℕ) → Found below m 24 o → o ≡ None → NoneOf m 24
      go None none e = none
      go (Some b) best e = cc

  pub the_least : 0 < m → m < 2 ^ 24 → Least below m (least_by below m)
  the_least some small = go (chosen 24) (found 24)
    where
      go : (o : Option ℕ) → Found below m 24 o → Least below m (least_by below m)
      go None none = let h = some_bay m some small in absurd (both_ways (has m (count_trailing_zeros 24 m)) (none (count_trailing_zeros 24 m) (has_below 24 m (count_trailing_zeros 24 m) small h)) h)
      go (Some b) best = subst (Least below m) (sym (is_least b best)) (record { remains = best.inside; least = λ c h. best.least c (has_below 24 m c small h) h; lowest_one = best.first })

-- the two comparisons
pub fewer_ranks : (q : Question) → Ranks (fewer q)
fewer_ranks q = record {
  asym = λ a b h. le-ltb (number q b) (number q a) (omega (arith, ltb-true (number q a) (number q b) h));
  past = λ a b c h k. lt-ltb (number q a) (number q c) (omega (arith, ltb-true (number q a) (number q b) h, ltb-false (number q c) (number q b) k));
}

-- a/b < c/d and c/d ≤ e/f give a/b < e/f
crossed : (ta na tb nb tc nc : ℕ) → 0 < nb → 0 < nc → ta * nb < tb * na → tb * nc ≤ tc * nb → ta * nc < tc * na
crossed ta na tb nb tc nc pb pc h k =
    ⊎_elim (λ l. l)
    (λ g. let one : (ta * nb + 1) * nc ≤ (tb * na) * nc = mul-le (ta * nb + 1) nc (tb * na) nc (omega arith) (omega arith) in
    let two : (tb * nc) * na ≤ (tc * nb) * na = mul-le (tb * nc) na (tc * nb) na k (omega arith) in
    let three : (tc * na) * nb ≤ (ta * nc) * nb = mul-le (tc * na) nb (ta * nc) nb g (omega arith) in
    absurd (omega (arith, add-mul (ta * nb) 1 nc, mul_right_comm ta nb nc, mul_right_comm tb na nc, mul_right_comm tc nb na)))
    (cases_lt (ta * nc) (tc * na))

abbrev lighter_at : ℕ → ℕ → ℕ → ℕ → Bool
lighter_at ta na tb nb = nat_lt 0 na && (nb == 0 || nat_lt (ta * nb) (tb * na))

lighter_asym : (ta na tb nb : ℕ) → lighter_at ta na tb nb ≡ true → lighter_at tb nb ta na ≡ false
lighter_asym ta na tb nb h =
    let parts = and_parts (nat_lt 0 na) (nb == 0 || nat_lt (ta * nb) (tb * na)) h in
    let pa : 0 < na = ltb-true 0 na parts.0 in
    ⊎_elim
    (λ z. and_left (nat_lt 0 nb) (na == 0 || nat_lt (tb * na) (ta * nb)) (le-ltb 0 nb (omega (arith, eqb-true nb 0 z))))
    (λ l. and_right (nat_lt 0 nb) (na == 0 || nat_lt (tb * na) (ta * nb)) (or_from (na == 0) (nat_lt (tb * na) (ta * nb)) (ne_eqb na 0 (λ e. omega arith)) (le-ltb (tb * na) (ta * nb) (omega (arith, ltb-true (ta * nb) (tb * na) l)))))
    (or_cases (nb == 0) (nat_lt (ta * nb) (tb * na)) parts.1)

lighter_past : (ta na tb nb tc nc : ℕ) → lighter_at ta na tb nb ≡ true → lighter_at tc nc tb nb ≡ false → lighter_at ta na tc nc ≡ true
lighter_past ta na tb nb tc nc h k =
    let parts = and_parts (nat_lt 0 na) (nb == 0 || nat_lt (ta * nb) (tb * na)) h in
    and_from (nat_lt 0 na) (nc == 0 || nat_lt (ta * nc) (tc * na)) parts.0
    (⊎_elim
    (λ z. or_left (nc == 0) (nat_lt (ta * nc) (tc * na)) (eq-eqb nc 0 z))
    (λ p. or_right (nc == 0) (nat_lt (ta * nc) (tc * na)) (go p parts.1 (rest p)))
    (zero_or nc))
  where
    zero_or : (n : ℕ) → (n ≡ 0) ⊎ (0 < n)
    zero_or zero = inl refl
    zero_or (suc n) = inr (omega arith)

    rest : 0 < nc → (nb == 0 || nat_lt (tc * nb) (tb * nc)) ≡ false
    rest p = ⊎_elim (λ e. absurd (both_ways (nat_lt 0 nc) e (lt-ltb 0 nc p))) (λ e. e) (and_cases (nat_lt 0 nc) (nb == 0 || nat_lt (tc * nb) (tb * nc)) k)

    go : 0 < nc → (nb == 0 || nat_lt (ta * nb) (tb * na)) ≡ true → (nb == 0 || nat_lt (tc * nb) (tb * nc)) ≡ false → nat_lt (ta * nc) (tc * na) ≡ true
    go p f r =
        let r' = or_parts (nb == 0) (nat_lt (tc * nb) (tb * nc)) r in
        let nz : nb ≡ 0 → ⊥ = eqb-false nb 0 r'.0 in
        ⊎_elim
        (λ z. absurd (both_ways (nb == 0) r'.0 z))
        (λ l. lt-ltb (ta * nc) (tc * na) (crossed ta na tb nb tc nc (omega arith) p (ltb-true (ta * nb) (tb * na) l) (ltb-false (tc * nb) (tb * nc) r'.1)))
        (or_cases (nb == 0) (nat_lt (ta * nb) (tb * na)) f)

pub lighter_ranks : (q : Question) → Ranks (lighter q)
lighter_ranks q = record {
  asym = λ a b h. lighter_asym (tries q a) (number q a) (tries q b) (number q b) h;
  past = λ a b c h k. lighter_past (tries q a) (number q a) (tries q b) (number q b) (tries q c) (number q c) h k;
}

-- more than k stays more than k
more_than : (a b : ℕ) (k : ℤ) → int_le (pos a) k ≡ false → a ≤ b → int_le (pos b) k ≡ false
more_than a b (pos n) h l = lt-leb b n (omega (arith, leb-false a n h))
more_than a b (negsuc n) h l = refl

pub fewest_picked : (q : Question) → 0 < q.remaining → q.remaining < 2 ^ 24 → FewestPicked q (fewest q)
fewest_picked q some small = go (int_le (pos (number q few)) q.k) refl
  where
    few : ℕ
    few = least_by (fewer q) q.remaining

    go : (t : Bool) → int_le (pos (number q (least_by (fewer q) q.remaining))) q.k ≡ t → FewestPicked q (cond t (least_by (fewer q) q.remaining) (least_by (lighter q) q.remaining))
    go true e = inl (the_least (fewer q) (fewer_ranks q) q.remaining some small, e)
    go false e = inr (
      the_least (lighter q) (lighter_ranks q) q.remaining some small,
      λ c h. more_than (number q (least_by (fewer q) q.remaining)) (number q c) q.k e (ltb-false (number q c) (number q (least_by (fewer q) q.remaining)) ((the_least (fewer q) (fewer_ranks q) q.remaining some small).least c h)),
    )

pub fewest_remains : (q : Question) → 0 < q.remaining → q.remaining < 2 ^ 24 → has q.remaining (fewest q) ≡ true
fewest_remains q some small = ⊎_elim (λ p. p.0.remains) (λ p. p.0.remains) (fewest_picked q some small)
