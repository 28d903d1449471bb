-- What the search of a book promises.
use Rattle.std.proofs.Common.{◌≡◌, ℕ, ◌<◌, Bool, true, false, ◌||◌, eqb, List, [], ◌∷◌, map, get_or, ℤ, sym, refl, ap, ◌∙◌, subst, ⊎_elim}
use mathlib.Core.Option.{Option, none, some}
use Rattle.std.specs.List.{range_with_len}
use Rattle.std.proofs.lemmas.List.FromFn.{length-range_with_len}
use Rattle.std.proofs.lemmas.Bool.{ltb-true, lt-ltb, eqb-true, both_ways, or_cases, or_right}
use Rattle.model.specs.Prices.{Ops, PriceLaws}
use Rattle.model.specs.Lists.{any, member}
use Rattle.model.specs.Sets.{has}
use Rattle.model.specs.Books.{Meaning, BookLaws, planned}
use Rattle.model.specs.Plans.{plan_price}
use Rattle.model.specs.Course.{Answers, Line, course, passing_in, course_in, forecast}
use Rattle.model.specs.Terms.{Plan, Term, Legal}
use Rattle.model.specs.Search.{Sofar, share}
use Rattle.model.specs.SearchClaims.{Honest, Cheapest, Counts}
use Rattle.model.specs.Searched.{bytes_in, own_term, rule_term, terms_in, setup_in, search_in, Below, NoneBelow, Promise, SearchKeeps}
use Rattle.model.proofs.Kept.{any_append, member_counting}
use Rattle.model.proofs.Bits.{has_below}
use Rattle.model.proofs.Floors.{floor_bounds}
use Rattle.model.proofs.Least.{search_cheapest}
use Rattle.model.proofs.Visits.{search_counts}
use Rattle.model.proofs.Ordered.{member_head}
use Rattle.model.proofs.Costs.{choice_at, bytes_at, bytes_plan, plan_costs, any_map, terms_course}

bay_in : (n i : ℕ) → member i (range_with_len 0 n) ≡ true → i < n
bay_in n i e = ltb-true i n (sym (member_counting n i) ∙ e)

in_bay : (n i : ℕ) → i < n → member i (range_with_len 0 n) ≡ true
in_bay n i l = member_counting n i ∙ lt-ltb i n l

-- one that passes
any_some : (q : ℕ → Bool) (xs : List ℕ) → any q xs ≡ true → (j : ℕ) × (q j ≡ true) × (member j xs ≡ true)
any_some q [] e = absurd (both_ways false refl e)
any_some q (x ∷ xs) e = go (q x) refl e (any_some q xs)
  where
    go : (y : Bool) → q x ≡ y → (y || any q xs) ≡ true → (any q xs ≡ true → (j : ℕ) × (q j ≡ true) × (member j xs ≡ true)) → (j : ℕ) × (q j ≡ true) × (member j (x ∷ xs) ≡ true)
    go true h k f = (x, h, member_head x xs)
    go false h k f = let r = f k in (r.0, r.1, or_right (eqb r.0 x) _ r.2)

module _ {P : Type 0} (o : Ops P) (L : PriceLaws o) (m : Meaning P) (laws : BookLaws o m) where
  -- no term touches a bay that the book lacks
  inside : (i : ℕ) → any (λ (t : Term P). t.scope i) (terms_in m) ≡ true → member i (range_with_len 0 m.bays) ≡ true
  unfolding terms_in
  inside i e =
      ⊎_elim
      (λ h. let w = any_some (λ b. eqb i b) (range_with_len 0 m.bays) (sym (any_map (λ (t : Term P). t.scope i) (own_term m) (range_with_len 0 m.bays)) ∙ h) in
      subst (λ (j : ℕ). member j (range_with_len 0 m.bays) ≡ true) (sym (eqb-true i w.0 w.1)) w.2)
      (λ h. let w = any_some (λ r. has (m.scope r) i) (range_with_len 0 m.rules) (sym (any_map (λ (t : Term P). t.scope i) (rule_term m) (range_with_len 0 m.rules)) ∙ h) in
      in_bay m.bays i (has_below m.bays (m.scope w.0) i (laws.own_bays w.0) w.1))
      (or_cases (any (λ (t : Term P). t.scope i) (map (own_term m) (range_with_len 0 m.bays))) _
      (sym (any_append (λ (t : Term P). t.scope i) (map (own_term m) (range_with_len 0 m.bays)) (map (rule_term m) (range_with_len 0 m.rules))) ∙ e))

  legal_of : (q : List ℕ) → planned m q ≡ true → Legal m.choices (range_with_len 0 m.bays) (λ i. get_or q i 0)
  legal_of q legal i e = choice_at m laws q legal i (bay_in m.bays i e)

  module _ (pick : Answers) (k : ℤ) (limit cells : ℕ) (ceiling : P) where
    answered : Cheapest (setup_in o m pick k limit) (range_with_len 0 m.bays) (terms_in m) ceiling (search_in o m pick k limit cells ceiling)
    unfolding search_in
    answered =
        search_cheapest (setup_in o m pick k limit) L (floor_bounds (setup_in o m pick k limit) L refl) (range_with_len 0 m.bays)
        (λ i e. laws.some_choice i (bay_in m.bays i e)) (terms_in m) inside cells ceiling

    counted : Counts (forecast (course_in m pick k cells)) limit (search_in o m pick k limit cells ceiling)
    unfolding search_in
    counted = subst (λ (ls : List Line). Counts (forecast ls) limit (search_in o m pick k limit cells ceiling))
        (ap (λ (n : ℕ). course (passing_in m pick k) n (range_with_len 0 m.bays) (share (terms_in m)) cells) (length-range_with_len 0 m.bays) ∙ terms_course m pick k cells)
        (search_counts (setup_in o m pick k limit) (range_with_len 0 m.bays) (terms_in m) cells ceiling)

    promised : (s : Sofar P) → Cheapest (setup_in o m pick k limit) (range_with_len 0 m.bays) (terms_in m) ceiling s → Counts (forecast (course_in m pick k cells)) limit s → Promise o m (forecast (course_in m pick k cells)) limit ceiling s
    promised s a c = record { found = found; cheapest = cheapest; ended = ended; no_plan = no_plan s.plan refl; counts = c }
      where
        honest : (p : Option Plan) → s.plan ≡ p → Honest (setup_in o m pick k limit) (range_with_len 0 m.bays) (terms_in m) ceiling p s.best
        honest p e = subst (λ (p : Option Plan). Honest (setup_in o m pick k limit) (range_with_len 0 m.bays) (terms_in m) ceiling p s.best) e a.honest

        found : (π : Plan) → s.plan ≡ some π → Below o m ceiling s.best (bytes_in m π)
        found π e =
            let h = honest (some π) e in
            let legal = bytes_plan m laws π (λ i l. h.0 i (in_bay m.bays i l)) in
            record {
              is_plan = legal;
              costs = sym (plan_costs L m laws (bytes_in m π) π legal (λ i l. sym (bytes_at m laws π i 0 l))) ∙ h.1;
              below = h.2;
            }

        cheapest : s.stopped ≡ false → NoneBelow o m s.best
        cheapest going q legal =
            subst (λ (p : P). o.at_most s.best p ≡ true) (plan_costs L m laws q (λ i. get_or q i 0) legal (λ i l. refl)) (a.cheapest going (λ i. get_or q i 0) (legal_of q legal))

        ended : s.stopped ≡ false → s.plan ≡ none → NoneBelow o m ceiling
        ended going e q legal = subst (λ (p : P). o.at_most p (plan_price o m q) ≡ true) (honest none e) (cheapest going q legal)

        no_plan : (p : Option Plan) → s.plan ≡ p → NoneBelow o m ceiling → s.plan ≡ none
        no_plan none e all = e
        no_plan (some π) e all =
            let h = found π e in
            absurd (both_ways _ h.below (subst (λ (p : P). o.at_most ceiling p ≡ true) h.costs (all (bytes_in m π) h.is_plan)))

pub search_keeps : {P : Type 0} → SearchKeeps P
search_keeps o L m laws pick k limit cells ceiling =
    promised o L m laws pick k limit cells ceiling (search_in o m pick k limit cells ceiling) (answered o L m laws pick k limit cells ceiling) (counted o L m laws pick k limit cells ceiling)
