-- The terms of a book at the start cost what its plans cost, and make neighbours as its rules do.
use Rattle.std.proofs.Common.{◌≡◌, ℕ, zero, suc, ◌+◌, ◌<◌, Bool, true, false, cond, ◌&&◌, ◌||◌, eqb, ltb, List, [], ◌∷◌, map, length, get_or, sym, refl, ap, ◌∙◌, subst, ap₂, ⊎_elim, arith}
use Rattle.std.specs.List.{range_with_len}
use Rattle.std.proofs.lemmas.List.FromFn.{get_or-map-range_with_len}
use Rattle.std.proofs.lemmas.List.{map-append, get_or_past, get_or_default}
use Rattle.std.proofs.lemmas.Bool.{cases_lt, and_parts, and_from, ltb-true, lt-ltb, eqb-true, eqb-false}
use Rattle.model.specs.Prices.{Ops, PriceLaws}
use Rattle.model.specs.Lists.{any}
use Rattle.model.specs.Sets.{has}
use Rattle.model.specs.Books.{Meaning, BookLaws, begins, planned}
use Rattle.model.specs.Plans.{sum_below, owns, charges, plan_price}
use Rattle.model.specs.Course.{linked, course_in, passing_in}
use Rattle.model.specs.Terms.{Plan, Term, cost}
use Rattle.model.specs.Search.{share}
use Rattle.model.specs.Searched.{bytes_in, within, own_term, rule_term, terms_in, TermsPrice, TermsCourse}
use Rattle.model.proofs.Kept.{any_append, counting_more}
use Rattle.model.proofs.Bits.{has_below}
use Rattle.model.proofs.Folds.{cost_append}
use Rattle.model.proofs.Adjacent.{course_agree}

-- a plan, byte by byte
pub begins_from : (choices : ℕ → ℕ) (n : ℕ) (plan : List ℕ) → ((i : ℕ) → i < n → get_or plan i 255 < choices i) → begins choices n plan ≡ true
begins_from choices zero plan h = refl
begins_from choices (suc n) plan h =
    and_from (begins choices n plan) (ltb (get_or plan n 255) (choices n)) (begins_from choices n plan (λ i l. h i (omega arith))) (lt-ltb (get_or plan n 255) (choices n) (h n (omega arith)))

pub begins_at : (choices : ℕ → ℕ) (n : ℕ) (plan : List ℕ) → begins choices n plan ≡ true → (i : ℕ) → i < n → get_or plan i 255 < choices i
begins_at choices zero plan h i l = absurd (omega arith)
begins_at choices (suc n) plan h i l =
    let parts = and_parts (begins choices n plan) (ltb (get_or plan n 255) (choices n)) h in
    ⊎_elim (λ lt. begins_at choices n plan parts.0 i lt)
    (λ ge. let e : n ≡ i = omega arith in subst (λ (x : ℕ). get_or plan x 255 < choices x) e (ltb-true (get_or plan n 255) (choices n) parts.1))
    (cases_lt i n)

module _ {P : Type 0} {o : Ops P} (m : Meaning P) (laws : BookLaws o m) where
  -- a bay of a plan has one of its choices
  pub choice_at : (plan : List ℕ) → planned m plan ≡ true → (i : ℕ) → i < m.bays → get_or plan i 0 < m.choices i
  choice_at plan legal i l =
      let h = begins_at m.choices m.bays plan legal i l in
      let few = laws.few_choices i l in
      ⊎_elim (λ inside. subst (λ (x : ℕ). x < m.choices i) (get_or_default plan i 255 0 inside) h) (λ past. let e = get_or_past plan i 255 past in absurd (omega arith)) (cases_lt i (length plan))

  pub bytes_at : (π : Plan) (i d : ℕ) → i < m.bays → get_or (bytes_in m π) i d ≡ π i
  bytes_at π i d l = get_or-map-range_with_len π 0 m.bays i i d l (omega arith)

  pub bytes_plan : (π : Plan) → ((i : ℕ) → i < m.bays → π i < m.choices i) → planned m (bytes_in m π) ≡ true
  bytes_plan π h = begins_from m.choices m.bays (bytes_in m π) (λ i l. subst (λ (x : ℕ). x < m.choices i) (sym (bytes_at π i 255 l)) (h i l))

  -- a rule's price is that of the plan within its scope
  pub rule_at : (r : ℕ) (π : Plan) (plan : List ℕ) → planned m plan ≡ true → ((i : ℕ) → i < m.bays → π i ≡ get_or plan i 0) → m.price r (bytes_in m (within (m.scope r) π)) ≡ m.price r plan
  rule_at r π plan legal same =
      laws.local r (bytes_in m (within (m.scope r) π)) plan (bytes_plan (within (m.scope r) π) (λ i l. small i l (has (m.scope r) i))) legal
      (λ i t. let l = has_below m.bays (m.scope r) i (laws.own_bays r) t in
      bytes_at (within (m.scope r) π) i 0 l ∙ ap (λ (x : Bool). cond x (π i) 0) t ∙ same i l)
    where
      small : (i : ℕ) → i < m.bays → (t : Bool) → cond t (π i) 0 < m.choices i
      small i l true = subst (λ (x : ℕ). x < m.choices i) (sym (same i l)) (choice_at plan legal i l)
      small i l false = laws.some_choice i l

module _ {P : Type 0} {o : Ops P} (L : PriceLaws o) (π : Plan) where
  cost_sum : (f : ℕ → Term P) (n : ℕ) → cost o (map f (range_with_len 0 n)) π ≡ sum_below o (λ i. (f i).value π) n
  cost_sum f zero = refl
  cost_sum f (suc n) =
      ap (λ (xs : List ℕ). cost o (map f xs) π) (counting_more 0 n)
      ∙ ap (λ (ts : List (Term P)). cost o ts π) (map-append f (range_with_len 0 n) ((0 + n) ∷ []))
      ∙ cost_append L (map f (range_with_len 0 n)) (f (0 + n) ∷ []) π
      ∙ ap₂ o.combine (cost_sum f n) (L.comm ((f (0 + n)).value π) o.free ∙ L.neutral ((f (0 + n)).value π) ∙ ap (λ (k : ℕ). (f k).value π) (omega arith))

sum_same : {P : Type 0} (o : Ops P) (f g : ℕ → P) (n : ℕ) → ((i : ℕ) → i < n → f i ≡ g i) → sum_below o f n ≡ sum_below o g n
sum_same o f g zero h = refl
sum_same o f g (suc n) h = ap₂ o.combine (sum_same o f g n (λ i l. h i (omega arith))) (h n (omega arith))

-- the terms cost what bytes cost that begin with the plan
pub plan_costs : {P : Type 0} {o : Ops P} → PriceLaws o → (m : Meaning P) → BookLaws o m → (plan : List ℕ) (π : Plan) → planned m plan ≡ true → ((i : ℕ) → i < m.bays → π i ≡ get_or plan i 0)
    → cost o (terms_in m) π ≡ plan_price o m plan
unfolding terms_in
plan_costs {o = o} L m laws plan π legal same =
    cost_append L (map (own_term m) (range_with_len 0 m.bays)) (map (rule_term m) (range_with_len 0 m.rules)) π
    ∙ ap₂ o.combine
    (cost_sum L π (own_term m) m.bays ∙ sum_same o (λ i. m.own i (π i)) (λ i. m.own i (get_or plan i 0)) m.bays (λ i l. ap (m.own i) (same i l)))
    (cost_sum L π (rule_term m) m.rules ∙ sum_same o (λ r. m.price r (bytes_in m (within (m.scope r) π))) (λ r. m.price r plan) m.rules (λ r l. rule_at m laws r π plan legal same))
    ∙ sym (ap (λ (t : Bool). cond t (o.combine (owns o m plan m.bays) (charges o m plan m.rules)) o.forbidden) legal)

pub terms_price : {P : Type 0} → TermsPrice P
terms_price o L m laws plan legal = plan_costs L m laws plan (λ i. get_or plan i 0) legal (λ i l. refl)

-- neighbours at the start
pub any_map : {A : Type 0} (p : A → Bool) (f : ℕ → A) (xs : List ℕ) → any p (map f xs) ≡ any (λ i. p (f i)) xs
any_map p f [] = refl
any_map p f (x ∷ xs) = ap (λ (t : Bool). p (f x) || t) (any_map p f xs)

module _ {P : Type 0} (m : Meaning P) where
  no_own : (i j : ℕ) → eqb j i ≡ false → (xs : List ℕ) → any (λ (t : Term P). t.scope i && t.scope j) (map (own_term m) xs) ≡ false
  no_own i j ne [] = refl
  no_own i j ne (b ∷ xs) = ap₂ (λ (x y : Bool). x || y) (go (eqb i b) refl (eqb j b) refl) (no_own i j ne xs)
    where
      go : (x : Bool) → eqb i b ≡ x → (y : Bool) → eqb j b ≡ y → (x && y) ≡ false
      go true e true f = absurd (eqb-false j i ne (eqb-true j b f ∙ sym (eqb-true i b e)))
      go true e false f = refl
      go false e y f = refl

  pub share_linked : (i j : ℕ) → eqb j i ≡ false → share (terms_in m) i j ≡ linked m i j
  unfolding terms_in
  share_linked i j ne =
      any_append (λ (t : Term P). t.scope i && t.scope j) (map (own_term m) (range_with_len 0 m.bays)) (map (rule_term m) (range_with_len 0 m.rules))
      ∙ ap₂ (λ (x y : Bool). x || y) (no_own i j ne (range_with_len 0 m.bays)) (any_map (λ (t : Term P). t.scope i && t.scope j) (rule_term m) (range_with_len 0 m.rules))

pub terms_course : {P : Type 0} → TermsCourse P
unfolding course_in
terms_course m pick k cells = course_agree (passing_in m pick k) m.bays (range_with_len 0 m.bays) (share (terms_in m)) (linked m) cells (λ i j p q e. share_linked m i j e)
