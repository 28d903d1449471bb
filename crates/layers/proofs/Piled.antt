-- What layers do to plans and neighbours.
use Rattle.std.proofs.Common.{◌≡◌, ℕ, zero, suc, ◌+◌, ◌<◌, ◌≤◌, Bool, true, false, cond, ◌&&◌, ◌||◌, eqb, ltb, List, get_or, Some, None, Option, sym, refl, ap, ◌∙◌, ap₂, ⊎_elim, arith}
use Rattle.std.specs.List.{range_with_len}
use Rattle.std.proofs.lemmas.Bool.{cases_lt, eqb-true, eq-eqb, ne_eqb, lt-ltb, le-ltb, ltb-true, both_ways}
use Rattle.model.specs.Books.{Meaning, begins, planned}
use Rattle.model.specs.Lists.{any}
use Rattle.model.specs.Plans.{sum_below, owns, charges, plan_price}
use Rattle.model.specs.Prices.{Ops, PriceLaws}
use Rattle.model.specs.Sets.{has}
use Rattle.layers.specs.Layers.{quiet, is_off, suspended, under_pin, pinned}
use Rattle.layers.specs.Piles.{Silent, Barred, Bars, Alike, Unheard}

-- sums of the same prices
sum_same : {P : Type 0} (o : Ops P) (f g : ℕ → P) (n : ℕ) → ((i : ℕ) → i < n → f i ≡ g i) → sum_below o f n ≡ sum_below o g n
sum_same o f g zero h = refl
sum_same o f g (suc n) h = ap₂ o.combine (sum_same o f g n (λ i l. h i (omega arith))) (h n (omega arith))

-- a sum with a forbidden price is forbidden
sum_forbidden : {P : Type 0} (o : Ops P) → PriceLaws o → (f : ℕ → P) (n i : ℕ) → i < n → f i ≡ o.forbidden → sum_below o f n ≡ o.forbidden
sum_forbidden o laws f zero i h e = absurd (omega arith)
sum_forbidden o laws f (suc n) i h e =
    ⊎_elim
    (λ l. ap (λ x. o.combine x (f n)) (sum_forbidden o laws f n i l e) ∙ laws.absorbs (f n))
    (λ g. let same : i ≡ n = omega arith in ap (λ x. o.combine (sum_below o f n) x) (ap f (sym same) ∙ e) ∙ laws.comm (sum_below o f n) o.forbidden ∙ laws.absorbs (sum_below o f n))
    (cases_lt i n)

any_same : (p q : ℕ → Bool) (a n : ℕ) → ((i : ℕ) → i < a + n → p i ≡ q i) → any p (range_with_len a n) ≡ any q (range_with_len a n)
any_same p q a zero h = refl
any_same p q a (suc n) h = ap₂ (λ (x y : Bool). x || y) (h a (omega arith)) (any_same p q (a + 1) n (λ i l. h i (omega arith)))

module _ {P : Type 0} (o : Ops P) where
  -- the same own prices and the same charges make the same price
  price_same : (m n : Meaning P) (plan : List ℕ) → m.bays ≡ n.bays → m.rules ≡ n.rules → m.choices ≡ n.choices
      → ((i : ℕ) → i < m.bays → m.own i (get_or plan i 0) ≡ n.own i (get_or plan i 0)) → ((r : ℕ) → r < m.rules → m.price r plan ≡ n.price r plan) → plan_price o m plan ≡ plan_price o n plan
  price_same m n plan bays rules choices own price =
      ap₂ (λ (t : Bool) (p : P). cond t p o.forbidden)
      (ap₂ (λ (f : ℕ → ℕ) (k : ℕ). begins f k plan) choices bays)
      (ap₂ o.combine
      (sum_same o (λ i. m.own i (get_or plan i 0)) (λ i. n.own i (get_or plan i 0)) m.bays own ∙ ap (owns o n plan) bays)
      (sum_same o (λ r. m.price r plan) (λ r. n.price r plan) m.rules price ∙ ap (charges o n plan) rules))

  pin_kept : (pin : Option ℕ) (j : ℕ) (p : P) → ((c : ℕ) → pin ≡ Some c → j ≡ c) → under_pin o pin j p ≡ p
  pin_kept None j p h = refl
  pin_kept (Some c) j p h = ap (λ (t : Bool). cond t p o.forbidden) (eq-eqb c j (sym (h c refl)))

  in_force : (m : Meaning P) (off : List Bool) (r : ℕ) → r < m.rules → get_or off r false ≡ false → is_off off m r ≡ false
  in_force m off r l h = ap₂ (λ (x y : Bool). x && y) (lt-ltb r m.rules l) h

  pub layers_silent : (m : Meaning P) (plan : List ℕ) → Silent o m plan
  layers_silent m plan = record {
    pins = λ pins keeps. price_same (pinned o pins m) m plan refl refl refl (λ i l. pin_kept (get_or pins i None) (get_or plan i 0) (m.own i (get_or plan i 0)) (λ c e. keeps i c l e)) (λ r l. refl);
    hours = λ last keeps. price_same (quiet o last m) m plan refl refl refl (λ i l. hour i last (keeps i l)) (λ r l. refl);
    rules = λ off force. price_same (suspended o off m) m plan refl refl refl (λ i l. refl) (λ r l. ap (λ (t : Bool). cond (t && planned m plan) o.free (m.price r plan)) (in_force m off r l (force r l)));
  }
    where
      off_hour : (t u : Bool) (x y : P) → (t ≡ true → u ≡ false) → cond (t && u) x y ≡ y
      off_hour true u x y h = ap (λ (v : Bool). cond v x y) (h refl)
      off_hour false u x y h = refl

      hour : (i : ℕ) (last : List ℕ) → (i < 24 → get_or plan i 0 ≤ get_or last i 0) → cond (ltb i 24 && ltb (get_or last i 0) (get_or plan i 0)) o.forbidden (m.own i (get_or plan i 0)) ≡ m.own i (get_or plan i 0)
      hour i last keeps =
          off_hour (ltb i 24) (ltb (get_or last i 0) (get_or plan i 0)) o.forbidden (m.own i (get_or plan i 0))
          (λ e. le-ltb (get_or last i 0) (get_or plan i 0) (keeps (ltb-true i 24 e)))

  -- a plan that is barred
  barred_forbids : PriceLaws o → (m : Meaning P) (plan : List ℕ) → Barred o m plan → plan_price o m plan ≡ o.forbidden
  barred_forbids laws m plan b =
      ap (λ x. cond (planned m plan) (o.combine x (charges o m plan m.rules)) o.forbidden) (sum_forbidden o laws (λ i. m.own i (get_or plan i 0)) m.bays b.bay b.there b.price)
      ∙ ap (λ x. cond (planned m plan) x o.forbidden) (laws.absorbs (charges o m plan m.rules))
      ∙ either_way (planned m plan) o.forbidden
    where
      either_way : (t : Bool) (x : P) → cond t x x ≡ x
      either_way true x = refl
      either_way false x = refl

  pin_bars : (pin : Option ℕ) (j c : ℕ) (p : P) → pin ≡ Some c → (j ≡ c → ⊥) → under_pin o pin j p ≡ o.forbidden
  pin_bars pin j c p e ne = ap (λ x. under_pin o x j p) e ∙ ap (λ (t : Bool). cond t p o.forbidden) (ne_eqb c j (λ s. ne (sym s)))

  pin_stays : (pin : Option ℕ) (j : ℕ) (p : P) → p ≡ o.forbidden → under_pin o pin j p ≡ o.forbidden
  pin_stays None j p e = e
  pin_stays (Some c) j p e = go (eqb c j)
    where
      go : (t : Bool) → cond t p o.forbidden ≡ o.forbidden
      go true = e
      go false = refl

  hour_stays : (t : Bool) (p : P) → p ≡ o.forbidden → cond t o.forbidden p ≡ o.forbidden
  hour_stays true p e = refl
  hour_stays false p e = e

  pub layers_bar : PriceLaws o → (m : Meaning P) (plan : List ℕ) → Bars o m plan
  layers_bar laws m plan = record {
    pin = λ pins b c l e ne. record { bay = b; there = l; price = pin_bars (get_or pins b None) (get_or plan b 0) c (m.own b (get_or plan b 0)) e ne };
    hour = λ last b l few late. record {
      bay = b;
      there = l;
      price = ap₂ (λ (x y : Bool). cond (x && y) o.forbidden (m.own b (get_or plan b 0))) (lt-ltb b 24 few) (lt-ltb (get_or last b 0) (get_or plan b 0) late);
    };
    under_pins = λ pins x. record { bay = x.bay; there = x.there; price = pin_stays (get_or pins x.bay None) (get_or plan x.bay 0) (m.own x.bay (get_or plan x.bay 0)) x.price };
    under_hours = λ last x. record { bay = x.bay; there = x.there; price = hour_stays (ltb x.bay 24 && ltb (get_or last x.bay 0) (get_or plan x.bay 0)) (m.own x.bay (get_or plan x.bay 0)) x.price };
    under_suspensions = λ off x. record { bay = x.bay; there = x.there; price = x.price };
    forbids = barred_forbids laws m plan;
  }

  -- a suspended rule is not heard
  module _ (off : List Bool) (r : ℕ) (m n : Meaning P) (suspends : get_or off r false ≡ true) (alike : Alike r m n) where
    planned_same : (plan : List ℕ) → planned m plan ≡ planned n plan
    planned_same plan = ap₂ (λ (f : ℕ → ℕ) (k : ℕ). begins f k plan) alike.choices alike.bays

    off_same : (s : ℕ) → is_off off m s ≡ is_off off n s
    off_same s = ap (λ (k : ℕ). ltb s k && get_or off s false) alike.rules

    off_here : (s : ℕ) → s ≡ r → s < m.rules → is_off off n s ≡ true
    off_here s e l = ap₂ (λ (x y : Bool). x && y) (lt-ltb s n.rules (omega (arith, alike.rules))) (ap (λ (k : ℕ). get_or off k false) e ∙ suspends)

    price_heard : (plan : List ℕ) (s : ℕ) → planned m plan ≡ true → s < m.rules → (suspended o off m).price s plan ≡ (suspended o off n).price s plan
    price_heard plan s plans l = go (eqb s r) refl
      where
        same : cond (is_off off m s && planned m plan) o.free (m.price s plan) ≡ cond (is_off off n s && planned n plan) o.free (m.price s plan)
        same = ap₂ (λ (x y : Bool). cond (x && y) o.free (m.price s plan)) (off_same s) (planned_same plan)

        go : (t : Bool) → eqb s r ≡ t → (suspended o off m).price s plan ≡ (suspended o off n).price s plan
        go true e =
            ap₂ (λ (x y : Bool). cond (x && y) o.free (m.price s plan)) (off_same s ∙ off_here s (eqb-true s r e) l) plans
            ∙ sym (ap₂ (λ (x y : Bool). cond (x && y) o.free (n.price s plan)) (off_here s (eqb-true s r e) l) (sym (planned_same plan) ∙ plans))
        go false e = same ∙ ap (λ x. cond (is_off off n s && planned n plan) o.free x) (alike.price s plan (λ q. both_ways (eqb s r) e (eq-eqb s r q)))

    scope_heard : (s : ℕ) → s < m.rules → (suspended o off m).scope s ≡ (suspended o off n).scope s
    scope_heard s l = go (eqb s r) refl
      where
        go : (t : Bool) → eqb s r ≡ t → (suspended o off m).scope s ≡ (suspended o off n).scope s
        go true e =
            ap (λ (t : Bool). cond t 0 (m.scope s)) (off_same s ∙ off_here s (eqb-true s r e) l)
            ∙ sym (ap (λ (t : Bool). cond t 0 (n.scope s)) (off_here s (eqb-true s r e) l))
        go false e = ap₂ (λ (t : Bool) (k : ℕ). cond t 0 k) (off_same s) (alike.scope s (λ q. both_ways (eqb s r) e (eq-eqb s r q)))

    own_same : (plan : List ℕ) (i : ℕ) → m.own i (get_or plan i 0) ≡ n.own i (get_or plan i 0)
    own_same plan i = ap (λ (f : ℕ → ℕ → P). f i (get_or plan i 0)) alike.own

    price_unheard : (plan : List ℕ) → plan_price o (suspended o off m) plan ≡ plan_price o (suspended o off n) plan
    price_unheard plan = go (planned m plan) refl
      where
        go : (t : Bool) → planned m plan ≡ t → plan_price o (suspended o off m) plan ≡ plan_price o (suspended o off n) plan
        go true e = price_same (suspended o off m) (suspended o off n) plan alike.bays alike.rules alike.choices (λ i l. own_same plan i) (λ s l. price_heard plan s e l)
        go false e =
            ap (λ (t : Bool). cond t (o.combine (owns o (suspended o off m) plan m.bays) (charges o (suspended o off m) plan m.rules)) o.forbidden) e
            ∙ sym (ap (λ (t : Bool). cond t (o.combine (owns o (suspended o off n) plan n.bays) (charges o (suspended o off n) plan n.rules)) o.forbidden) (sym (planned_same plan) ∙ e))

    links : (off : List Bool) (m : Meaning P) (i j r : ℕ) → Bool
    links off m i j r = has ((suspended o off m).scope r) i && has ((suspended o off m).scope r) j

    pub unheard : Unheard o off m n
    unfolding links
    unheard = record {
      price = price_unheard;
      neighbours = λ i j.
          any_same (links off m i j) (links off n i j) 0 m.rules (λ s l. ap (λ (k : ℕ). has k i && has k j) (scope_heard s (omega arith)))
          ∙ ap (λ (k : ℕ). any (links off n i j) (range_with_len 0 k)) alike.rules;
    }
