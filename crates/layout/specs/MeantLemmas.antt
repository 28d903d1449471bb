-- A layout that keeps the limits means a book that keeps the laws.
use Rattle.std.specs.Prelude.{◌≡◌, ℕ, ◌^◌, ◌<◌, ◌≤◌, Bool, true, false, cond, List, [], length, slice_index_or, refl}
use Rattle.std.proofs.Common.{sym, ap, subst, ◌∙◌, ⊎_elim, arith, pow_pos}
use Rattle.std.proofs.Math.Logic.{∥∥₁_elim}
use Rattle.std.proofs.Math.Bridge.{le_prop}
use Rattle.std.specs.List.{slice_get}
use Rattle.std.proofs.lemmas.List.{get_or_past, length-map}
use Rattle.std.proofs.lemmas.Option.{slice_get_past}
use Rattle.std.proofs.lemmas.Bool.{cases_lt}
use Rattle.model.specs.Prices.{Ops}
use Rattle.model.specs.Books.{BookLaws}
use Rattle.format.specs.House.{Rule, Layout, FitsRule, FitsBody, counts_of}
use Rattle.layout.specs.Meant.{priced, mask_of, place_of, nth_rule, cell_in, planned_in, meaning_of}
use Rattle.layout.specs.Masks.{mask_below}
use Rattle.layout.specs.Cells.{place_local}
use Rattle.layout.specs.Places.{each_at, row_length}

either_way : {P : Type 0} (b : Bool) (p : P) → cond b p p ≡ p
either_way true p = refl
either_way false p = refl

module _ {P : Type 0} (k : Ops P) (cell : ℕ → P) (L : Layout) where
  no_rule' : (r : ℕ) → length L.rules ≤ r → nth_rule L r ≡ record { scope = []; cells = [] }
  no_rule' r h = get_or_past L.rules r (record { scope = []; cells = [] }) h

  counts_length : length (counts_of L) ≡ length L.own
  counts_length = length-map L.own (λ (l : List ℕ). length l)

  pub meant_lawful : (top : ℕ) → ∥ FitsBody top L ∥₁ → BookLaws k (meaning_of k cell L)
  meant_lawful top t = record {
    some_bay = ∥∥₁_elim t le_prop (λ f. f.some);
    few_bays = ∥∥₁_elim t le_prop (λ f. f.few);
    few_rules = ∥∥₁_elim t le_prop (λ f. f.rules_few);
    some_choice = λ i h. ∥∥₁_elim t le_prop (λ f. (each_at (λ n. (1 ≤ n) × (n ≤ 8)) (counts_of L) i 0 f.choices (omega (arith, counts_length))).0);
    few_choices = λ i h. ∥∥₁_elim t le_prop (λ f. (each_at (λ n. (1 ≤ n) × (n ≤ 8)) (counts_of L) i 0 f.choices (omega (arith, counts_length))).1);
    no_bay = λ i h. get_or_past (counts_of L) i 0 (omega (arith, counts_length));
    no_own = λ i j h. ap (priced k cell) (slice_get_past (slice_index_or L.own i []) j (omega (arith, row_length L.own i)));
    own_bays = λ r. ⊎_elim
        (λ lt. ∥∥₁_elim t le_prop (λ f. subst (λ (n : ℕ). mask_of (nth_rule L r).scope < 2 ^ n) counts_length (mask_below 0 (length (counts_of L)) (nth_rule L r).scope (each_at (FitsRule top (counts_of L)) L.rules r (record { scope = []; cells = [] }) f.ruled lt).rises)))
        (λ ge. subst (λ (l : Rule). mask_of l.scope < 2 ^ length L.own) (sym (no_rule' r ge)) (pow_pos (length L.own)))
        (cases_lt r (length L.rules));
    no_rule = λ r h. ap (λ (l : Rule). mask_of l.scope) (no_rule' r h);
    no_price = λ r plan h.
        ap (λ (l : Rule). cond (planned_in L plan) (priced k cell (slice_get l.cells (place_of (counts_of L) plan 0 l.scope))) k.forbidden) (no_rule' r h) ∙ either_way (planned_in L plan) k.forbidden;
    no_plan = λ r plan h. ap (λ (b : Bool). cond b (priced k cell (cell_in L r plan)) k.forbidden) h;
    local = λ r p q hp hq same.
        ap (λ (b : Bool). cond b (priced k cell (cell_in L r p)) k.forbidden) hp ∙
        ap (λ (n : ℕ). priced k cell (slice_get (nth_rule L r).cells n)) (place_local (counts_of L) p q (nth_rule L r).scope 0 same) ∙
        sym (ap (λ (b : Bool). cond b (priced k cell (cell_in L r q)) k.forbidden) hq);
  }
