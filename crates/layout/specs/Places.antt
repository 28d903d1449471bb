-- What stands at the places of an index.
use Rattle.std.specs.Prelude.{◌≡◌, ℕ, zero, suc, ◌+◌, ◌-◌, ◌*◌, ◌<◌, ◌≤◌, true, List, [], ◌∷◌, map, length, get_or, take, drop, Some, None, slice_index, slice_index_or, refl}
use Rattle.std.proofs.Common.{sym, ap, ◌∙◌, ⊎_elim, add-zero, arith}
use Rattle.std.proofs.Math.Logic.{∥∥₁_elim}
use Rattle.std.proofs.Math.Bridge.{le_prop}
use Rattle.std.specs.List.{slice_get}
use Rattle.std.proofs.lemmas.List.FromFn.{length-map-range_with_len, get_or-map-range_with_len}
use Rattle.std.proofs.lemmas.List.{take_rest, drop-drop, get_or-drop, get_or_past, length-take-le, length-drop, length-map, ext_get_or}
use Rattle.std.proofs.lemmas.Option.{slice_get-get_or, slice_get_past}
use Rattle.std.proofs.lemmas.Bool.{cases_lt}
use Rattle.format.specs.Pieces.{number}
use Rattle.model.specs.Lists.{Each}
use Rattle.format.specs.House.{cells_in, Rule}
use Rattle.format.specs.House.{Rising, FitsRule, counts_of}
use Rattle.reader.specs.Places.{price_at, cells_at, choices_at, rule_at, scope_at, table_at}
use Rattle.reader.specs.Indexed.{items, Found, layout_by}
use Rattle.layout.specs.Meant.{mask_of, place_of, choices_in, own_in, cell_in, nth_rule, planned_in}
use Rattle.reader.specs.declared.places.Index.{Index}
use Rattle.layout.specs.Cells.{place_below, begins_at, begins_long}

pub each_at : {A : Type 0} (P : A → Type 0) (xs : List A) (i : ℕ) (d : A) → Each P xs → i < length xs → P (slice_index_or xs i d)
each_at P [] i d e h = absurd (omega arith)
each_at P (x ∷ xs) zero d e h = e.0
each_at P (x ∷ xs) (suc i) d e h = each_at P xs i d e.1 (omega arith)

rising_at : (lo bays : ℕ) (scope : List ℕ) → Rising lo bays scope → (i : ℕ) → i < length scope → slice_index scope i < bays
rising_at lo bays [] r i h = absurd (omega arith)
rising_at lo bays (b ∷ scope) r zero h = r.0.1
rising_at lo bays (b ∷ scope) r (suc i) h = rising_at (b + 1) bays scope r.1 i (omega arith)

pub row_length : (xs : List (List ℕ)) (i : ℕ) → slice_index (map length xs) i ≡ length (slice_index_or xs i [])
row_length [] i = refl
row_length (x ∷ xs) zero = refl
row_length (x ∷ xs) (suc i) = row_length xs i

module _ (bs : List ℕ) (x : Index) where
  price_from : (k j : ℕ) → price_at (drop k bs) j ≡ price_at bs (k + j)
  price_from k j = ap (λ (l : List ℕ). number (take 4 l)) (drop-drop j k bs)

  first_from : (at : ℕ) (rest : List ℕ) → rest ≡ drop at bs → slice_index rest 0 ≡ slice_index bs at
  first_from at rest is = ap (λ (l : List ℕ). slice_index l 0) is ∙ get_or-drop at bs 0 0 ∙ ap (λ (n : ℕ). slice_index bs n) (add-zero at)

  pub bays_is : length (items x.own_at) ≡ length (layout_by bs x).own
  bays_is = sym (length-map-range_with_len (λ i. cells_at bs (slice_index (items x.own_at) i) (slice_index (choices_at bs (length (items x.own_at))) i)) 0 (length (items x.own_at)))

  pub counts_long : length (counts_of (layout_by bs x)) ≡ length (items x.own_at)
  counts_long = length-map (layout_by bs x).own (λ (l : List ℕ). length l) ∙ sym bays_is

  pub rules_is : length (items x.rule_at) ≡ length (layout_by bs x).rules
  rules_is = sym (length-map-range_with_len (λ r. rule_at bs (choices_at bs (length (items x.own_at))) (slice_index (items x.rule_at) r)) 0 (length (items x.rule_at)))

  row_is : (i : ℕ) → i < length (items x.own_at) → slice_index_or (layout_by bs x).own i [] ≡ cells_at bs (slice_index (items x.own_at) i) (slice_index (choices_at bs (length (items x.own_at))) i)
  row_is i h = get_or-map-range_with_len (λ i. cells_at bs (slice_index (items x.own_at) i) (slice_index (choices_at bs (length (items x.own_at))) i)) 0 (length (items x.own_at)) i i [] h (omega arith)

  pub rule_is : (r : ℕ) → r < length (items x.rule_at) → nth_rule (layout_by bs x) r ≡ rule_at bs (choices_at bs (length (items x.own_at))) (slice_index (items x.rule_at) r)
  rule_is r h = get_or-map-range_with_len (λ r. rule_at bs (choices_at bs (length (items x.own_at))) (slice_index (items x.rule_at) r)) 0 (length (items x.rule_at)) r r (record { scope = []; cells = [] }) h (omega arith)

  -- the choices of a bay
  choices_are : (i : ℕ) → i < length (items x.own_at) → choices_in (layout_by bs x) i ≡ slice_index (choices_at bs (length (items x.own_at))) i
  choices_are i h = row_length (layout_by bs x).own i ∙ ap length (row_is i h) ∙ length-map-range_with_len (λ k. price_at bs (slice_index (items x.own_at) i + 4 * k)) 0 (slice_index (choices_at bs (length (items x.own_at))) i)

  pub choices_past : (i : ℕ) → length (items x.own_at) ≤ i → choices_in (layout_by bs x) i ≡ 0
  choices_past i h = get_or_past (map length (layout_by bs x).own) i 0 (omega (arith, length-map (layout_by bs x).own (λ (l : List ℕ). length l), bays_is))

  pub bay_in : (i j : ℕ) → j < choices_in (layout_by bs x) i → i < length (items x.own_at)
  bay_in i j h = ⊎_elim (λ lt. lt) (λ ge. absurd (omega (arith, choices_past i ge))) (cases_lt i (length (items x.own_at)))

  -- own prices
  pub own_some : (i j : ℕ) → j < choices_in (layout_by bs x) i → Some (price_at bs (slice_index (items x.own_at) i + 4 * j)) ≡ own_in (layout_by bs x) i j
  own_some i j h =
      let lt : i < length (items x.own_at) = bay_in i j h in
      let n : ℕ = get_or (choices_at bs (length (items x.own_at))) i 0 in
      let few : j < n = omega (arith, choices_are i lt) in
      let row : List ℕ = cells_at bs (slice_index (items x.own_at) i) n in
      let long : length row ≡ n = length-map-range_with_len (λ k. price_at bs (slice_index (items x.own_at) i + 4 * k)) 0 n in
      sym (ap (λ l. slice_get l j) (row_is i lt) ∙ slice_get-get_or row j 0 (omega arith) ∙ ap Some (get_or-map-range_with_len (λ k. price_at bs (slice_index (items x.own_at) i + 4 * k)) 0 n j j 0 few (omega arith)))

  pub own_none : (i j : ℕ) → choices_in (layout_by bs x) i ≤ j → None ≡ own_in (layout_by bs x) i j
  own_none i j h = sym (slice_get_past (slice_index_or (layout_by bs x).own i []) j (omega (arith, row_length (layout_by bs x).own i)))

  module _ (t : ∥ Found bs x ∥₁) where
    pub few_bays : length (items x.own_at) ≤ 24
    few_bays = ∥∥₁_elim t le_prop (λ f. omega (arith, f.fits.few, bays_is))

    pub few_rules : length (items x.rule_at) ≤ 64
    few_rules = ∥∥₁_elim t le_prop (λ f. omega (arith, f.fits.rules_few, rules_is))

    pub few_choices : (i : ℕ) → choices_in (layout_by bs x) i ≤ 8
    few_choices i = ∥∥₁_elim t le_prop (λ f.
        ⊎_elim (λ lt. (each_at (λ n. (1 ≤ n) × (n ≤ 8)) (counts_of (layout_by bs x)) i 0 f.fits.choices lt).1)
        (λ ge. omega (arith, get_or_past (counts_of (layout_by bs x)) i 0 ge))
        (cases_lt i (length (counts_of (layout_by bs x)))))

    pub counts_in : 2 + length (items x.own_at) ≤ length bs
    counts_in = ∥∥₁_elim t le_prop (λ f. f.counts)

    pub own_inside : (i j : ℕ) → j < choices_in (layout_by bs x) i → slice_index (items x.own_at) i + 4 * j + 4 ≤ length bs
    own_inside i j h = ∥∥₁_elim t le_prop (λ f. omega (arith, f.rows i (bay_in i j h), choices_are i (bay_in i j h)))

    pub rule_inside : (r : ℕ) → r < length (items x.rule_at) → table_at bs (slice_index (items x.rule_at) r) + 4 * cells_in (choices_at bs (length (items x.own_at))) (scope_at bs (slice_index (items x.rule_at) r)) ≤ length bs
    rule_inside r h = ∥∥₁_elim t le_prop (λ f. f.tables r h)

    pub scope_length : (r : ℕ) → r < length (items x.rule_at) → length (nth_rule (layout_by bs x) r).scope ≡ slice_index bs (slice_index (items x.rule_at) r)
    scope_length r h =
        let at : ℕ = get_or (items x.rule_at) r 0 in
        ap (λ (l : Rule). length l.scope) (rule_is r h) ∙ length-take-le (slice_index bs at) (drop (at + 1) bs) (omega (arith, rule_inside r h, length-drop (at + 1) bs))

    -- a rule that the book has keeps the limits
    pub few_scope : (r : ℕ) → r < length (items x.rule_at) → length (nth_rule (layout_by bs x) r).scope ≤ 4
    few_scope r h = ∥∥₁_elim t le_prop (λ f. (each_at (FitsRule 4294967295 (counts_of (layout_by bs x))) (layout_by bs x).rules r (record { scope = []; cells = [] }) f.fits.ruled (omega (arith, rules_is))).few)

    -- the bays of a rule are bays of the book
    pub scope_within : (r : ℕ) → r < length (items x.rule_at) → (i : ℕ) → i < length (nth_rule (layout_by bs x) r).scope → slice_index (nth_rule (layout_by bs x) r).scope i < length (items x.own_at)
    scope_within r h i l = ∥∥₁_elim t le_prop (λ f.
        let fit = each_at (FitsRule 4294967295 (counts_of (layout_by bs x))) (layout_by bs x).rules r (record { scope = []; cells = [] }) f.fits.ruled (omega (arith, rules_is)) in
        omega (arith, rising_at 0 (length (counts_of (layout_by bs x))) (nth_rule (layout_by bs x) r).scope fit.rises i l, length-map (layout_by bs x).own (λ (l : List ℕ). length l), bays_is))

    -- as many choices are cut out as the book has bays
    pub counts_length : length (take (2 + length (items x.own_at) - 2) (drop 2 bs)) ≡ length (items x.own_at)
    counts_length =
        let k : 2 + length (items x.own_at) - 2 ≡ length (items x.own_at) = omega arith in
        ap (λ (j : ℕ). length (take j (drop 2 bs))) k ∙ length-take-le (length (items x.own_at)) (drop 2 bs) (omega (arith, counts_in, length-drop 2 bs))

    pub plan_long : (plan : List ℕ) → planned_in (layout_by bs x) plan ≡ true → length (items x.own_at) ≤ length plan
    plan_long plan e =
        omega (arith, bays_is, begins_long (choices_in (layout_by bs x)) (length (layout_by bs x).own) plan (λ i. omega (arith, few_choices i)) e)

    pub counts_same : counts_of (layout_by bs x) ≡ choices_at bs (length (items x.own_at))
    counts_same = ext_get_or 0 (counts_of (layout_by bs x)) (choices_at bs (length (items x.own_at)))
        (length-map (layout_by bs x).own (λ (l : List ℕ). length l) ∙ sym bays_is ∙ sym (length-take-le (length (items x.own_at)) (drop 2 bs) (omega (arith, counts_in, length-drop 2 bs))))
        (λ i h. choices_are i (omega (arith, length-map (layout_by bs x).own (λ (l : List ℕ). length l), bays_is)))

    place_inside : (r : ℕ) (plan : List ℕ) → r < length (items x.rule_at) → planned_in (layout_by bs x) plan ≡ true → place_of (counts_of (layout_by bs x)) plan 0 (nth_rule (layout_by bs x) r).scope < cells_in (counts_of (layout_by bs x)) (nth_rule (layout_by bs x) r).scope
    place_inside r plan h e = ∥∥₁_elim t le_prop (λ f.
        let fit = each_at (FitsRule 4294967295 (counts_of (layout_by bs x))) (layout_by bs x).rules r (record { scope = []; cells = [] }) f.fits.ruled (omega (arith, rules_is)) in
        let below = place_below (counts_of (layout_by bs x)) plan (nth_rule (layout_by bs x) r).scope 0 (length (counts_of (layout_by bs x))) fit.rises
        (λ i l. begins_at (choices_in (layout_by bs x)) (length (layout_by bs x).own) plan e i (omega (arith, length-map (layout_by bs x).own (λ (l : List ℕ). length l)))) 0 in
        omega arith)

    -- the cell of a plan
    cell_some : (r : ℕ) (plan : List ℕ) (p : ℕ) → r < length (items x.rule_at) → planned_in (layout_by bs x) plan ≡ true → p ≡ place_of (counts_of (layout_by bs x)) plan 0 (nth_rule (layout_by bs x) r).scope → (table_at bs (slice_index (items x.rule_at) r) + 4 * p + 4 ≤ length bs) × (Some (price_at bs (table_at bs (slice_index (items x.rule_at) r) + 4 * p)) ≡ cell_in (layout_by bs x) r plan)
    cell_some r plan p h e is =
        let at : ℕ = get_or (items x.rule_at) r 0 in
        let cs : List ℕ = choices_at bs (length (items x.own_at)) in
        let n : ℕ = cells_in cs (scope_at bs at) in
        let size : cells_in (counts_of (layout_by bs x)) (nth_rule (layout_by bs x) r).scope ≡ n = (λ k. cells_in (counts_same k) (rule_is r h k).scope) in
        let below : p < n = omega (arith, place_inside r plan h e, size, is) in
        let row : List ℕ = cells_at bs (table_at bs at) n in
        let long : length row ≡ n = length-map-range_with_len (λ k. price_at bs (table_at bs at + 4 * k)) 0 n in (
          omega (arith, rule_inside r h),
          sym (ap (λ (l : Rule). slice_get l.cells (place_of (counts_of (layout_by bs x)) plan 0 (nth_rule (layout_by bs x) r).scope)) (rule_is r h) ∙ ap (λ (k : ℕ). slice_get row k) (sym is) ∙ slice_get-get_or row p 0 (omega arith) ∙ ap Some (get_or-map-range_with_len (λ k. price_at bs (table_at bs at + 4 * k)) 0 n p p 0 below (omega arith))),
        )

    -- the same, from the table on
    pub cell_read : (r : ℕ) (plan scope table : List ℕ) (p v : ℕ) → r < length (items x.rule_at) → planned_in (layout_by bs x) plan ≡ true → scope ≡ (nth_rule (layout_by bs x) r).scope → table ≡ drop (table_at bs (slice_index (items x.rule_at) r)) bs → p ≡ place_of (counts_of (layout_by bs x)) plan 0 scope → (4 * p + 4 ≤ length table) × (v ≡ price_at table (4 * p) → Some v ≡ cell_in (layout_by bs x) r plan)
    cell_read r plan scope table p v h e s is place =
        let at : ℕ = table_at bs (slice_index (items x.rule_at) r) in
        let c = cell_some r plan p h e (place ∙ (λ i. place_of (counts_of (layout_by bs x)) plan 0 (s i))) in
        (omega (arith, c.0, ap (λ (l : List ℕ). length l) is, length-drop at bs), λ q. ap Some (q ∙ ap (λ (l : List ℕ). price_at l (4 * p)) is ∙ price_from at (4 * p)) ∙ c.1)

    -- rows and rules begin within the bytes
    pub row_starts : (i : ℕ) → i < length (items x.own_at) → slice_index (items x.own_at) i ≤ length bs
    row_starts i h = ∥∥₁_elim t le_prop (λ f. omega (arith, f.rows i h))

    pub rule_starts : (r : ℕ) → r < length (items x.rule_at) → slice_index (items x.rule_at) r ≤ length bs
    rule_starts r h = omega (arith, rule_inside r h)

    -- the row of a bay, from its place on
    pub row_read : (i j n v : ℕ) (row : List ℕ) → row ≡ drop (slice_index (items x.own_at) i) bs → n ≡ j → j < choices_in (layout_by bs x) i → (4 * n + 4 ≤ length row) × (v ≡ price_at row (4 * n) → Some v ≡ own_in (layout_by bs x) i j)
    row_read i j n v row is e h =
        let at : ℕ = slice_index (items x.own_at) i in
        (omega (arith, own_inside i j h, ap (λ (l : List ℕ). length l) is, length-drop at bs), λ q. ap Some (q ∙ (λ k. price_at (is k) (4 * e k)) ∙ price_from at (4 * j)) ∙ own_some i j h)

    pub rule_cut : (r n : ℕ) (rest tail : List ℕ) → r < length (items x.rule_at) → rest ≡ drop (slice_index (items x.rule_at) r) bs → tail ≡ take (length rest - 1) (drop 1 rest) → n ≡ slice_index rest 0 → (take n tail ≡ (nth_rule (layout_by bs x) r).scope) × (drop n tail ≡ drop (table_at bs (slice_index (items x.rule_at) r)) bs)
    rule_cut r n rest tail h is cut e =
        let at : ℕ = slice_index (items x.rule_at) r in
        let count : n ≡ slice_index bs at = e ∙ first_from at rest is in
        let left : tail ≡ drop (at + 1) bs = cut ∙ take_rest rest 1 ∙ ap (drop 1) is ∙ drop-drop 1 at bs in
        ((λ i. take (count i) (left i)) ∙ sym (ap (λ (l : Rule). l.scope) (rule_is r h)), (λ i. drop (count i) (left i)) ∙ drop-drop (slice_index bs at) (at + 1) bs)

  rule_past : (r : ℕ) → length (items x.rule_at) ≤ r → nth_rule (layout_by bs x) r ≡ record { scope = []; cells = [] }
  rule_past r h = get_or_past (layout_by bs x).rules r (record { scope = []; cells = [] }) (omega (arith, rules_is))

  pub cell_none : (r : ℕ) (plan : List ℕ) → length (items x.rule_at) ≤ r → None ≡ cell_in (layout_by bs x) r plan
  cell_none r plan h = sym (ap (λ (l : Rule). slice_get l.cells (place_of (counts_of (layout_by bs x)) plan 0 (nth_rule (layout_by bs x) r).scope)) (rule_past r h))

  pub mask_past : (r : ℕ) → length (items x.rule_at) ≤ r → 0 ≡ mask_of (nth_rule (layout_by bs x) r).scope
  mask_past r h = sym (ap (λ (l : Rule). mask_of l.scope) (rule_past r h))
