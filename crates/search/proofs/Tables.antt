-- Places of a table and the plans that they stand for; what is read of used cells stays.
use Rattle.std.proofs.Common.{◌≡◌, ℕ, zero, suc, ◌+◌, ◌-◌, ◌*◌, ◌/◌, ◌%◌, ◌^◌, ◌<◌, ◌≤◌, Bool, true, false, cond, ◌||◌, eqb, ltb, List, [], ◌∷◌, length, get_or, take, drop, set, sym, refl, ap, ◌∙◌, subst, ap₂, mul-le-mul_right, mod-lt, mod-eq_of_lt, mul_assoc, div-lt_iff_lt-mul, add-mul, add_comm, mul-zero, zero-mul, arith, length-set, lt-ltb, eqb-true}
use mathlib.Core.Path.{fun_ext}
use mathlib.Core.Bool.{false≢true}
use native.Mathlib.Nat.{mul-add-div_right, add-mul-mod_self_right, div-eq_of_lt}
use native.Mathlib.Decide.{dec_lt}
use borrow.Author.Tests.{eqb-false}
use Rattle.std.proofs.lemmas.List.{get_or-set_same, get_or-set_other, take-take}
use Rattle.model.proofs.Ordered.{member_head}
use Rattle.model.specs.Books.{Meaning}
use Rattle.model.specs.Lists.{member, product}
use Rattle.model.specs.Prices.{Ops}
use Rattle.model.specs.Terms.{Plan}
use Rattle.std.proofs.lemmas.Bool.{or_right}
use Rattle.model.specs.Searched.{bytes_in}
use Rattle.search.proofs.Members.{map_members}
use Rattle.search.specs.Force.{Told, line_at, flag, scope_mask, block, table_value, raw, masked, term, terms_from, Under}
use Rattle.search.specs.Places.{place, members, byte_of, decoded, PlanOk}
use Rattle.search.specs.declared.state.Line.{Line}

module _ (f : ℕ → ℕ) (π : Plan) where
  pub place_split : (at : ℕ) (bs : List ℕ) → place f at bs π ≡ at * product f bs + place f 0 bs π
  place_split at [] = omega arith
  place_split at (b ∷ bs) =
      let z : 0 * f b + π b ≡ π b = omega (arith, zero-mul (f b)) in
      place_split (at * f b + π b) bs
      ∙ omega (arith, add-mul (at * f b) (π b) (product f bs), mul_assoc at (f b) (product f bs), place_split (0 * f b + π b) bs, ap (λ (x : ℕ). x * product f bs) z)

  pub place_lt : (bs : List ℕ) → ((i : ℕ) → member i bs ≡ true → π i < f i) → place f 0 bs π < product f bs
  place_lt [] h = omega arith
  place_lt (b ∷ bs) h =
      let z : 0 * f b + π b ≡ π b = omega (arith, zero-mul (f b)) in
      let low = place_lt bs (λ i m. h i (or_right (eqb i b) _ m)) in
      let under : π b < f b = h b (member_head b bs) in
      let top : π b + 1 ≤ f b = omega arith in
      omega (arith, place_split (0 * f b + π b) bs, ap (λ (x : ℕ). x * product f bs) z, mul-le-mul_right (product f bs) top, add-mul (π b) 1 (product f bs))

  pub place_head : (b : ℕ) (bs : List ℕ) → place f 0 (b ∷ bs) π ≡ π b * product f bs + place f 0 bs π
  place_head b bs =
      let z : 0 * f b + π b ≡ π b = omega (arith, zero-mul (f b)) in
      ap (λ (x : ℕ). place f x bs π) z ∙ place_split (π b) bs

  pub digit : (b : ℕ) (bs : List ℕ) → ((i : ℕ) → member i bs ≡ true → π i < f i) → place f 0 (b ∷ bs) π / product f bs ≡ π b
  digit b bs h =
      let low = place_lt bs h in
      ap (λ (x : ℕ). x / product f bs) (place_head b bs) ∙ mul-add-div_right {m = product f bs} (omega arith) (π b) (place f 0 bs π) ∙ omega (arith, div-eq_of_lt low)

  pub digits : (b : ℕ) (bs : List ℕ) → ((i : ℕ) → member i bs ≡ true → π i < f i) → place f 0 (b ∷ bs) π % product f bs ≡ place f 0 bs π
  digits b bs h =
      let low = place_lt bs h in
      ap (λ (x : ℕ). x % product f bs) (place_head b bs ∙ add_comm (π b * product f bs) (place f 0 bs π)) ∙ add-mul-mod_self_right (place f 0 bs π) (π b) (product f bs) ∙ mod-eq_of_lt low

pub decoded_length : (cs : List ℕ) (p : ℕ → Bool) (a k at : ℕ) (plan : List ℕ) → length (decoded cs p a k at plan) ≡ length plan
unfolding decoded
decoded_length cs p a zero at plan = refl
decoded_length cs p a (suc k) at plan =
    let r = product (byte_of cs) (members p (a + 1) k) in
    go (p a) _ _ (decoded_length cs p (a + 1) k (at % r) (set plan a (at / r)) ∙ length-set plan a (at / r)) (decoded_length cs p (a + 1) k at plan)
  where
    go : (x : Bool) (u v : List ℕ) → length u ≡ length plan → length v ≡ length plan → length (cond x u v) ≡ length plan
    go true u v e f = e
    go false u v e f = f

pub set_ok : (cs plan : List ℕ) (a c : ℕ) → a < length plan → c < get_or cs a 0 → PlanOk cs plan → PlanOk cs (set plan a c)
set_ok cs plan a c l h ok i o = go (eqb i a) refl
  where
    go : (x : Bool) → eqb i a ≡ x → get_or (set plan a c) i 0 < get_or cs i 0
    go true e = let z = eqb-true i a e in rw (z, get_or-set_same plan a c 0 l) h
    go false e = let ne = eqb-false i a e in rw (get_or-set_other plan a i c 0 ne) (ok i o)

pub decoded_ok : (cs : List ℕ) (p : ℕ → Bool) (a k at : ℕ) (plan : List ℕ) → a + k ≤ length plan → ((i : ℕ) → p i ≡ true → 0 < get_or cs i 0) → at < product (byte_of cs) (members p a k) → PlanOk cs plan → PlanOk cs (decoded cs p a k at plan)
unfolding decoded members
decoded_ok cs p a zero at plan l o h ok = ok
decoded_ok cs p a (suc k) at plan l o h ok = go (p a) _ _ refl h
    (λ pos under. decoded_ok cs p (a + 1) k (at % product (byte_of cs) (members p (a + 1) k)) (set plan a (at / product (byte_of cs) (members p (a + 1) k))) (omega (arith, length-set plan a (at / product (byte_of cs) (members p (a + 1) k)))) o (mod-lt at pos)
    (set_ok cs plan a _ (omega arith) ((div-lt_iff_lt-mul pos).1 under) ok))
    (λ under. decoded_ok cs p (a + 1) k at plan (omega arith) o under ok)
  where
    go : (x : Bool) (u v : List ℕ) → p a ≡ x → at < product (byte_of cs) (cond x (a ∷ members p (a + 1) k) (members p (a + 1) k))
        → (0 < product (byte_of cs) (members p (a + 1) k) → at < get_or cs a 0 * product (byte_of cs) (members p (a + 1) k) → PlanOk cs u) → (at < product (byte_of cs) (members p (a + 1) k) → PlanOk cs v) → PlanOk cs (cond x u v)
    go true u v e under f g = f (pos_of (get_or cs a 0) (product (byte_of cs) (members p (a + 1) k)) at under) under
      where
        pos_of : (c r at : ℕ) → at < c * r → 0 < r
        pos_of c zero at h = absurd (omega (arith, mul-zero c))
        pos_of c (suc r) at h = omega arith
    go false u v e under f g = g under

-- the plan at the place of π has π's choices in the set, and is as it was elsewhere
record Met (i : ℕ) (bs : List ℕ) (x y z : ℕ) : Type 0 where
  here : member i bs ≡ true → x ≡ y
  there : member i bs ≡ false → x ≡ z

decoded_met : (cs : List ℕ) (p : ℕ → Bool) (π : Plan) (a k : ℕ) (plan : List ℕ) → a + k ≤ length plan → ((i : ℕ) → member i (members p a k) ≡ true → π i < byte_of cs i) → (i : ℕ)
    → Met i (members p a k) (byte_of (decoded cs p a k (place (byte_of cs) 0 (members p a k) π) plan) i) (π i) (byte_of plan i)
unfolding decoded members
decoded_met cs p π a zero plan l h i = record { here = λ e. absurd (false≢true e); there = λ e. refl }
decoded_met cs p π a (suc k) plan l h i = go (p a) refl h
    (λ h. decoded_met cs p π (a + 1) k (set plan a (π a)) (omega (arith, length-set plan a (π a))) h i)
    (λ h. decoded_met cs p π (a + 1) k plan (omega arith) h i)
  where
    f : ℕ → ℕ
    f = byte_of cs

    rest : List ℕ
    rest = members p (a + 1) k

    later : Met i (members p (a + 1) k) (byte_of (decoded cs p (a + 1) k (place (byte_of cs) 0 (members p (a + 1) k) π) (set plan a (π a))) i) (π i) (byte_of (set plan a (π a)) i)
        → Met i (a ∷ members p (a + 1) k) (byte_of (decoded cs p (a + 1) k (place (byte_of cs) 0 (members p (a + 1) k) π) (set plan a (π a))) i) (π i) (byte_of plan i)
    later r = record {
      here = λ e. in_rest (member i (members p (a + 1) k)) (eqb i a) refl refl e;
      there = λ e. off (eqb i a) refl e;
    }
      where
        in_rest : (x y : Bool) → member i (members p (a + 1) k) ≡ x → eqb i a ≡ y → (y || x) ≡ true → byte_of (decoded cs p (a + 1) k (place (byte_of cs) 0 (members p (a + 1) k) π) (set plan a (π a))) i ≡ π i
        in_rest true y e q m = r.here e
        in_rest false true e q m = let z = eqb-true i a q in r.there e ∙ ap (λ (n : ℕ). get_or (set plan a (π a)) n 0) z ∙ get_or-set_same plan a (π a) 0 (omega arith) ∙ ap π (sym z)
        in_rest false false e q m = absurd (false≢true m)

        off : (y : Bool) → eqb i a ≡ y → (y || member i (members p (a + 1) k)) ≡ false → byte_of (decoded cs p (a + 1) k (place (byte_of cs) 0 (members p (a + 1) k) π) (set plan a (π a))) i ≡ byte_of plan i
        off true q m = absurd (false≢true (sym m))
        off false q m = r.there m ∙ get_or-set_other plan a i (π a) 0 (eqb-false i a q)

    go : (x : Bool) → p a ≡ x → ((i : ℕ) → member i (cond x (a ∷ members p (a + 1) k) (members p (a + 1) k)) ≡ true → π i < byte_of cs i)
        → (((i : ℕ) → member i (members p (a + 1) k) ≡ true → π i < byte_of cs i) → Met i (members p (a + 1) k) (byte_of (decoded cs p (a + 1) k (place (byte_of cs) 0 (members p (a + 1) k) π) (set plan a (π a))) i) (π i) (byte_of (set plan a (π a)) i))
        → (((i : ℕ) → member i (members p (a + 1) k) ≡ true → π i < byte_of cs i) → Met i (members p (a + 1) k) (byte_of (decoded cs p (a + 1) k (place (byte_of cs) 0 (members p (a + 1) k) π) plan) i) (π i) (byte_of plan i))
        → Met i (cond x (a ∷ members p (a + 1) k) (members p (a + 1) k))
        (byte_of (cond x (decoded cs p (a + 1) k (place (byte_of cs) 0 (cond x (a ∷ members p (a + 1) k) (members p (a + 1) k)) π % product (byte_of cs) (members p (a + 1) k)) (set plan a (place (byte_of cs) 0 (cond x (a ∷ members p (a + 1) k) (members p (a + 1) k)) π / product (byte_of cs) (members p (a + 1) k))))
        (decoded cs p (a + 1) k (place (byte_of cs) 0 (cond x (a ∷ members p (a + 1) k) (members p (a + 1) k)) π) plan)) i) (π i) (byte_of plan i)
    go true e h ih ih' =
        let under : (i : ℕ) → member i (members p (a + 1) k) ≡ true → π i < byte_of cs i = λ i m. h i (or_right (eqb i a) _ m) in
        subst (λ (xs : List ℕ). Met i (a ∷ members p (a + 1) k) (byte_of xs i) (π i) (byte_of plan i))
        (sym (ap₂ (λ (u v : ℕ). decoded cs p (a + 1) k u (set plan a v)) (digits (byte_of cs) π a (members p (a + 1) k) under) (digit (byte_of cs) π a (members p (a + 1) k) under)))
        (later (ih under))
    go false e h ih ih' = ih' h

pub decoded_here : (cs : List ℕ) (p : ℕ → Bool) (π : Plan) (a k : ℕ) (plan : List ℕ) → a + k ≤ length plan → ((i : ℕ) → member i (members p a k) ≡ true → π i < byte_of cs i) → (i : ℕ) → member i (members p a k) ≡ true
    → byte_of (decoded cs p a k (place (byte_of cs) 0 (members p a k) π) plan) i ≡ π i
decoded_here cs p π a k plan l h i = (decoded_met cs p π a k plan l h i).here

pub decoded_there : (cs : List ℕ) (p : ℕ → Bool) (π : Plan) (a k : ℕ) (plan : List ℕ) → a + k ≤ length plan → ((i : ℕ) → member i (members p a k) ≡ true → π i < byte_of cs i) → (i : ℕ) → member i (members p a k) ≡ false
    → byte_of (decoded cs p a k (place (byte_of cs) 0 (members p a k) π) plan) i ≡ byte_of plan i
decoded_there cs p π a k plan l h i = (decoded_met cs p π a k plan l h i).there

-- used cells that stay are read alike
take_drop_take : {X : Type 0} (s o u : ℕ) (xs : List X) → o + s ≤ u → take s (drop o (take u xs)) ≡ take s (drop o xs)
take_drop_take s zero u xs h = take-take s u xs (omega arith)
take_drop_take s (suc o) zero xs h = absurd (omega arith)
take_drop_take s (suc o) (suc u) [] h = refl
take_drop_take s (suc o) (suc u) (x ∷ xs) h = take_drop_take s o u xs (omega arith)

pub block_frame : {P : Type 0} (l : Told) (used : ℕ) (xs ys : List P) → l.offset + l.size ≤ used → take used xs ≡ take used ys → block xs l ≡ block ys l
block_frame l used xs ys h e = sym (take_drop_take l.size l.offset used xs h) ∙ ap (λ zs. take l.size (drop l.offset zs)) e ∙ take_drop_take l.size l.offset used ys h

-- two worlds have the same term where its line and its cells are the same
pub term_frame : {P : Type 0} (K : Ops P) (m : Meaning P) (cs : List ℕ) (lines lines' : List Line) (xs ys : List P) (j : ℕ)
    → (88 ≤ j → (line_at lines (j - 88) ≡ line_at lines' (j - 88)) × (block xs (line_at lines (j - 88)) ≡ block ys (line_at lines (j - 88)))) → term K m cs lines xs j ≡ term K m cs lines' ys j
unfolding raw scope_mask
term_frame {P} K m cs lines lines' xs ys j h = elim (dec_lt j 88) [ yes lt ↦ ap₂ masked (mask_low lt) (fun_ext (raw_low lt)) | no ge ↦ ap₂ masked (mask_high (h (omega arith)).0) (fun_ext (raw_high (h (omega arith)))) ]
  where
    mask_low : j < 88 → scope_mask m lines j ≡ scope_mask m lines' j
    mask_low lt = let e = lt-ltb j 88 lt in rw e refl

    mask_high : line_at lines (j - 88) ≡ line_at lines' (j - 88) → scope_mask m lines j ≡ scope_mask m lines' j
    mask_high e = ap (λ (l : Told). cond (ltb j 24) (2 ^ j) (cond (ltb j 88) (m.scope (j - 24)) l.scope)) e

    raw_low : j < 88 → (π : Plan) → raw K m cs lines xs j π ≡ raw K m cs lines' ys j π
    raw_low lt π = let e = lt-ltb j 88 lt in rw e refl

    raw_high : (line_at lines (j - 88) ≡ line_at lines' (j - 88)) × (block xs (line_at lines (j - 88)) ≡ block ys (line_at lines (j - 88))) → (π : Plan) → raw K m cs lines xs j π ≡ raw K m cs lines' ys j π
    raw_high g π =
        ap (λ (cells : List P). cond (ltb j 24) (m.own j (π j)) (cond (ltb j 88) (m.price (j - 24) (bytes_in m π)) (table_value K cs (line_at lines (j - 88)).scope cells π))) g.1
        ∙ ap (λ (l : Told). cond (ltb j 24) (m.own j (π j)) (cond (ltb j 88) (m.price (j - 24) (bytes_in m π)) (table_value K cs l.scope (block ys l) π))) g.0

pub terms_frame : {P : Type 0} (K : Ops P) (m : Meaning P) (cs : List ℕ) (lines : List Line) (xs ys : List P) (force : List Bool) (used a : ℕ) → Under lines force used → take used xs ≡ take used ys → terms_from K m cs lines xs force a ≡ terms_from K m cs lines ys force a
terms_frame K m cs lines xs ys force used a under e =
    map_members (term K m cs lines xs) (term K m cs lines ys) (flag force) a (112 - a) (λ i on l u. term_frame K m cs lines lines xs ys i (λ h. (refl, block_frame (line_at lines (i - 88)) used xs ys (under i on h (omega arith)) e)))
