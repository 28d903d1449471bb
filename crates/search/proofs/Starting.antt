-- The start of a search.
use Rattle.std.proofs.Common.{◌≡◌, ℕ, zero, suc, ◌+◌, ◌-◌, ◌^◌, ◌<◌, ◌≤◌, Bool, true, false, cond, ltb, List, [], ◌∷◌, ◌++◌, map, length, get_or, replicate, sym, refl, ap, ◌∙◌, subst, ap₂, arith, pow_pos}
use mathlib.Core.Path.{fun_ext}
use mathlib.Core.Bool.{false≢true}
use native.Mathlib.Nat.{sub-zero}
use native.Mathlib.Decide.{dec_lt}
use Rattle.std.specs.List.{range_with_len}
use Rattle.std.proofs.lemmas.List.{append-nil, get_or_past, get_or-replicate, map-append}
use Rattle.std.proofs.lemmas.Bool.{lt-ltb, le-ltb, ltb-true, eq-eqb}
use Rattle.std.proofs.lemmas.List.FromFn.{get_or-map-range_with_len, length-map-range_with_len}
use Rattle.course.specs.Masks.{bays_of, tries_of}
use Rattle.course.specs.declared.bound.Bound.{Bound}
use Rattle.course.proofs.Starts.{bays_full, full_small}
use Rattle.model.specs.Books.{Meaning, BookLaws}
use Rattle.model.specs.Course.{Answers}
use Rattle.model.specs.Lists.{member}
use Rattle.model.specs.Prices.{Ops}
use Rattle.model.specs.Search.{Setup, visit, begun}
use Rattle.model.specs.Searched.{bytes_in, own_term, rule_term, terms_in, setup_in, search_in}
use Rattle.model.specs.Stands.{Stands, AllStand, and_stand}
use Rattle.model.specs.Terms.{Plan, Term, Fold, floor}
use Rattle.model.proofs.Bits.{has_one, has_below}
use Rattle.model.proofs.Kept.{turn, member_counting}
use Rattle.model.proofs.Serves.{stand_self, visit_same}
use Rattle.search.proofs.Folds.{folds_none}
use Rattle.search.proofs.Members.{members_same, map_members, bays_same}
use Rattle.search.proofs.Settled.{set_none}
use Rattle.search.proofs.Kits.{clash}
use Rattle.search.specs.Force.{told, no_line, flag, scope_mask, raw, masked, term, terms_from, Fits, Sound}
use Rattle.search.specs.Places.{members, bays_from, Open, Few}
use Rattle.search.specs.Start.{starts}
use Rattle.search.specs.Visit.{setup_of, set_in, folds_of, Tabled, Stack}
use Rattle.search.specs.declared.state.Line.{Line}

pub sound_start : (cs : List ℕ) (l : Line) → (told l).folded ≡ false → Sound cs (replicate 24 l)
sound_start cs l off d h f = clash f (ap (λ (x : Line). (told x).folded) (get_or-replicate 24 d l no_line h) ∙ off)

pub length_members : (p : ℕ → Bool) (a k : ℕ) → length (members p a k) ≤ k
unfolding members
length_members p a zero = omega arith
length_members p a (suc k) = go (p a) (length_members p (a + 1) k)
  where
    go : (x : Bool) → length (members p (a + 1) k) ≤ k → length (cond x (a ∷ members p (a + 1) k) (members p (a + 1) k)) ≤ suc k
    go true h = omega arith
    go false h = omega arith

members_split : (p : ℕ → Bool) (a k l : ℕ) → members p a (k + l) ≡ members p a k ++ members p (a + k) l
unfolding members
members_split p a zero l = let z : 0 + l ≡ l = omega arith in let y : a + 0 ≡ a = omega arith in rw (z, y) refl
members_split p a (suc k) l = let z : suc k + l ≡ suc (k + l) = omega arith in let y : a + suc k ≡ a + 1 + k = omega arith in rw (z, y) (go (p a) (members_split p (a + 1) k l))
  where
    go : (x : Bool) → members p (a + 1) (k + l) ≡ members p (a + 1) k ++ members p (a + 1 + k) l
        → cond x (a ∷ members p (a + 1) (k + l)) (members p (a + 1) (k + l)) ≡ cond x (a ∷ members p (a + 1) k) (members p (a + 1) k) ++ members p (a + 1 + k) l
    go true e = ap (λ (r : List ℕ). a ∷ r) e
    go false e = e

pub members_none : (p : ℕ → Bool) (a k : ℕ) → ((i : ℕ) → a ≤ i → i < a + k → p i ≡ false) → members p a k ≡ []
unfolding members
members_none p a zero h = refl
members_none p a (suc k) h = rw (h a (omega arith) (omega arith)) (members_none p (a + 1) k (λ i l u. h i (omega arith) (omega arith)))

shifted : {A : Type 0} (f g : ℕ → A) (p q : ℕ → Bool) (s a k : ℕ) → ((i : ℕ) → i < a + k → p (i + s) ≡ q i) → ((i : ℕ) → i < a + k → f (i + s) ≡ g i) → map f (members p (a + s) k) ≡ map g (members q a k)
unfolding members
shifted f g p q s a zero h e = refl
shifted {A} f g p q s a (suc k) h e =
    let z : a + s + 1 ≡ a + 1 + s = omega arith in
    rw (z, h a (omega arith)) (go (q a) (shifted f g p q s (a + 1) k (λ i l. h i (omega arith)) (λ i l. e i (omega arith))))
  where
    go : (x : Bool) → map f (members p (a + 1 + s) k) ≡ map g (members q (a + 1) k) → map f (cond x ((a + s) ∷ members p (a + 1 + s) k) (members p (a + 1 + s) k)) ≡ map g (cond x (a ∷ members q (a + 1) k) (members q (a + 1) k))
    go true r = ap₂ ◌∷◌ (e a (omega arith)) r
    go false r = r

-- the first of the numbers from a on
members_first : (t a n c : ℕ) → n ≤ t → a + n ≡ c → members (λ i. ltb i c) a t ≡ range_with_len a n
unfolding members
members_first t a zero c h e = members_none (λ i. ltb i c) a t (λ i l u. le-ltb i c (omega arith))
members_first zero a (suc n) c h e = absurd (omega arith)
members_first (suc t) a (suc n) c h e = rw (lt-ltb a c (omega arith)) (ap (λ (xs : List ℕ). a ∷ xs) (members_first t (a + 1) n c (omega arith) (omega arith)))

-- a bay's own price as a term over the set of that bay stands for the model's
own_masked : {P : Type 0} → Meaning P → ℕ → Term P
own_masked m b = masked (2 ^ b) (λ π. m.own b (π b))

own_stands : {P : Type 0} (m : Meaning P) (choices : ℕ → ℕ) (bays left : List ℕ) (σ : Plan) (b : ℕ) → Stands choices bays left σ (own_masked m b) (own_term m b)
unfolding own_masked
own_stands m choices bays left σ b = record {
  touches = λ i _. has_one b i ∙ turn b i;
  agrees = λ π _ _. ap (λ (t : Bool). m.own b (cond t (π b) 0)) (has_one b b ∙ eq-eqb b b refl);
}

owns_stand : {P : Type 0} (m : Meaning P) (choices : ℕ → ℕ) (bays left : List ℕ) (σ : Plan) (xs : List ℕ) (ts : List (Term P)) → AllStand choices bays left σ (map (own_masked m) xs ++ ts) (map (own_term m) xs ++ ts)
owns_stand m choices bays left σ [] ts = stand_self choices bays left σ ts
owns_stand m choices bays left σ (x ∷ xs) ts = and_stand (own_stands m choices bays left σ x) (owns_stand m choices bays left σ xs ts)

-- the choices asked of a book are the book's
pub fits_start : {P : Type 0} (K : Ops P) (m : Meaning P) → BookLaws K m → (cs : List ℕ) → cs ≡ tries_of m.choices → Fits m cs
fits_start K m laws cs e i = ap (λ (xs : List ℕ). get_or xs i 0) e ∙ elim (dec_lt i 24) [
  | yes lt ↦ get_or-map-range_with_len m.choices 0 24 i i 0 lt (omega arith)
  | no ge ↦ get_or_past (tries_of m.choices) i 0 (omega (arith, length-map-range_with_len m.choices 0 24)) ∙ sym (laws.no_bay i (omega (arith, laws.few_bays)))
]

module _ {P : Type 0} (K : Ops P) (m : Meaning P) (laws : BookLaws K m) (cs : List ℕ) (fits : Fits m cs) where
  pub few_start : Few cs
  few_start i = rw (fits i) (elim (dec_lt i m.bays) [ yes lt ↦ laws.few_choices i lt | no ge ↦ (let z = laws.no_bay i (omega arith) in omega arith) ])

  pub open_start : (mask : ℕ) → mask ≡ 2 ^ m.bays - 1 → Open cs mask
  open_start mask is i e = rw (fits i) (laws.some_choice i (has_below m.bays mask i (subst (λ (x : ℕ). x < 2 ^ m.bays) (sym is) (omega (arith, pow_pos m.bays))) e))

  pub small_start : (mask : ℕ) → mask ≡ 2 ^ m.bays - 1 → mask < 2 ^ 24
  small_start mask is = subst (λ (x : ℕ). x < 2 ^ 24) (sym is) (full_small m.bays laws.few_bays)

  pub tabled_start : (lines : List Line) (force : List Bool) → length force ≡ 112 → ((j : ℕ) → j < 112 → flag force j ≡ starts m.bays m.rules j) → Tabled lines 0 force
  tabled_start lines force len h j on k = absurd (false≢true (sym (off j k) ∙ on))
    where
      off : (j : ℕ) → 88 ≤ j → flag force j ≡ false
      off j k = elim (dec_lt j 112) [
        | yes lt ↦ h j lt ∙ (let lo : ltb j 24 ≡ false = le-ltb j 24 (omega arith) in rw (lo, le-ltb j 88 k) refl)
        | no ge ↦ get_or_past force j false (omega arith)
      ]

  pub stack_start : (lines : List Line) → Stack cs lines 0 0
  stack_start lines = record { tables = λ e h. absurd (omega arith); forces = λ e h. absurd (omega arith); bays = λ e h. absurd (omega arith) }

  term_own : (lines : List Line) (cells : List P) (j : ℕ) → j < 24 → term K m cs lines cells j ≡ own_masked m j
  unfolding raw scope_mask own_masked
  term_own lines cells j h = ap₂ masked mask (fun_ext value)
    where
      mask : scope_mask m lines j ≡ 2 ^ j
      mask = rw (lt-ltb j 24 h) refl

      value : (π : Plan) → raw K m cs lines cells j π ≡ m.own j (π j)
      value π = rw (lt-ltb j 24 h) refl

  term_rule : (lines : List Line) (cells : List P) (r : ℕ) → r < 64 → term K m cs lines cells (r + 24) ≡ rule_term m r
  unfolding raw scope_mask
  term_rule lines cells r h = ap₂ masked mask (fun_ext value)
    where
      lo : ltb (r + 24) 24 ≡ false
      lo = le-ltb (r + 24) 24 (omega arith)

      hi : ltb (r + 24) 88 ≡ true
      hi = lt-ltb (r + 24) 88 (omega arith)

      z : r + 24 - 24 ≡ r
      z = omega arith

      mask : scope_mask m lines (r + 24) ≡ m.scope r
      mask = rw (lo, hi, z) refl

      value : (π : Plan) → raw K m cs lines cells (r + 24) π ≡ m.price r (bytes_in m π)
      value π = rw (lo, hi, z) refl

  module _ (lines : List Line) (cells : List P) (force : List Bool) (h : (j : ℕ) → j < 112 → flag force j ≡ starts m.bays m.rules j) where
    terms_start : terms_from K m cs lines cells force 0 ≡ map (own_masked m) (range_with_len 0 m.bays) ++ map (rule_term m) (range_with_len 0 m.rules)
    terms_start =
        ap (map t) (members_split (flag force) 0 24 88 ∙ ap (λ (r : List ℕ). members (flag force) 0 24 ++ r) (members_split (flag force) 24 64 24 ∙ ap (λ (r : List ℕ). members (flag force) 24 64 ++ r) tables ∙ append-nil _))
        ∙ map-append t (members (flag force) 0 24) (members (flag force) 24 64)
        ∙ ap₂ ◌++◌
        (map_members t (own_masked m) (flag force) 0 24 (λ i _ l u. term_own lines cells i (omega arith))
        ∙ ap (map (own_masked m)) (members_same (flag force) (λ i. ltb i m.bays) 0 24 (λ i l u. h i (omega arith) ∙ rw (lt-ltb i 24 (omega arith)) refl) ∙ members_first 24 0 m.bays m.bays laws.few_bays (omega arith)))
        (shifted t (rule_term m) (flag force) (λ r. ltb r m.rules) 24 0 64 (λ r l. h (r + 24) (omega arith) ∙ rule_flag r (omega arith)) (λ r l. term_rule lines cells r (omega arith))
        ∙ ap (map (rule_term m)) (members_first 64 0 m.rules m.rules laws.few_rules (omega arith)))
      where
        t : ℕ → Term P
        t = term K m cs lines cells

        tables : members (flag force) 88 24 ≡ []
        tables = members_none (flag force) 88 24 (λ j l u. h j (omega arith) ∙ (let lo : ltb j 24 ≡ false = le-ltb j 24 (omega arith) in rw (lo, le-ltb j 88 l) refl))

        rule_flag : (r : ℕ) → r < 64 → starts m.bays m.rules (r + 24) ≡ ltb r m.rules
        rule_flag r l = let lo : ltb (r + 24) 24 ≡ false = le-ltb (r + 24) 24 (omega arith) in let hi : ltb (r + 24) 88 ≡ true = lt-ltb (r + 24) 88 (omega arith) in let z : r + 24 - 24 ≡ r = omega arith in rw (lo, hi, z) refl

    -- the visit that the code starts with is the search of the book
    pub search_start : (mask : ℕ) → mask ≡ 2 ^ m.bays - 1 → (pick : Answers) (k : Bound) (limit : ℕ) (ceiling : P)
        → visit (setup_of K cs pick k limit) (length (bays_from mask 0)) (bays_from mask 0) (terms_from K m cs lines cells force 0) (length cells - 0) (set_in lines 0) (folds_of K m cs lines cells 0) (begun ceiling)
        ≡ search_in K m pick k.k limit (length cells) ceiling
    unfolding search_in terms_in
    search_start mask is pick k limit ceiling =
        ap (λ (f : ℕ → ℕ). visit (record { passing = record { choices = f; pick = pick; k = k.k }; ops = K; bound = floor K f; limit = limit }) (length (bays_from mask 0)) (bays_from mask 0) (terms_from K m cs lines cells force 0) (length cells - 0) (set_in lines 0) (folds_of K m cs lines cells 0) (begun ceiling)) (fun_ext fits)
        ∙ ap (λ (l : List ℕ). visit S (length l) l (terms_from K m cs lines cells force 0) (length cells - 0) (set_in lines 0) (folds_of K m cs lines cells 0) (begun ceiling)) (bays_same mask ∙ ap bays_of is ∙ bays_full m.bays laws.few_bays)
        ∙ ap (λ (ts : List (Term P)). visit S (length left) left ts (length cells - 0) (set_in lines 0) (folds_of K m cs lines cells 0) (begun ceiling)) terms_start
        ∙ ap₂ (λ (u : ℕ) (σ : Plan). visit S (length left) left us u σ (folds_of K m cs lines cells 0) (begun ceiling)) (sub-zero (length cells)) (set_none lines)
        ∙ ap (λ (fs : List (Fold P)). visit S (length left) left us (length cells) (λ _. 0) fs (begun ceiling)) (folds_none K m cs lines cells)
        ∙ visit_same S refl left (λ i e. laws.some_choice i (in_book i e)) (length left) left (length cells) (λ _. 0) [] [] (λ i e. laws.some_choice i (in_book i e)) (λ i e. e)
        (owns_stand m m.choices left left (λ _. 0) left (map (rule_term m) (range_with_len 0 m.rules))) (λ π l q. refl) (begun ceiling)
      where
        S : Setup P
        S = setup_in K m pick k.k limit

        left : List ℕ
        left = range_with_len 0 m.bays

        us : List (Term P)
        us = map (own_masked m) (range_with_len 0 m.bays) ++ map (rule_term m) (range_with_len 0 m.rules)

        in_book : (i : ℕ) → member i (range_with_len 0 m.bays) ≡ true → i < m.bays
        in_book i e = ltb-true i m.bays (sym (member_counting m.bays i) ∙ e)
