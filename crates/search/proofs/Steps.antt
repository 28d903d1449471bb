-- How the defined sums go on, step by step.
use Rattle.std.proofs.Common.{◌≡◌, ℕ, zero, suc, ◌+◌, ◌<◌, ◌≤◌, Bool, true, false, cond, ◌&&◌, ◌||◌, List, [], ◌∷◌, map, length, get_or, set, sym, refl, ap, ◌∙◌, le_refl, arith, add-one}
use mathlib.Core.Path.{fun_ext}
use native.Mathlib.Decide.{dec_lt}
use borrow.Author.Tests.{eqb-false}
use Rattle.std.proofs.lemmas.List.{get_or_past, get_or-set_same, get_or-set_other}
use Rattle.model.proofs.Ordered.{put_is}
use Rattle.model.specs.Books.{Meaning}
use Rattle.model.specs.Prices.{Ops}
use Rattle.model.specs.Sets.{has}
use Rattle.model.specs.Lists.{any}
use Rattle.model.specs.Terms.{Plan, put, Term, least, least_at, least_price, floor, cost, touching}
use Rattle.search.proofs.Members.{members_end, members_in, members_out}
use Rattle.search.specs.Force.{flag, scope_mask, term, terms_from, lowest_from, floor_from, charge_from, shares}
use Rattle.search.specs.Places.{bays_from, byte_of}
use Rattle.search.specs.declared.state.Line.{Line}

pub bytes_put : (plan : List ℕ) (b c : ℕ) → b < length plan → byte_of (set plan b c) ≡ put b c (byte_of plan)
bytes_put plan b c h = fun_ext (λ i. sym (put_is b c (byte_of plan) i (get_or (set plan b c) i 0)
    (λ e. sym (ap (λ (k : ℕ). get_or (set plan b c) k 0) e ∙ get_or-set_same plan b c 0 h))
    (λ e. sym (get_or-set_other plan b i c 0 (eqb-false i b e)))))

-- a bay with choices is one of the bays
pub choice_inside : (cs : List ℕ) (b c : ℕ) → c < get_or cs b 0 → b < length cs
choice_inside cs b c h = elim (dec_lt b (length cs)) [ yes lt ↦ lt | no ge ↦ (let z = get_or_past cs b 0 (omega arith) in absurd (omega (arith, z))) ]

pub least_more : {P : Type 0} (K : Ops P) (n : ℕ) (f : ℕ → P) → 0 < n → least K (n + 1) f ≡ cond (K.at_most (least K n f) (f n)) (least K n f) (f n)
least_more K zero f h = absurd (omega arith)
least_more K (suc n) f h = rw add-one refl

pub least_at_more : {P : Type 0} (K : Ops P) (n : ℕ) (f : ℕ → P) → 0 < n → least_at K (n + 1) f ≡ cond (K.at_most (least K n f) (f n)) (least_at K n f) n
least_at_more K zero f h = absurd (omega arith)
least_at_more K (suc n) f h = rw add-one refl

-- one choice more: the best so far stays, or the new price is less
module _ {P : Type 0} (K : Ops P) (n : ℕ) (f : ℕ → P) (best price : P) (some : 0 < n) (b : best ≡ least K n f) (p : price ≡ f n) where
  pub least_kept : K.at_most best price ≡ true → best ≡ least K (n + 1) f
  least_kept t = let s : K.at_most (least K n f) (f n) ≡ true = rw (sym b, sym p) t in b ∙ sym (least_more K n f some ∙ rw s refl)

  pub least_taken : K.at_most best price ≡ false → price ≡ least K (n + 1) f
  least_taken t = let s : K.at_most (least K n f) (f n) ≡ false = rw (sym b, sym p) t in p ∙ sym (least_more K n f some ∙ rw s refl)

  pub least_at_kept : K.at_most best price ≡ true → least_at K n f ≡ least_at K (n + 1) f
  least_at_kept t = let s : K.at_most (least K n f) (f n) ≡ true = rw (sym b, sym p) t in sym (least_at_more K n f some ∙ rw s refl)

  pub least_at_taken : K.at_most best price ≡ false → n ≡ least_at K (n + 1) f
  least_at_taken t = let s : K.at_most (least K n f) (f n) ≡ false = rw (sym b, sym p) t in sym (least_at_more K n f some ∙ rw s refl)

module _ {P : Type 0} (K : Ops P) (choices : ℕ → ℕ) (t : Term P) (left b : ℕ) (π : Plan) where
  pub least_price_end : 24 ≤ b → least_price K choices t (bays_from left b) π ≡ t.value π
  least_price_end h = ap (λ (bs : List ℕ). least_price K choices t bs π) (members_end (has left) b 24 h)

  pub least_price_skip : b < 24 → has left b ≡ false → least_price K choices t (bays_from left b) π ≡ least_price K choices t (bays_from left (b + 1)) π
  least_price_skip h e = ap (λ (bs : List ℕ). least_price K choices t bs π) (members_out (has left) b 24 h e)

  pub least_price_pass : b < 24 → has left b ≡ true → t.scope b ≡ false → least_price K choices t (bays_from left b) π ≡ least_price K choices t (bays_from left (b + 1)) π
  least_price_pass h e s = ap (λ (bs : List ℕ). least_price K choices t bs π) (members_in (has left) b 24 h e) ∙ rw s refl

  pub least_price_over : b < 24 → has left b ≡ true → t.scope b ≡ true → least_price K choices t (bays_from left b) π ≡ least K (choices b) (λ c. least_price K choices t (bays_from left (b + 1)) (put b c π))
  least_price_over h e s = ap (λ (bs : List ℕ). least_price K choices t bs π) (members_in (has left) b 24 h e) ∙ rw s refl

module _ {P : Type 0} (K : Ops P) (m : Meaning P) (cs : List ℕ) (lines : List Line) (cells : List P) (force : List Bool) (j : ℕ) where
  pub terms_end : 112 ≤ j → terms_from K m cs lines cells force j ≡ []
  terms_end h = ap (map (term K m cs lines cells)) (members_end (flag force) j 112 h)

  pub terms_in : j < 112 → flag force j ≡ true → terms_from K m cs lines cells force j ≡ term K m cs lines cells j ∷ terms_from K m cs lines cells force (j + 1)
  terms_in h e = ap (map (term K m cs lines cells)) (members_in (flag force) j 112 h e)

  pub terms_out : j < 112 → flag force j ≡ false → terms_from K m cs lines cells force j ≡ terms_from K m cs lines cells force (j + 1)
  terms_out h e = ap (map (term K m cs lines cells)) (members_out (flag force) j 112 h e)

-- past the last term nothing is in force
module _ {P : Type 0} (K : Ops P) (m : Meaning P) (cs : List ℕ) (lines : List Line) (cells : List P) (force : List Bool) where
  pub floor_end : (left : ℕ) (π : Plan) → floor_from K m cs lines cells force left π 112 ≡ K.free
  floor_end left π = ap (λ (ts : List (Term P)). floor K (byte_of cs) ts (bays_from left 0) π) (terms_end K m cs lines cells force 112 (le_refl 112))

  pub charge_end : (b : ℕ) (π : Plan) → charge_from K m cs lines cells force b π 112 ≡ K.free
  charge_end b π = ap (λ (ts : List (Term P)). cost K (touching b ts) π) (terms_end K m cs lines cells force 112 (le_refl 112))

pub shares_end : {P : Type 0} (m : Meaning P) (lines : List Line) (force : List Bool) (b i : ℕ) → shares m lines force b 112 i ≡ false
shares_end m lines force b i = ap (any (λ k. has (scope_mask m lines k) b && has (scope_mask m lines k) i)) (members_end (flag force) 112 112 (le_refl 112))

-- a sum over the terms in force goes down by one number
module _ {P : Type 0} (K : Ops P) (m : Meaning P) (cs : List ℕ) (lines : List Line) (cells : List P) (force : List Bool) (n : ℕ) (hi : n < 112) where
  module _ (left : ℕ) (π : Plan) where
    pub floor_off : flag force n ≡ false → floor_from K m cs lines cells force left π (n + 1) ≡ floor_from K m cs lines cells force left π n
    floor_off e = sym (ap (λ (ts : List (Term P)). floor K (byte_of cs) ts (bays_from left 0) π) (terms_out K m cs lines cells force n hi e))

    pub floor_on : flag force n ≡ true → K.combine (lowest_from K m cs lines cells n left 0 π) (floor_from K m cs lines cells force left π (n + 1)) ≡ floor_from K m cs lines cells force left π n
    floor_on e = sym (ap (λ (ts : List (Term P)). floor K (byte_of cs) ts (bays_from left 0) π) (terms_in K m cs lines cells force n hi e))

  module _ (b : ℕ) (π : Plan) where
    pub charge_off : flag force n ≡ false → charge_from K m cs lines cells force b π (n + 1) ≡ charge_from K m cs lines cells force b π n
    charge_off e = sym (ap (λ (ts : List (Term P)). cost K (touching b ts) π) (terms_out K m cs lines cells force n hi e))

    pub charge_past : flag force n ≡ true → has (scope_mask m lines n) b ≡ false → charge_from K m cs lines cells force b π (n + 1) ≡ charge_from K m cs lines cells force b π n
    charge_past e t = sym (ap (λ (ts : List (Term P)). cost K (touching b ts) π) (terms_in K m cs lines cells force n hi e) ∙ rw t refl)

    pub charge_on : flag force n ≡ true → has (scope_mask m lines n) b ≡ true → K.combine ((term K m cs lines cells n).value π) (charge_from K m cs lines cells force b π (n + 1)) ≡ charge_from K m cs lines cells force b π n
    charge_on e t = sym (ap (λ (ts : List (Term P)). cost K (touching b ts) π) (terms_in K m cs lines cells force n hi e) ∙ rw t refl)

-- so do the bays that share a term with b
module _ {P : Type 0} (m : Meaning P) (lines : List Line) (force : List Bool) (b i n : ℕ) (hi : n < 112) where
  abbrev joins : ℕ → Bool
  joins k = has (scope_mask m lines k) b && has (scope_mask m lines k) i

  pub shares_off : flag force n ≡ false → shares m lines force b (n + 1) i ≡ shares m lines force b n i
  shares_off e = sym (ap (any joins) (members_out (flag force) n 112 hi e))

  pub shares_past : flag force n ≡ true → has (scope_mask m lines n) b ≡ false → shares m lines force b (n + 1) i ≡ shares m lines force b n i
  shares_past e t = sym (ap (any joins) (members_in (flag force) n 112 hi e) ∙ rw t refl)

  pub shares_on : flag force n ≡ true → has (scope_mask m lines n) b ≡ true → (has (scope_mask m lines n) i || shares m lines force b (n + 1) i) ≡ shares m lines force b n i
  shares_on e t = sym (ap (any joins) (members_in (flag force) n 112 hi e) ∙ rw t refl)
