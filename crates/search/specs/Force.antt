-- The terms that the lines of a search hold, by number, and what is worked out from those in force.
use Rattle.std.specs.Prelude.{◌≡◌, ℕ, ◌+◌, ◌-◌, ◌^◌, ◌<◌, ◌≤◌, Bool, true, false, cond, ◌&&◌, List, [], map, take, drop, nat_lt, slice_index, slice_index_or}
use Rattle.std.proofs.Common.{ap}
use Rattle.std.specs.Coded.{le_prop, Coded-set, coded_ℕ}
use Rattle.model.specs.Books.{Meaning}
use Rattle.model.specs.Lists.{any, product}
use Rattle.model.specs.Prices.{Ops}
use Rattle.model.specs.Sets.{has}
use Rattle.model.specs.Searched.{bytes_in, within, within_same}
use Rattle.model.specs.Terms.{Plan, Term, put, least, least_price, floor, cost, touching}
use Rattle.search.specs.Places.{place, members, bays_from, byte_of, Open}
use Rattle.search.specs.declared.state.Line.{Line}
use Rattle.search.specs.declared.state.Passed.{Passed}
use Rattle.search.specs.declared.state.Passed.TheVariants.{Branched, Folded}

-- the choice of a branched line; of a folded one the terms in force before it, and its table's bays, first cell and size
abbrev pub choice_of : Passed → ℕ
choice_of (Branched c) = c
choice_of (Folded force table offset) = 0

abbrev pub is_folded : Passed → Bool
is_folded (Branched c) = false
is_folded (Folded force table offset) = true

abbrev pub force_of : Passed → List Bool
force_of (Branched c) = []
force_of (Folded force table offset) = force

abbrev pub scope_of : Passed → ℕ
scope_of (Branched c) = 0
scope_of (Folded force table offset) = table.near

abbrev pub offset_of : Passed → ℕ
offset_of (Branched c) = 0
offset_of (Folded force table offset) = offset

abbrev pub size_of : Passed → ℕ
size_of (Branched c) = 0
size_of (Folded force table offset) = table.size

-- what a line tells, field by field
pub record Told : Type 0 where
  pub bay : ℕ
  pub choice : ℕ
  pub folded : Bool
  pub force : List Bool
  pub scope : ℕ
  pub offset : ℕ
  pub size : ℕ

abbrev pub told : Line → Told
told l = record { bay = l.bay; choice = choice_of l.passed; folded = is_folded l.passed; force = force_of l.passed; scope = scope_of l.passed; offset = offset_of l.passed; size = size_of l.passed }

abbrev pub no_line : Line
no_line = record { bay = 0; passed = Branched 0 }

abbrev pub nth_line : List Line → ℕ → Line
nth_line lines d = slice_index_or lines d no_line

abbrev pub line_at : List Line → ℕ → Told
line_at lines d = told (nth_line lines d)

abbrev pub flag : List Bool → ℕ → Bool
flag force j = slice_index_or force j false

-- the bays of the term j: own prices by bay from 0, rules by number from 24, the tables of folded lines from 88
unfoldable pub scope_mask : {P : Type 0} → Meaning P → List Line → ℕ → ℕ
scope_mask m lines j = cond (nat_lt j 24) (2 ^ j) (cond (nat_lt j 88) (m.scope (j - 24)) (line_at lines (j - 88)).scope)

-- the cells of a line's table, and the price that they give a plan
abbrev pub block : {P : Type 0} → List P → Told → List P
block cells l = take l.size (drop l.offset cells)

abbrev pub table_value : {P : Type 0} → Ops P → List ℕ → ℕ → List P → Plan → P
table_value o cs mask cells π = slice_index_or cells (place (byte_of cs) 0 (bays_from mask 0) π) o.forbidden

-- the price of the term j under a plan within its bays
unfoldable pub raw : {P : Type 0} → Ops P → Meaning P → List ℕ → List Line → List P → ℕ → Plan → P
raw o m cs lines cells j π =
    cond (nat_lt j 24) (m.own j (π j)) (cond (nat_lt j 88) (m.price (j - 24) (bytes_in m π)) (table_value o cs (line_at lines (j - 88)).scope (block cells (line_at lines (j - 88))) π))

-- a term over the bays of a set
abbrev pub masked : {P : Type 0} → ℕ → (Plan → P) → Term P
masked mask f = record {
  scope = λ i. has mask i;
  value = λ π. f (within mask π);
  stable = λ π ρ h. ap f (within_same mask π ρ h);
}

abbrev pub term : {P : Type 0} → Ops P → Meaning P → List ℕ → List Line → List P → ℕ → Term P
term o m cs lines cells j = masked (scope_mask m lines j) (raw o m cs lines cells j)

-- the terms in force from the number j on
abbrev pub terms_from : {P : Type 0} → Ops P → Meaning P → List ℕ → List Line → List P → List Bool → ℕ → List (Term P)
terms_from o m cs lines cells force j = map (term o m cs lines cells) (members (flag force) j (112 - j))

-- the choices are the book's
abbrev pub Fits : {P : Type 0} → Meaning P → List ℕ → Type 0
Fits m cs = (i : ℕ) → slice_index cs i ≡ m.choices i

-- a folded line's table has a cell for each combination of its bays' choices
pub record LineOk (cs : List ℕ) (l : Told) : Type 0 where
  pub has_choices : Open cs l.scope
  pub size_is : l.size ≡ product (byte_of cs) (bays_from l.scope 0)
  pub small : l.size ≤ 4096

abbrev pub Sound : List ℕ → List Line → Type 0
Sound cs lines = (d : ℕ) → d < 24 → (line_at lines d).folded ≡ true → LineOk cs (line_at lines d)

-- that lines are sound has one proof at most
pub Sound_prop : (cs : List ℕ) (lines : List Line) → IsProp (Sound cs lines)
Sound_prop cs lines p q = λ i d l f. record {
  has_choices = λ b e. le_prop ((p d l f).has_choices b e) ((q d l f).has_choices b e) i;
  size_is = Coded-set coded_ℕ _ _ (p d l f).size_is (q d l f).size_is i;
  small = le_prop (p d l f).small (q d l f).small i;
}

-- the least of the term j over the bays left from b on, and over the first n choices of b
abbrev pub lowest_from : {P : Type 0} → Ops P → Meaning P → List ℕ → List Line → List P → ℕ → ℕ → ℕ → Plan → P
lowest_from o m cs lines cells j left b π = least_price o (byte_of cs) (term o m cs lines cells j) (bays_from left b) π

abbrev pub lowest_over_from : {P : Type 0} → Ops P → Meaning P → List ℕ → List Line → List P → ℕ → ℕ → ℕ → ℕ → Plan → P
lowest_over_from o m cs lines cells j left b n π = least o n (λ c. lowest_from o m cs lines cells j left (b + 1) (put b c π))

abbrev pub floor_from : {P : Type 0} → Ops P → Meaning P → List ℕ → List Line → List P → List Bool → ℕ → Plan → ℕ → P
floor_from o m cs lines cells force left π j = floor o (byte_of cs) (terms_from o m cs lines cells force j) (bays_from left 0) π

-- what the terms that touch b cost
abbrev pub charge_from : {P : Type 0} → Ops P → Meaning P → List ℕ → List Line → List P → List Bool → ℕ → Plan → ℕ → P
charge_from o m cs lines cells force b π j = cost o (touching b (terms_from o m cs lines cells force j)) π

abbrev pub trial : {P : Type 0} → Ops P → Meaning P → List ℕ → List Line → List P → List Bool → ℕ → Plan → ℕ → P
trial o m cs lines cells force b π c = charge_from o m cs lines cells force b (put b c π) 0

-- whether the bay i shares a term in force, from j on, with b
abbrev pub shares : {P : Type 0} → Meaning P → List Line → List Bool → ℕ → ℕ → ℕ → Bool
shares m lines force b j i = any (λ k. has (scope_mask m lines k) b && has (scope_mask m lines k) i) (members (flag force) j (112 - j))

-- the tables in force lie below the used cells' end
abbrev pub Under : List Line → List Bool → ℕ → Type 0
Under lines force used = (j : ℕ) → flag force j ≡ true → 88 ≤ j → j < 112 → (line_at lines (j - 88)).offset + (line_at lines (j - 88)).size ≤ used
