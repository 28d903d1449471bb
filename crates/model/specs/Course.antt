-- How bays are passed one after another, the course that lists them, and its forecast.
use Rattle.std.specs.Prelude.{ℕ, zero, suc, ◌+◌, ◌-◌, ◌*◌, min, Bool, true, false, cond, not, ◌&&◌, ◌||◌, List, [], ◌∷◌, map, length, ℤ, pos, ◌==◌, int_le, nat_le}
use Rattle.std.specs.List.{range_with_len}
use Rattle.model.specs.Books.{Meaning}
use Rattle.model.specs.Lists.{keep, any, member, product}
use Rattle.model.specs.Sets.{has}

-- what a picker is told of a bay that remains: its neighbours, and how many choices it has
pub record View : Type 0 where
  pub bay : ℕ
  pub near : List ℕ
  pub tries : ℕ

-- a picker's answers: from what it is told of all that remain, and k
abbrev pub Answers : Type 0
Answers = List View → ℤ → ℕ

-- what stays the same while bays are passed
pub record Passing : Type 0 where
  pub choices : ℕ → ℕ
  pub pick : Answers
  pub k : ℤ

-- the neighbours of a bay: the others of the bays left that are adjacent to it
abbrev pub near : (ℕ → ℕ → Bool) → List ℕ → ℕ → List ℕ
near adj left b = keep (λ i. not (i == b) && adj b i) left

abbrev pub views : Passing → (ℕ → ℕ → Bool) → List ℕ → List View
views S adj left = map (λ b. record { bay = b; near = near adj left b; tries = S.choices b }) left

-- the picked bay; an answer that is not left counts as the first one left
abbrev pub sure : ℕ → List ℕ → ℕ → ℕ
sure r rs b = cond (member b (r ∷ rs)) b r

-- what is decided of the next bay: which it is, whether it is folded, and at how many cells
pub record Step : Type 0 where
  pub bay : ℕ
  pub fold : Bool
  pub cells : ℕ

-- A bay is folded if its neighbours number at most k, and the combinations of their choices fit the unused cells. The
-- bays left are given as the first and the others, so that there is one.
unfoldable pub decide : Passing → (ℕ → ℕ → Bool) → ℕ → ℕ → List ℕ → Step
decide S adj unused r rs =
    let b = sure r rs (S.pick (views S adj (r ∷ rs)) S.k) in
    let ns = near adj (r ∷ rs) b in
    let m = product S.choices ns in
    record { bay = b; fold = int_le (pos (length ns)) S.k && nat_le m unused; cells = m }

-- a line of a course
pub record Line : Type 0 where
  pub bay : ℕ
  pub tries : ℕ
  pub fold : Bool

abbrev pub drop_bay : ℕ → List ℕ → List ℕ
drop_bay b = keep (λ i. not (i == b))

-- once b is folded, its neighbours are neighbours of one another
abbrev pub connect : ℕ → (ℕ → ℕ → Bool) → ℕ → ℕ → Bool
connect b adj i j = adj i j || (adj b i && adj b j)

-- the course of the bays left; n bounds how many there are
abbrev pub course : Passing → ℕ → List ℕ → (ℕ → ℕ → Bool) → ℕ → List Line
course S zero left adj unused = []
course S (suc n) left adj unused = elim left [
  | [] ↦ []
  | r ∷ rs ↦
      let d = decide S adj unused r rs in
      record { bay = d.bay; tries = S.choices d.bay; fold = d.fold } ∷ (elim d.fold [
        | true ↦ course S n (drop_bay d.bay (r ∷ rs)) (connect d.bay adj) (unused - d.cells)
        | false ↦ course S n (drop_bay d.bay (r ∷ rs)) adj unused
      ])
]

-- two bays are adjacent at the start where a rule has both
abbrev pub linked : {P : Type 0} → Meaning P → ℕ → ℕ → Bool
linked m i j = any (λ r. has (m.scope r) i && has (m.scope r) j) (range_with_len 0 m.rules)

abbrev pub passing_in : {P : Type 0} → Meaning P → Answers → ℤ → Passing
passing_in m pick k = record { choices = m.choices; pick = pick; k = k }

-- the course of a book under a picker, with k and a number of cells
unfoldable pub course_in : {P : Type 0} → Meaning P → Answers → ℤ → ℕ → List Line
course_in m pick k cells = course (passing_in m pick k) m.bays (range_with_len 0 m.bays) (linked m) cells

-- the forecast, not yet capped
abbrev pub forecast : List Line → ℕ
forecast [] = 1
forecast (l ∷ ls) = cond l.fold (1 + forecast ls) (1 + l.tries * forecast ls)

-- a forecast is told as a number of 64 bits
abbrev pub capped : ℕ → ℕ
capped n = min n 18446744073709551615
