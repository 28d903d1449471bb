-- The course on sets is the course of the model.
use Rattle.std.proofs.Common.{◌≡◌, ℕ, zero, suc, ◌-◌, ◌^◌, ◌<◌, Bool, true, false, cond, not, ◌&&◌, ◌||◌, eqb, leb, List, [], ◌∷◌, map, length, get_or, ℤ, pos, sym, refl, ap, ◌∙◌, ap₂, arith}
use Rattle.std.specs.Prelude.{is_some, unwrap_or}
use mathlib.Core.Path.{fun_ext}
use native.Mathlib.Nat.{sub-zero}
use lib.Bits.{bit_and}
use lib.Count.{ones}
use Rattle.std.specs.List.{range_with_len}
use Rattle.std.proofs.lemmas.Nat.{and_le_r}
use Rattle.std.proofs.lemmas.List.FromFn.{get_or-map-range_with_len}
use Rattle.std.proofs.lemmas.Bool.{eqb-true, eq-eqb, ne_eqb, both_ways, cond-true}
use Rattle.model.specs.Sets.{has, one, minus}
use Rattle.bays.specs.Neighbours.{joined, connected}
use Rattle.bays.proofs.Joined.{joined_has}
use Rattle.model.proofs.Bits.{has_minus, has_one, has_below, minus_small}
use Rattle.model.proofs.Kept.{keep_keep, keep_same, turn}
use Rattle.pickers.specs.declared.question.Question.{Question}
use Rattle.pickers.specs.Questions.{asked, seen, kept}
use Rattle.pickers.proofs.Asked.{seen_has}
use lib.Signed.{le_z}
use Rattle.model.specs.Lists.{any, member, product}
use Rattle.model.specs.Course.{View, Passing, Step as Decided, near, views, decide, sure, course, connect, drop_bay}
use Rattle.course.specs.declared.line.Line.{Line}
use Rattle.course.specs.declared.line.Step.{Step}
use Rattle.course.specs.Masks.{bays_of, product_of, settled, step_at, decided, course_of}
use Rattle.course.specs.Views.{set_of, near_in, tries_in, question_of}
use Rattle.course.specs.Written.{written}
use Rattle.course.specs.Links.{Linked, Agree}
use Rattle.course.proofs.Bayed.{bays_member, drop_is, bays_count, set_is}
use Rattle.course.proofs.Steps.{one_fewer, some_from_ones}

-- neighbours
pub seen_small : (m near b : ℕ) → m < 2 ^ 24 → seen m near b < 2 ^ 24
seen_small m near b h = go (has m b)
  where
    go : (t : Bool) → cond t (minus (bit_and near m) (one b)) 0 < 2 ^ 24
    go true = minus_small 24 (bit_and near m) (one b) (omega (arith, and_le_r near m))
    go false = omega arith

pub near_is : (m b : ℕ) (ms : List ℕ) (adj : ℕ → ℕ → Bool) → has m b ≡ true → Agree m ms adj → near adj (bays_of m) b ≡ bays_of (seen m (get_or ms b 0) b)
unfolding bays_of
near_is m b ms adj h agree =
    keep_keep (λ i. not (eqb i b) && adj b i) (has m) (range_with_len 0 24)
    ∙ keep_same (λ i. has m i && (not (eqb i b) && adj b i)) (has (seen m (get_or ms b 0) b)) (range_with_len 0 24) (λ i. at i (has m i) refl (eqb i b) refl ∙ sym (seen_has m (get_or ms b 0) b i ∙ ap (λ (t : Bool). t && ((has (get_or ms b 0) i && has m i) && not (eqb b i))) h))
  where
    none : (x : Bool) → false ≡ ((x && false) && not (eqb b b))
    none true = refl
    none false = refl

    no_more : (x : Bool) → false ≡ (x && false)
    no_more true = refl
    no_more false = refl

    all : (x : Bool) → x ≡ ((x && true) && true)
    all true = refl
    all false = refl

    at : (i : ℕ) (t : Bool) → has m i ≡ t → (e : Bool) → eqb i b ≡ e → (t && (not e && adj b i)) ≡ ((has (get_or ms b 0) i && has m i) && not (eqb b i))
    at i false ht e he = off (has (get_or ms b 0) i) ∙ ap (λ (x : Bool). (has (get_or ms b 0) i && x) && not (eqb b i)) (sym ht)
      where
        off : (x : Bool) → false ≡ ((x && false) && not (eqb b i))
        off true = refl
        off false = refl
    at i true ht true he = no_more (has (get_or ms b 0) i && has m i) ∙ ap (λ (x : Bool). (has (get_or ms b 0) i && has m i) && not x) (sym (turn b i ∙ he))
    at i true ht false he =
        sym (agree b i h ht (λ s. both_ways (eqb i b) he (eq-eqb i b (sym s))))
        ∙ all (has (get_or ms b 0) i)
        ∙ ap₂ (λ (x y : Bool). (has (get_or ms b 0) i && x) && not y) (sym ht) (sym (turn b i ∙ he))

-- what is in view
module _ (S : Passing) (adj : ℕ → ℕ → Bool) (left : List ℕ) where
  abbrev view : ℕ → View
  view b = record { bay = b; near = near adj left b; tries = S.choices b }

  in_view : (b : ℕ) (xs : List ℕ) → any (λ (v : View). eqb b v.bay) (map view xs) ≡ member b xs
  in_view b [] = refl
  in_view b (x ∷ xs) = ap (λ (t : Bool). eqb b x || t) (in_view b xs)

  near_view : (b : ℕ) (xs : List ℕ) → near_in (map view xs) b ≡ cond (member b xs) (set_of (λ i. member i (near adj left b))) 0
  near_view b [] = refl
  near_view b (x ∷ xs) = go (eqb b x) refl (near_view b xs)
    where
      go : (t : Bool) → eqb b x ≡ t → near_in (map view xs) b ≡ cond (member b xs) (set_of (λ i. member i (near adj left b))) 0 → cond t (set_of (λ i. member i (near adj left x))) (near_in (map view xs) b) ≡ cond (t || member b xs) (set_of (λ i. member i (near adj left b))) 0
      go true e ih = ap (λ (y : ℕ). set_of (λ i. member i (near adj left y))) (sym (eqb-true b x e))
      go false e ih = ih

  tries_view : (b : ℕ) (xs : List ℕ) → tries_in (map view xs) b ≡ cond (member b xs) (S.choices b) 0
  tries_view b [] = refl
  tries_view b (x ∷ xs) = go (eqb b x) refl (tries_view b xs)
    where
      go : (t : Bool) → eqb b x ≡ t → tries_in (map view xs) b ≡ cond (member b xs) (S.choices b) 0 → cond t (S.choices x) (tries_in (map view xs) b) ≡ cond (t || member b xs) (S.choices b) 0
      go true e ih = ap S.choices (sym (eqb-true b x e))
      go false e ih = ih

module _ (S : Passing) (pick : Question → ℕ) (cs : List ℕ) (linked : Linked S pick cs) where
  pub question_is : (m : ℕ) (ms : List ℕ) (adj : ℕ → ℕ → Bool) (k : ℤ) → m < 2 ^ 24 → Agree m ms adj → question_of (views S adj (bays_of m)) k ≡ asked m ms cs k
  question_is m ms adj k small agree = λ i. record {
    remaining = set_is m (λ b. any (λ (v : View). eqb b v.bay) (views S adj (bays_of m))) small (λ b. in_view S adj (bays_of m) b (bays_of m) ∙ bays_member m b small) i;
    neighbours = map (fun_ext nears i) (range_with_len 0 24);
    choices = map (fun_ext tries i) (range_with_len 0 24);
    k = k;
  }
    where
      nears : (b : ℕ) → near_in (views S adj (bays_of m)) b ≡ seen m (get_or ms b 0) b
      nears b = near_view S adj (bays_of m) b (bays_of m) ∙ ap (λ (t : Bool). cond t (set_of (λ i. member i (near adj (bays_of m) b))) 0) (bays_member m b small) ∙ go (has m b) refl
        where
          go : (t : Bool) → has m b ≡ t → cond t (set_of (λ i. member i (near adj (bays_of m) b))) 0 ≡ cond t (minus (bit_and (get_or ms b 0) m) (one b)) 0
          go true e =
              ap (λ (xs : List ℕ). set_of (λ i. member i xs)) (near_is m b ms adj e agree)
              ∙ set_is (seen m (get_or ms b 0) b) (λ i. member i (bays_of (seen m (get_or ms b 0) b))) (seen_small m (get_or ms b 0) b small) (λ i. bays_member (seen m (get_or ms b 0) b) i (seen_small m (get_or ms b 0) b small))
              ∙ ap (λ (t : Bool). cond t (minus (bit_and (get_or ms b 0) m) (one b)) 0) e
          go false e = refl

      tries : (b : ℕ) → tries_in (views S adj (bays_of m)) b ≡ kept m (get_or cs b 0) b
      tries b = tries_view S adj (bays_of m) b (bays_of m) ∙ ap₂ (λ (t : Bool) (n : ℕ). cond t n 0) (bays_member m b small) (sym (linked.tells b))

  -- a step
  verdict : ℕ → ℕ → List ℕ → Decided
  verdict unused b ns = record { bay = b; fold = le_z (pos (length ns)) S.k && leb (product S.choices ns) unused; cells = product S.choices ns }

  shown : Bool → ℕ → ℕ → Decided
  shown f b n = record { bay = b; fold = f; cells = n }

  folds : ℕ → ℕ → Bool
  folds unused ns = le_z (pos (ones ns)) S.k && leb (product_of cs ns) unused

  same_product : (ns : ℕ) → product S.choices (bays_of ns) ≡ product_of cs ns
  unfolding product_of
  same_product ns = ap (λ (f : ℕ → ℕ). product f (bays_of ns)) (fun_ext (λ i. sym (linked.tells i)))

  verdict_is : (unused b ns : ℕ) → ns < 2 ^ 24 → verdict unused b (bays_of ns) ≡ shown (folds unused ns) b (product_of cs ns)
  unfolding verdict shown folds
  verdict_is unused b ns small =
      ap₂ (λ (n p : ℕ). record { bay = b; fold = le_z (pos n) S.k && leb p unused; cells = p }) (bays_count ns small) (same_product ns)

  next : ℕ → List ℕ → ℕ
  next m ms = pick (asked m ms cs S.k)

  next_has : (m : ℕ) (ms : List ℕ) → 0 < m → m < 2 ^ 24 → has m (next m ms) ≡ true
  unfolding next
  next_has m ms some small = linked.remains (asked m ms cs S.k) some small

  step_is : (m : ℕ) (ms : List ℕ) (adj : ℕ → ℕ → Bool) (unused : ℕ) → 0 < m → m < 2 ^ 24 → Agree m ms adj → (r : ℕ) (rs : List ℕ) → r ∷ rs ≡ bays_of m
      → decide S adj unused r rs ≡ shown (folds unused (seen m (get_or ms (next m ms) 0) (next m ms))) (next m ms) (product_of cs (seen m (get_or ms (next m ms) 0) (next m ms)))
  unfolding decide verdict next
  step_is m ms adj unused some small agree r rs e =
      ap (λ (x : ℕ). verdict unused x (near adj (r ∷ rs) x)) picked
      ∙ ap (λ (xs : List ℕ). verdict unused b (near adj xs b)) e
      ∙ ap (verdict unused b) (near_is m b ms adj (next_has m ms some small) agree)
      ∙ verdict_is unused b (seen m (get_or ms b 0) b) (seen_small m (get_or ms b 0) b small)
    where
      b : ℕ
      b = next m ms

      asks : S.pick (views S adj (r ∷ rs)) S.k ≡ next m ms
      asks = ap (λ (xs : List ℕ). S.pick (views S adj xs) S.k) e ∙ linked.asks (views S adj (bays_of m)) S.k ∙ ap pick (question_is m ms adj S.k small agree)

      there : member (next m ms) (r ∷ rs) ≡ true
      there = ap (member (next m ms)) e ∙ bays_member m (next m ms) small ∙ next_has m ms some small

      picked : sure r rs (S.pick (views S adj (r ∷ rs)) S.k) ≡ next m ms
      picked = ap (sure r rs) asks ∙ cond-true (member (next m ms) (r ∷ rs)) (next m ms) r there

  decided_is : (m : ℕ) (ms : List ℕ) (unused : ℕ) → 0 < m → m < 2 ^ 24
      → decided pick cs S.k ms m unused ≡ settled (next m ms) (folds unused (seen m (get_or ms (next m ms) 0) (next m ms))) (product_of cs (seen m (get_or ms (next m ms) 0) (next m ms)))
  unfolding decided step_at next folds
  decided_is m ms unused some small =
      ap (λ (x : ℕ). settled (next m ms) (le_z (pos (ones x)) S.k && leb (product_of cs x) unused) (product_of cs x))
      (get_or-map-range_with_len (λ (b : ℕ). seen m (get_or ms b 0) b) 0 24 (next m ms) (next m ms) 0 (has_below 24 m (next m ms) small (next_has m ms some small)) (omega arith))

  -- what stays after a bay is passed
  still : (m b i : ℕ) → has (minus m (one b)) i ≡ true → (has m i ≡ true) × (eqb b i ≡ false)
  still m b i h = go (has m i) (eqb b i) (sym (has_minus m (one b) i ∙ ap (λ (x : Bool). has m i && not x) (has_one b i)) ∙ h)
    where
      go : (x y : Bool) → (x && not y) ≡ true → (x ≡ true) × (y ≡ false)
      go true true e = absurd (both_ways false refl e)
      go true false e = (refl, refl)
      go false y e = absurd (both_ways false refl e)

  apart : (a b : ℕ) → eqb a b ≡ false → a ≡ b → ⊥
  apart a b e s = both_ways (eqb a b) e (eq-eqb a b s)

  agree_branched : (m b : ℕ) (ms : List ℕ) (adj : ℕ → ℕ → Bool) → Agree m ms adj → Agree (minus m (one b)) ms adj
  agree_branched m b ms adj agree i j hi hj ne = agree i j (still m b i hi).0 (still m b j hj).0 ne

  agree_folded : (m b : ℕ) (ms : List ℕ) (adj : ℕ → ℕ → Bool) → m < 2 ^ 24 → has m b ≡ true → Agree m ms adj → Agree (minus m (one b)) (connected ms b) (connect b adj)
  agree_folded m b ms adj small hb agree i j hi hj ne =
      let i_in = still m b i hi in
      let j_in = still m b j hj in
      ap (λ (x : ℕ). has x j) (get_or-map-range_with_len (λ (n : ℕ). joined (get_or ms n 0) (get_or ms b 0) b n) 0 24 i i 0 (has_below 24 m i small i_in.0) (omega arith))
      ∙ joined_has (get_or ms i 0) (get_or ms b 0) b i j
      ∙ ap₂ (λ (x y : Bool). cond (has (get_or ms b 0) i) (((has (get_or ms i 0) j || has (get_or ms b 0) j) && not x) && not y) (has (get_or ms i 0) j)) (ne_eqb i j ne) j_in.1
      ∙ tidy (has (get_or ms b 0) i) (has (get_or ms i 0) j) (has (get_or ms b 0) j)
      ∙ ap₂ (λ (x y : Bool). x || (y && has (get_or ms b 0) j)) (agree i j i_in.0 j_in.0 ne) (agree b i hb i_in.0 (apart b i i_in.1))
      ∙ ap (λ (z : Bool). adj i j || (adj b i && z)) (agree b j hb j_in.0 (apart b j j_in.1))
    where
      tidy : (x y z : Bool) → cond x (((y || z) && true) && true) y ≡ (y || (x && z))
      tidy true true z = refl
      tidy true false true = refl
      tidy true false false = refl
      tidy false true z = refl
      tidy false false z = refl

  follow : ℕ → List ℕ → (ℕ → ℕ → Bool) → ℕ → Decided → List Line
  follow n left adj unused d =
      written (record { bay = d.bay; tries = S.choices d.bay; fold = d.fold })
      ∷ map written (elim d.fold [
        | true ↦ course S n (drop_bay d.bay left) (connect d.bay adj) (unused - d.cells)
        | false ↦ course S n (drop_bay d.bay left) adj unused
      ])

  onward : ℕ → List ℕ → ℕ → ℕ → Step → List Line
  onward n ms m unused d =
      record { bay = d.bay; choices = get_or cs d.bay 0; folded = is_some d.table }
      ∷ course_of pick cs S.k n (cond (is_some d.table) (connected ms d.bay) ms) (minus m (one d.bay)) (unused - unwrap_or d.table 0)

  SameCourse : ℕ → Type 0
  SameCourse n = (m : ℕ) (ms : List ℕ) (adj : ℕ → ℕ → Bool) (unused : ℕ) → m < 2 ^ 24 → ones m ≡ n → Agree m ms adj
      → map written (course S n (bays_of m) adj unused) ≡ course_of pick cs S.k n ms m unused

  passed : (n m : ℕ) (ms : List ℕ) (adj : ℕ → ℕ → Bool) (unused : ℕ) → SameCourse n → m < 2 ^ 24 → ones m ≡ suc n → Agree m ms adj → (b : ℕ) → has m b ≡ true → (f : Bool) (p : ℕ)
      → follow n (bays_of m) adj unused (shown f b p) ≡ onward n ms m unused (settled b f p)
  unfolding follow onward shown SameCourse
  passed n m ms adj unused ih small count agree b hb true p =
      ap₂ (λ (x : ℕ) (ls : List Line). record { bay = b; choices = x; folded = true } ∷ ls) (sym (linked.tells b))
      (ap (λ (xs : List ℕ). map written (course S n xs (connect b adj) (unused - p))) (drop_is m b)
      ∙ ih (minus m (one b)) (connected ms b) (connect b adj) (unused - p) (minus_small 24 m (one b) small) (one_fewer m b (suc n) hb count ∙ omega arith) (agree_folded m b ms adj small hb agree))
  passed n m ms adj unused ih small count agree b hb false p =
      ap₂ (λ (x : ℕ) (ls : List Line). record { bay = b; choices = x; folded = false } ∷ ls) (sym (linked.tells b))
      (ap (λ (xs : List ℕ). map written (course S n xs adj unused)) (drop_is m b)
      ∙ ih (minus m (one b)) ms adj unused (minus_small 24 m (one b) small) (one_fewer m b (suc n) hb count ∙ omega arith) (agree_branched m b ms adj agree)
      ∙ ap (λ (u : ℕ). course_of pick cs S.k n ms (minus m (one b)) u) (sym (sub-zero unused)))

  same_course : (n : ℕ) → SameCourse n
  unfolding SameCourse follow onward
  same_course zero m ms adj unused small count agree = refl
  same_course (suc n) m ms adj unused small count agree = go (bays_of m) refl (same_course n)
    where
      some : 0 < m
      some = some_from_ones m (omega arith)

      go : (left : List ℕ) → left ≡ bays_of m → SameCourse n → map written (course S (suc n) left adj unused) ≡ course_of pick cs S.k (suc n) ms m unused
      go [] e ih = absurd (omega (arith, ap length e, bays_count m small))
      go (r ∷ rs) e ih =
          ap (λ (xs : List ℕ). follow n xs adj unused (decide S adj unused r rs)) e
          ∙ ap (follow n (bays_of m) adj unused) (step_is m ms adj unused some small agree r rs e)
          ∙ passed n m ms adj unused ih small count agree (next m ms) (next_has m ms some small) (folds unused (seen m (get_or ms (next m ms) 0) (next m ms))) (product_of cs (seen m (get_or ms (next m ms) 0) (next m ms)))
          ∙ ap (onward n ms m unused) (sym (decided_is m ms unused some small))

  pub course_is : (n m : ℕ) (ms : List ℕ) (adj : ℕ → ℕ → Bool) (unused : ℕ) → m < 2 ^ 24 → ones m ≡ n → Agree m ms adj
      → map written (course S n (bays_of m) adj unused) ≡ course_of pick cs S.k n ms m unused
  unfolding SameCourse
  course_is n = same_course n

  -- what the code's step says is what the search decides
  pub decide_is : (m : ℕ) (ms : List ℕ) (adj : ℕ → ℕ → Bool) (unused : ℕ) → 0 < m → m < 2 ^ 24 → Agree m ms adj → (r : ℕ) (rs : List ℕ) → r ∷ rs ≡ bays_of m
      → settled (decide S adj unused r rs).bay (decide S adj unused r rs).fold (decide S adj unused r rs).cells ≡ decided pick cs S.k ms m unused
  unfolding shown
  decide_is m ms adj unused some small agree r rs e =
      ap (λ (d : Decided). settled d.bay d.fold d.cells) (step_is m ms adj unused some small agree r rs e) ∙ sym (decided_is m ms unused some small)
