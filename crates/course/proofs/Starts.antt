-- The course of a book from its neighbour sets at the start.
use Rattle.std.proofs.Common.{◌≡◌, ℕ, zero, suc, ◌+◌, ◌-◌, ◌*◌, ◌^◌, ◌<◌, ◌≤◌, Bool, true, false, cond, ◌&&◌, ◌||◌, ltb, List, [], ◌∷◌, ◌++◌, map, length, get_or, take, drop, ℤ, sym, refl, ap, ◌∙◌, subst, ap₂, ⊎_elim, arith, pow_pos, pow_mono}
use native.Mathlib.Nat.{sub-zero}
use lib.Bits.{bit_or}
use Rattle.std.specs.Int.Count.{ones-ones}
use Rattle.std.specs.List.{range_with_len}
use Rattle.std.proofs.lemmas.List.FromFn.{get_or-map-range_with_len, length-map-range_with_len}
use Rattle.std.proofs.lemmas.List.{get_or_past, take_at}
use Rattle.std.proofs.lemmas.Bool.{cases_lt, eq-eqb, lt-ltb, le-ltb, ltb-true}
use Rattle.model.specs.Books.{Meaning, BookLaws}
use Rattle.model.specs.Claims.{Lists, states}
use Rattle.model.specs.Course.{linked, passing_in, course, course_in, forecast, capped, Line as Passed}
use Rattle.model.specs.Lists.{keep, any}
use Rattle.model.specs.Prices.{Ops}
use Rattle.model.specs.Sets.{bit, has}
use Rattle.model.proofs.Bits.{has_or, has_none, has_below, full_bit}
use Rattle.model.proofs.Counted.{forecast_counts}
use Rattle.model.proofs.Kept.{same_bools, keep_same, counting_more, any_append}
use Rattle.model.proofs.Listed.{course_lists}
use Rattle.pickers.specs.declared.question.Question.{Question}
use Rattle.course.specs.declared.line.Line.{Line}
use Rattle.course.specs.Links.{Linked, Agree}
use Rattle.course.specs.Masks.{bays_of, touched, sets_of, tries_of, course_of}
use Rattle.course.specs.Replies.{lines_of, Tells}
use Rattle.course.specs.Views.{answers_of}
use Rattle.course.specs.Written.{written, unwritten, forecast_of}
use Rattle.course.proofs.Bridge.{course_is}

-- of the bays at the start
keep_none : (t a c : ℕ) → c ≤ a → keep (λ i. ltb i c) (range_with_len a t) ≡ []
keep_none zero a c h = refl
keep_none (suc t) a c h = ap (λ (x : Bool). cond x (a ∷ keep (λ i. ltb i c) (range_with_len (a + 1) t)) (keep (λ i. ltb i c) (range_with_len (a + 1) t))) (le-ltb a c h) ∙ keep_none t (a + 1) c (omega arith)

keep_first : (t a n c : ℕ) → n ≤ t → a + n ≡ c → keep (λ i. ltb i c) (range_with_len a t) ≡ range_with_len a n
keep_first t a zero c h e = keep_none t a c (omega arith)
keep_first zero a (suc n) c h e = absurd (omega arith)
keep_first (suc t) a (suc n) c h e =
    ap (λ (x : Bool). cond x (a ∷ keep (λ i. ltb i c) (range_with_len (a + 1) t)) (keep (λ i. ltb i c) (range_with_len (a + 1) t))) (lt-ltb a c (omega arith))
    ∙ ap (λ (xs : List ℕ). a ∷ xs) (keep_first t (a + 1) n c (omega arith) (omega arith))

pub full_small : (n : ℕ) → n ≤ 24 → 2 ^ n - 1 < 2 ^ 24
full_small n h = omega (arith, pow_mono h, pow_pos n)

full_has : (n i : ℕ) → has (2 ^ n - 1) i ≡ ltb i n
full_has n i = same_bools (has (2 ^ n - 1) i) (ltb i n) (λ e. lt-ltb i n (has_below n (2 ^ n - 1) i (omega (arith, pow_pos n)) e)) (λ e. eq-eqb (bit (2 ^ n - 1) i) 1 (full_bit n i (ltb-true i n e)))

pub bays_full : (n : ℕ) → n ≤ 24 → bays_of (2 ^ n - 1) ≡ range_with_len 0 n
unfolding bays_of
bays_full n h = keep_same (has (2 ^ n - 1)) (λ i. ltb i n) (range_with_len 0 24) (full_has n) ∙ keep_first 24 0 n n h (omega arith)

-- two bays are adjacent at the start exactly when one is in the other's set
module _ {P : Type 0} (m : Meaning P) where
  both : ℕ → ℕ → ℕ → Bool
  both i j r = has (m.scope r) i && has (m.scope r) j

  by_rules : (i j n : ℕ) → any (both i j) (range_with_len 0 n) ≡ has (touched m.scope i n) j
  unfolding both
  by_rules i j zero = sym (has_none j)
  by_rules i j (suc n) =
      ap (any (both i j)) (counting_more 0 n)
      ∙ any_append (both i j) (range_with_len 0 n) ((0 + n) ∷ [])
      ∙ ap₂ (λ (x : Bool) (k : ℕ). x || ((has (m.scope k) i && has (m.scope k) j) || false)) (by_rules i j n) (omega arith)
      ∙ go (has (m.scope n) i)
    where
      or_no : (x y : Bool) → (x || ((true && y) || false)) ≡ (x || y)
      or_no true y = refl
      or_no false true = refl
      or_no false false = refl

      or_none : (x : Bool) → (x || false) ≡ x
      or_none true = refl
      or_none false = refl

      go : (t : Bool) → (has (touched m.scope i n) j || ((t && has (m.scope n) j) || false)) ≡ has (cond t (bit_or (touched m.scope i n) (m.scope n)) (touched m.scope i n)) j
      go true = or_no (has (touched m.scope i n) j) (has (m.scope n) j) ∙ sym (has_or (touched m.scope i n) (m.scope n) j)
      go false = or_none (has (touched m.scope i n) j)

  pub agree_start : (r : ℕ) → r < 2 ^ 24 → Agree r (sets_of m.scope m.rules) (linked m)
  unfolding both
  agree_start r small i j hi hj ne =
      ap (λ (x : ℕ). has x j) (get_or-map-range_with_len (λ (b : ℕ). touched m.scope b m.rules) 0 24 i i 0 (has_below 24 r i small hi) (omega arith))
      ∙ sym (by_rules i j m.rules)

-- the lines
lines_count : (pick : Question → ℕ) (cs : List ℕ) (k : ℤ) (n : ℕ) (ms : List ℕ) (m unused : ℕ) → length (course_of pick cs k n ms m unused) ≡ n
lines_count pick cs k zero ms m unused = refl
lines_count pick cs k (suc n) ms m unused = ap suc (lines_count pick cs k n _ _ _)

pub forecast_is : (ls : List Passed) → forecast_of (map written ls) ≡ forecast ls
forecast_is [] = refl
forecast_is (l ∷ ls) = ap (λ (n : ℕ). cond l.fold (1 + n) (1 + l.tries * n)) (forecast_is ls)

unwrites : (ls : List Passed) → map unwritten (map written ls) ≡ ls
unwrites [] = refl
unwrites (l ∷ ls) = ap (λ (xs : List Passed). l ∷ xs) (unwrites ls)

module _ {P : Type 0} (o : Ops P) (m : Meaning P) (laws : BookLaws o m) (pick : Question → ℕ)
    (remains : (q : Question) → 0 < q.remaining → q.remaining < 2 ^ 24 → has q.remaining (pick q) ≡ true) where
  links : (k : ℤ) → Linked (passing_in m (answers_of pick) k) pick (tries_of m.choices)
  links k = record { asks = λ vs r. refl; tells = tells; remains = remains }
    where
      tells : (i : ℕ) → get_or (tries_of m.choices) i 0 ≡ m.choices i
      tells i =
          ⊎_elim (λ l. get_or-map-range_with_len m.choices 0 24 i i 0 l (omega arith))
          (λ g. get_or_past (tries_of m.choices) i 0 (omega (arith, length-map-range_with_len m.choices 0 24)) ∙ sym (laws.no_bay i (omega (arith, laws.few_bays))))
          (cases_lt i 24)

  pub lines_are : (k : ℤ) (cells : ℕ) → map written (lines_of m pick k cells) ≡ course_of pick (tries_of m.choices) k m.bays (sets_of m.scope m.rules) (2 ^ m.bays - 1) cells
  unfolding course_in
  lines_are k cells =
      let few = laws.few_bays in
      ap (λ (xs : List ℕ). map written (course (passing_in m (answers_of pick) k) m.bays xs (linked m) cells)) (sym (bays_full m.bays few))
      ∙ course_is (passing_in m (answers_of pick) k) pick (tries_of m.choices) (links k) m.bays (2 ^ m.bays - 1) (sets_of m.scope m.rules) (linked m) cells (full_small m.bays few) (ones-ones m.bays) (agree_start m (2 ^ m.bays - 1) (full_small m.bays few))

  pub lines_long : (k : ℤ) (cells : ℕ) → length (map written (lines_of m pick k cells)) ≡ m.bays
  lines_long k cells = ap length (lines_are k cells) ∙ lines_count pick (tries_of m.choices) k m.bays (sets_of m.scope m.rules) (2 ^ m.bays - 1) cells

  -- what a course says in words of its own
  pub told : (k : ℤ) (cells : ℕ) (rest : List Line) → Tells m (map written (lines_of m pick k cells) ++ rest) (capped (forecast (lines_of m pick k cells)))
  told k cells rest =
      let ls = lines_of m pick k cells in
      let back : map unwritten (take m.bays (map written ls ++ rest)) ≡ ls = ap (map unwritten) (take_at (map written ls) rest m.bays (lines_long k cells)) ∙ unwrites ls in
      record {
        lists = subst (Lists m) (sym back) (course_lists m (answers_of pick) k cells);
        counts = ap capped ((forecast_counts ls).counts ∙ ap (states 1) (sym back));
      }

pub front_lines : (ls rest : List Line) (n : ℕ) → length ls ≡ n → take (n - 0) (drop 0 (ls ++ rest)) ≡ ls
front_lines ls rest n e = ap (λ (k : ℕ). take k (ls ++ rest)) (sub-zero n) ∙ take_at ls rest n e
