-- A course lists each of its bays once, with that bay's choices.
use Rattle.std.proofs.Common.{◌≡◌, ℕ, zero, suc, ◌+◌, ◌-◌, ◌<◌, ◌≤◌, Bool, true, false, cond, not, ◌&&◌, ◌||◌, eqb, List, [], ◌∷◌, map, length, refl, ap, ◌∙◌, arith}
use Rattle.std.specs.List.{range_with_len}
use Rattle.std.proofs.lemmas.List.FromFn.{length-range_with_len}
use Rattle.std.proofs.lemmas.Bool.{eqb-true, eq-eqb}
use Rattle.model.specs.Claims.{CourseLists}
use Rattle.model.specs.Course.{Passing, sure, decide, Line, drop_bay, connect, course, linked, passing_in, course_in}
use Rattle.model.specs.Lists.{Each, member, times}
use Rattle.model.proofs.Kept.{member_keep, keep_fewer, member_counting}

-- the bay that is decided is left
sure_in : (r : ℕ) (rs : List ℕ) (b : ℕ) → member (sure r rs b) (r ∷ rs) ≡ true
sure_in r rs b = go (member b (r ∷ rs)) refl
  where
    go : (t : Bool) → member b (r ∷ rs) ≡ t → member (cond t b r) (r ∷ rs) ≡ true
    go true e = e
    go false e = ap (λ (t : Bool). t || member r rs) (eq-eqb r r refl)

pub decide_in : (S : Passing) (adj : ℕ → ℕ → Bool) (unused r : ℕ) (rs : List ℕ) → member (decide S adj unused r rs).bay (r ∷ rs) ≡ true
unfolding decide
decide_in S adj unused r rs = sure_in r rs _

pub drop_fewer : (b : ℕ) (left : List ℕ) → member b left ≡ true → length (drop_bay b left) < length left
drop_fewer b left m = keep_fewer (λ i. not (eqb i b)) b left m (ap not (eq-eqb b b refl))

-- how often a number is listed: once if it is left
one_more : (b x : ℕ) (left : List ℕ) (rest : ℕ) → member x left ≡ true → rest ≡ cond (member b (drop_bay x left)) 1 0 → cond (eqb b x) 1 0 + rest ≡ cond (member b left) 1 0
one_more b x left rest m e = go (eqb b x) refl (e ∙ ap (λ (t : Bool). cond t 1 0) (member_keep (λ i. not (eqb i x)) b left))
  where
    go : (t : Bool) → eqb b x ≡ t → rest ≡ cond (not (eqb b x) && member b left) 1 0 → cond t 1 0 + rest ≡ cond (member b left) 1 0
    go true q h =
        let there : member b left ≡ true = ap (λ (y : ℕ). member y left) (eqb-true b x q) ∙ m in
        let none : rest ≡ 0 = h ∙ ap (λ (t : Bool). cond (not t && member b left) 1 0) q in
        let one : ◌≡◌ {A = ℕ} (cond (member b left) 1 0) 1 = ap {B = ℕ} (λ (t : Bool). cond t 1 0) there in
        omega arith
    go false q h = let same : rest ≡ cond (member b left) 1 0 = h ∙ ap (λ (t : Bool). cond (not t && member b left) 1 0) q in omega arith

module _ (S : Passing) where
  abbrev bays : List Line → List ℕ
  bays = map (λ l. l.bay)

  pub listed_once : (n : ℕ) (left : List ℕ) (adj : ℕ → ℕ → Bool) (unused : ℕ) → length left ≤ n → (b : ℕ) → times b (bays (course S n left adj unused)) ≡ cond (member b left) 1 0
  listed_once zero [] adj unused h b = refl
  listed_once zero (r ∷ rs) adj unused h b = absurd (omega arith)
  listed_once (suc n) [] adj unused h b = refl
  listed_once (suc n) (r ∷ rs) adj unused h b =
      let d = decide S adj unused r rs in
      let there = decide_in S adj unused r rs in
      let few : length (drop_bay d.bay (r ∷ rs)) ≤ n = (let l = drop_fewer d.bay (r ∷ rs) there in omega arith) in
      one_more b d.bay (r ∷ rs) _ there (go d.fold d.bay d.cells (λ adj unused. listed_once n (drop_bay d.bay (r ∷ rs)) adj unused few b))
    where
      go : (f : Bool) (x c : ℕ) → ((adj : ℕ → ℕ → Bool) (unused : ℕ) → times b (bays (course S n (drop_bay x (r ∷ rs)) adj unused)) ≡ cond (member b (drop_bay x (r ∷ rs))) 1 0)
          → times b (bays (elim f [ true ↦ course S n (drop_bay x (r ∷ rs)) (connect x adj) (unused - c) | false ↦ course S n (drop_bay x (r ∷ rs)) adj unused ])) ≡ cond (member b (drop_bay x (r ∷ rs))) 1 0
      go true x c ih = ih (connect x adj) (unused - c)
      go false x c ih = ih adj unused

  pub listed_tries : (n : ℕ) (left : List ℕ) (adj : ℕ → ℕ → Bool) (unused : ℕ) → Each (λ l. l.tries ≡ S.choices l.bay) (course S n left adj unused)
  listed_tries zero left adj unused = tt
  listed_tries (suc n) [] adj unused = tt
  listed_tries (suc n) (r ∷ rs) adj unused =
      let d = decide S adj unused r rs in
      (refl, go d.fold d.bay d.cells (λ adj unused. listed_tries n (drop_bay d.bay (r ∷ rs)) adj unused))
    where
      go : (f : Bool) (x c : ℕ) → ((adj : ℕ → ℕ → Bool) (unused : ℕ) → Each (λ l. l.tries ≡ S.choices l.bay) (course S n (drop_bay x (r ∷ rs)) adj unused))
          → Each (λ l. l.tries ≡ S.choices l.bay) (elim f [ true ↦ course S n (drop_bay x (r ∷ rs)) (connect x adj) (unused - c) | false ↦ course S n (drop_bay x (r ∷ rs)) adj unused ])
      go true x c ih = ih (connect x adj) (unused - c)
      go false x c ih = ih adj unused

pub course_lists : {P : Type 0} → CourseLists P
unfolding course_in
course_lists m pick k cells = record {
  once = λ b.
      listed_once (passing_in m pick k) m.bays (range_with_len 0 m.bays) (linked m) cells (omega (arith, length-range_with_len 0 m.bays)) b
      ∙ ap (λ (t : Bool). cond t 1 0) (member_counting m.bays b);
  tries = listed_tries (passing_in m pick k) m.bays (range_with_len 0 m.bays) (linked m) cells;
}
