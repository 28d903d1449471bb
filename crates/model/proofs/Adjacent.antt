-- A course depends only on which different bays left are adjacent.
use Rattle.std.proofs.Common.{◌≡◌, ℕ, zero, suc, ◌-◌, Bool, true, false, cond, not, ◌&&◌, eqb, leb, List, [], ◌∷◌, map, length, pos, sym, refl, ap, ◌∙◌, ap₂}
use lib.Signed.{le_z}
use Rattle.std.proofs.lemmas.Bool.{or_right, and_parts, not-true}
use Rattle.model.specs.Lists.{keep, member, product}
use Rattle.model.specs.Course.{View, Passing, Step, Line, near, views, sure, decide, drop_bay, connect, course}
use Rattle.model.proofs.Kept.{member_keep}
use Rattle.model.proofs.Listed.{decide_in}
use Rattle.model.proofs.Ordered.{member_head}

-- what is left without a bay
pub kept : (b : ℕ) (left : List ℕ) (i : ℕ) → member i (drop_bay b left) ≡ true → (eqb i b ≡ false) × (member i left ≡ true)
kept b left i m =
    let both = and_parts (not (eqb i b)) (member i left) (sym (member_keep (λ j. not (eqb j b)) i left) ∙ m) in
    (not-true (eqb i b) both.0, both.1)

-- two adjacencies that agree on different bays left
abbrev pub Agree : List ℕ → (ℕ → ℕ → Bool) → (ℕ → ℕ → Bool) → Type 0
Agree left a e = (i j : ℕ) → member i left ≡ true → member j left ≡ true → eqb j i ≡ false → a i j ≡ e i j

keep_agree : (p q : ℕ → Bool) (left : List ℕ) → ((i : ℕ) → member i left ≡ true → p i ≡ q i) → keep p left ≡ keep q left
keep_agree p q [] h = refl
keep_agree p q (r ∷ rs) h = ap₂ (λ x ys. cond x (r ∷ ys) ys) (h r (member_head r rs)) (keep_agree p q rs (λ i m. h i (or_right (eqb i r) _ m)))

map_agree : {A : Type 0} (f g : ℕ → A) (left : List ℕ) → ((i : ℕ) → member i left ≡ true → f i ≡ g i) → map f left ≡ map g left
map_agree f g [] h = refl
map_agree f g (r ∷ rs) h = ap₂ ◌∷◌ (h r (member_head r rs)) (map_agree f g rs (λ i m. h i (or_right (eqb i r) _ m)))

near_agree : (left : List ℕ) (a e : ℕ → ℕ → Bool) → Agree left a e → (b : ℕ) → member b left ≡ true → near a left b ≡ near e left b
near_agree left a e h b m = keep_agree _ _ left (λ i k. go i k (eqb i b) refl)
  where
    go : (i : ℕ) → member i left ≡ true → (x : Bool) → eqb i b ≡ x → (not x && a b i) ≡ (not x && e b i)
    go i k true q = refl
    go i k false q = h b i m k q

pub decide_agree : (S : Passing) (a e : ℕ → ℕ → Bool) (unused r : ℕ) (rs : List ℕ) → Agree (r ∷ rs) a e → decide S a unused r rs ≡ decide S e unused r rs
unfolding decide
decide_agree S a e unused r rs h =
    ap (λ v. made v (near a (r ∷ rs) (bay v))) same_views ∙ ap (made (views S e (r ∷ rs))) (near_agree (r ∷ rs) a e h _ (decide_in S e unused r rs))
  where
    bay : List View → ℕ
    bay v = sure r rs (S.pick v S.k)

    made : List View → List ℕ → Step
    made v ns = record { bay = bay v; fold = le_z (pos (length ns)) S.k && leb (product S.choices ns) unused; cells = product S.choices ns }

    same_views : views S a (r ∷ rs) ≡ views S e (r ∷ rs)
    same_views = map_agree _ _ (r ∷ rs) (λ b m. ap (λ ns. record { bay = b; near = ns; tries = S.choices b }) (near_agree (r ∷ rs) a e h b m))

-- after a bay is passed
pub agree_drop : (b : ℕ) (left : List ℕ) (a e : ℕ → ℕ → Bool) → Agree left a e → Agree (drop_bay b left) a e
agree_drop b left a e same i j m n d = same i j (kept b left i m).1 (kept b left j n).1 d

pub agree_connect : (b : ℕ) (left : List ℕ) (a e : ℕ → ℕ → Bool) → member b left ≡ true → Agree left a e → Agree (drop_bay b left) (connect b a) (connect b e)
agree_connect b left a e h same i j m n d =
    let x = kept b left i m in
    let y = kept b left j n in
    rw (same i j x.1 y.1 d, same b i h x.1 x.0, same b j h y.1 y.0) refl

module _ (S : Passing) where
  lines : ℕ → List ℕ → (ℕ → ℕ → Bool) → ℕ → Step → List Line
  lines n left adj unused d =
      record { bay = d.bay; tries = S.choices d.bay; fold = d.fold } ∷ (elim d.fold [
        | true ↦ course S n (drop_bay d.bay left) (connect d.bay adj) (unused - d.cells)
        | false ↦ course S n (drop_bay d.bay left) adj unused
      ])

  pub course_agree : (n : ℕ) (left : List ℕ) (a e : ℕ → ℕ → Bool) (unused : ℕ) → Agree left a e → course S n left a unused ≡ course S n left e unused
  unfolding lines
  course_agree zero left a e unused same = refl
  course_agree (suc n) [] a e unused same = refl
  course_agree (suc n) (r ∷ rs) a e unused same =
      ap (lines n (r ∷ rs) a unused) (decide_agree S a e unused r rs same)
      ∙ (let d = decide S e unused r rs in
      let b = d.bay in
      go d d.fold
      (course_agree n (drop_bay b (r ∷ rs)) (connect b a) (connect b e) (unused - d.cells) (agree_connect b (r ∷ rs) a e (decide_in S e unused r rs) same))
      (course_agree n (drop_bay b (r ∷ rs)) a e unused (agree_drop b (r ∷ rs) a e same)))
    where
      go : (d : Step) (x : Bool) {p q u v : List Line} → p ≡ q → u ≡ v
          → ◌≡◌ {A = List Line} (record { bay = d.bay; tries = S.choices d.bay; fold = d.fold } ∷ (elim x [ true ↦ p | false ↦ u ])) (record { bay = d.bay; tries = S.choices d.bay; fold = d.fold } ∷ (elim x [ true ↦ q | false ↦ v ]))
      go d true f g = ap (λ (ls : List Line). record { bay = d.bay; tries = S.choices d.bay; fold = d.fold } ∷ ls) f
      go d false f g = ap (λ (ls : List Line). record { bay = d.bay; tries = S.choices d.bay; fold = d.fold } ∷ ls) g
