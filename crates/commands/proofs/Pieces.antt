-- A field is read exactly where it is written: numbers, limits and the minus.
use Rattle.std.proofs.Common.{◌≡◌, ℕ, suc, ◌+◌, ◌-◌, ◌*◌, ◌^◌, ◌<◌, ◌≤◌, Bool, true, false, cond, eqb, leb, List, [], ◌∷◌, ◌++◌, length, drop, ℤ, pos, sym, refl, ap, ◌∙◌, inl, inr, mul_assoc, add-mul, arith, ne_eqb, eqb-true, le-leb, leb-true}
use native.Mathlib.Nat.{pow-succ'}
use Rattle.std.proofs.lemmas.Bool.{and_parts}
use Rattle.std.specs.Char.{is_ascii_digit}
use Rattle.commands.specs.Numbers.{Got, got, unread, mapped, with_digit, onwards, numeral, at_most}
use Rattle.commands.specs.Lines.{field_in, starts_minus, signed_in, below_zero}
use Rattle.commands.specs.Writings.{value, AllDigits, Digits, Number, Signed}

-- no digit goes on here
abbrev pub Stops : List ℕ → Type 0
Stops [] = Unit {0}
Stops (b ∷ bs) = is_ascii_digit b ≡ false

-- what is read as a, with its space, is exactly what writes a
pub record Piece {A : Type 0} (R : List ℕ → Got A) (W : List ℕ → A → Type 0) : Type 0 where
  pub sound : (bs : List ℕ) (a : A) (rest : List ℕ) → R bs ≡ got a rest → (ds : List ℕ) × (bs ≡ 32 ∷ (ds ++ rest)) × W ds a
  pub whole : (ds : List ℕ) (a : A) (rest : List ℕ) → W ds a → Stops rest → R (32 ∷ (ds ++ rest)) ≡ got a rest

clash : {A : Type 0} (a : A) (rest : List ℕ) → unread ≡ got a rest → ⊥
clash a rest e = let z : ◌≡◌ {A = ℕ} 0 1 = cc in omega arith

-- what a number and more digits write
abbrev worth : ℕ → List ℕ → ℕ
worth n ds = n * 10 ^ length ds + value ds

worth_more : (n d : ℕ) (ds : List ℕ) → worth (with_digit n d) ds ≡ worth n (d ∷ ds)
worth_more n d ds =
    let p : ℕ = 10 ^ length ds in
    let e₁ : (n * 10 + (d - 48)) * p ≡ n * 10 * p + (d - 48) * p = add-mul (n * 10) (d - 48) p in
    let e₂ : n * 10 * p ≡ n * (10 * p) = mul_assoc n 10 p in
    let e₃ : n * 10 ^ suc (length ds) ≡ n * (10 * p) = ap (λ q. n * q) (pow-succ' 10 (length ds)) in
    omega (arith, e₁, e₂, e₃)

onwards_stops : (n : ℕ) (rest : List ℕ) → Stops rest → onwards n rest ≡ got n rest
onwards_stops n [] s = refl
onwards_stops n (b ∷ bs) s = ap (λ t. cond t (onwards (with_digit n b) bs) (got n (b ∷ bs))) s

onwards_whole : (n : ℕ) (ds rest : List ℕ) → AllDigits ds → Stops rest → onwards n (ds ++ rest) ≡ got (worth n ds) rest
onwards_whole n [] rest a s = onwards_stops n rest s ∙ ap (λ m. got m rest) (omega arith)
onwards_whole n (d ∷ ds) rest a s =
    ap (λ t. cond t (onwards (with_digit n d) (ds ++ rest)) (got n (d ∷ (ds ++ rest)))) a.0 ∙ onwards_whole (with_digit n d) ds rest a.1 s ∙
    ap (λ m. got m rest) (worth_more n d ds)

-- the digits at the front, and what follows them
parted : (bs : List ℕ) → (ds : List ℕ) × (rest : List ℕ) × (bs ≡ ds ++ rest) × AllDigits ds × Stops rest
parted [] = ([], [], refl, tt, tt)
parted (b ∷ bs) = go (is_ascii_digit b) refl (parted bs)
  where
    go : (t : Bool) → is_ascii_digit b ≡ t → (ds : List ℕ) × (rest : List ℕ) × (bs ≡ ds ++ rest) × AllDigits ds × Stops rest → (ds : List ℕ) × (rest : List ℕ) × (b ∷ bs ≡ ds ++ rest) × AllDigits ds × Stops rest
    go true e p = (b ∷ p.0, p.1, ap (λ l. b ∷ l) p.2, (e, p.3), p.4)
    go false e p = ([], b ∷ bs, refl, tt, e)

numeral_whole : (ds : List ℕ) (n : ℕ) (rest : List ℕ) → Digits ds n → Stops rest → numeral (ds ++ rest) ≡ got n rest
numeral_whole [] n rest w s = let none : 0 < 0 = w.some in absurd (omega arith)
numeral_whole (d ∷ ds) n rest w s =
    ap (λ t. cond t (onwards (d - 48) (ds ++ rest)) unread) w.all.0 ∙ onwards_whole (d - 48) ds rest w.all.1 s ∙ ap (λ m. got m rest) w.worth

numeral_sound : (bs : List ℕ) (n : ℕ) (rest : List ℕ) → numeral bs ≡ got n rest → (ds : List ℕ) × (bs ≡ ds ++ rest) × Digits ds n
numeral_sound [] n rest e = absurd (clash n rest e)
numeral_sound (b ∷ bs) n rest e = go (is_ascii_digit b) refl e
  where
    go : (t : Bool) → is_ascii_digit b ≡ t → cond t (onwards (b - 48) bs) unread ≡ got n rest → (ds : List ℕ) × (b ∷ bs ≡ ds ++ rest) × Digits ds n
    go true q e =
        let p = parted bs in
        let is : got (worth (b - 48) p.0) p.1 ≡ got n rest = sym (onwards_whole (b - 48) p.0 p.1 p.3 p.4) ∙ ap (onwards (b - 48)) (sym p.2) ∙ e in
        let n_is : worth (b - 48) p.0 ≡ n = cc in
        let rest_is : p.1 ≡ rest = cc in
        (b ∷ p.0, ap (λ l. b ∷ l) p.2 ∙ ap (λ r. b ∷ (p.0 ++ r)) rest_is, record { some = omega arith; all = (q, p.3); worth = n_is })
    go false q e = absurd (clash n rest e)

at_most_sound : (most n : ℕ) (rest : List ℕ) (g : Got ℕ) → at_most most g ≡ got n rest → (g ≡ got n rest) × (n ≤ most)
at_most_sound most n rest unread e = absurd (clash n rest e)
at_most_sound most n rest (got m r) e = go (leb m most) refl e
  where
    go : (t : Bool) → leb m most ≡ t → cond t (got m r) unread ≡ got n rest → (got m r ≡ got n rest) × (n ≤ most)
    go true q e = let le : m ≤ most = leb-true m most q in let same : m ≡ n = cc in (e, omega arith)
    go false q e = absurd (clash n rest e)

at_most_whole : (most n : ℕ) (rest : List ℕ) → n ≤ most → at_most most (got n rest) ≡ got n rest
at_most_whole most n rest h = ap (λ t. cond t (got n rest) unread) (le-leb n most h)

pub field_piece : (most : ℕ) → Piece (field_in most) (Number most)
field_piece most = record { sound = sound; whole = whole }
  where
    sound : (bs : List ℕ) (n : ℕ) (rest : List ℕ) → field_in most bs ≡ got n rest → (ds : List ℕ) × (bs ≡ 32 ∷ (ds ++ rest)) × Number most ds n
    sound [] n rest e = absurd (clash n rest e)
    sound (b ∷ bs) n rest e = go (eqb b 32) refl e
      where
        go : (t : Bool) → eqb b 32 ≡ t → cond t (at_most most (numeral bs)) unread ≡ got n rest → (ds : List ℕ) × (b ∷ bs ≡ 32 ∷ (ds ++ rest)) × Number most ds n
        go true q e =
            let p = at_most_sound most n rest (numeral bs) e in
            let w = numeral_sound bs n rest p.0 in
            let b_is : b ≡ 32 = eqb-true b 32 q in
            (w.0, (λ i. b_is i ∷ w.1 i), record { digits = w.2; within = p.1 })
        go false q e = absurd (clash n rest e)

    whole : (ds : List ℕ) (n : ℕ) (rest : List ℕ) → Number most ds n → Stops rest → field_in most (32 ∷ (ds ++ rest)) ≡ got n rest
    whole ds n rest w s = ap (at_most most) (numeral_whole ds n rest w.digits s) ∙ at_most_whole most n rest w.within

mapped_sound : {A B : Type 0} (f : A → B) (b : B) (rest : List ℕ) (g : Got A) → mapped f g ≡ got b rest → (a : A) × (g ≡ got a rest) × (b ≡ f a)
mapped_sound f b rest unread e = absurd (clash b rest e)
mapped_sound f b rest (got a r) e = let rest_is : r ≡ rest = cc in (a, ap (got a) rest_is, cc)

-- a minus is no digit
first_no_minus : (ds : List ℕ) (n : ℕ) (rest : List ℕ) → Digits ds n → starts_minus (32 ∷ (ds ++ rest)) ≡ false
first_no_minus [] n rest w = let none : 0 < 0 = w.some in absurd (omega arith)
first_no_minus (d ∷ ds) n rest w =
    ne_eqb d 45 (λ e. let no_digit : false ≡ true = sym (ap is_ascii_digit e) ∙ w.all.0 in let z : ◌≡◌ {A = ℕ} 0 1 = cc in omega arith)

minus_front : (bs : List ℕ) → starts_minus bs ≡ true → bs ≡ 32 ∷ 45 ∷ drop 2 bs
minus_front [] e = let z : ◌≡◌ {A = ℕ} 0 1 = cc in absurd (omega arith)
minus_front (a ∷ []) e = let z : ◌≡◌ {A = ℕ} 0 1 = cc in absurd (omega arith)
minus_front (a ∷ b ∷ bs) e =
    let p = and_parts (eqb a 32) (eqb b 45) e in
    let a_is : a ≡ 32 = eqb-true a 32 p.0 in
    let b_is : b ≡ 45 = eqb-true b 45 p.1 in
    λ i. a_is i ∷ b_is i ∷ bs

pub signed_piece : Piece signed_in Signed
signed_piece = record { sound = sound; whole = whole }
  where
    sound : (bs : List ℕ) (k : ℤ) (rest : List ℕ) → signed_in bs ≡ got k rest → (ds : List ℕ) × (bs ≡ 32 ∷ (ds ++ rest)) × Signed ds k
    sound bs k rest e = go (starts_minus bs) refl e
      where
        go : (t : Bool) → starts_minus bs ≡ t → cond t (mapped below_zero (numeral (drop 2 bs))) (mapped pos (field_in 4294967295 bs)) ≡ got k rest → (ds : List ℕ) × (bs ≡ 32 ∷ (ds ++ rest)) × Signed ds k
        go true q e =
            let p = mapped_sound below_zero k rest (numeral (drop 2 bs)) e in
            let w = numeral_sound (drop 2 bs) p.0 rest p.1 in
            (45 ∷ w.0, minus_front bs q ∙ ap (λ l. 32 ∷ 45 ∷ l) w.1, inr (w.0, p.0, refl, w.2, p.2))
        go false q e =
            let p = mapped_sound pos k rest (field_in 4294967295 bs) e in
            let w = (field_piece 4294967295).sound bs p.0 rest p.1 in
            (w.0, w.1, inl (p.0, w.2, p.2))

    whole : (ds : List ℕ) (k : ℤ) (rest : List ℕ) → Signed ds k → Stops rest → signed_in (32 ∷ (ds ++ rest)) ≡ got k rest
    whole ds k rest (inl (n, w, e)) s =
        let read : field_in 4294967295 (32 ∷ (ds ++ rest)) ≡ got n rest = (field_piece 4294967295).whole ds n rest w s in
        ap (λ t. cond t (mapped below_zero (numeral (drop 2 (32 ∷ (ds ++ rest))))) (mapped pos (field_in 4294967295 (32 ∷ (ds ++ rest))))) (first_no_minus ds n rest w.digits) ∙
        ap (mapped pos) read ∙ ap (λ k. got k rest) (sym e)
    whole ds k rest (inr (ns, n, b, w, e)) s =
        ap (λ l. signed_in (32 ∷ (l ++ rest))) b ∙ ap (mapped below_zero) (numeral_whole ns n rest w s) ∙ ap (λ k. got k rest) (sym e)
