-- Reading one piece: when it is got, when it is refused, and that reading undoes writing.
use Rattle.std.proofs.Common.{◌≡◌, ℕ, zero, suc, ◌+◌, ◌%◌, ◌^◌, ◌<◌, ◌≤◌, Bool, true, false, cond, leb, ◌⊎◌, List, [], ◌∷◌, ◌++◌, length, get_or, take, drop, sym, refl, ap, ◌∙◌, subst, inl, inr, ⊎_elim, pow-suc, arith, length-append, take-append-drop, le-leb, leb-true}
use borrow.Author.Tests.{lt-leb}
use Rattle.std.proofs.lemmas.Nat.{div-mul-add, mod-mul-add, div-add-mod', mod_below, mul-add-lt}
use Rattle.std.proofs.lemmas.List.{take_at, drop_at, get_or-take, get_or-drop, get_or_past, length-take, length-take-le}
use Rattle.std.proofs.lemmas.Bool.{cases_lt}
use Rattle.refusals.specs.declared.Refusal.{Refusal}
use Rattle.format.specs.Pieces.{Got, got, bad, number, digits, Piece, piece_in, Right, Faulty}

abbrev pub Bytes : List ℕ → Type 0
Bytes bs = (i : ℕ) → get_or bs i 0 < 256

bytes_take : (w : ℕ) (bs : List ℕ) → Bytes bs → Bytes (take w bs)
bytes_take w bs h i =
    ⊎_elim (λ lt. rw (get_or-take w bs i 0 lt) (h i)) (λ ge. rw (get_or_past (take w bs) i 0 (omega (arith, length-take w bs))) (omega arith)) (cases_lt i w)

pub bytes_drop : (w : ℕ) (bs : List ℕ) → Bytes bs → Bytes (drop w bs)
bytes_drop w bs h i = rw (get_or-drop w bs i 0) (h (w + i))

length_digits : (w n : ℕ) → length (digits w n) ≡ w
length_digits zero n = refl
length_digits (suc w) n = ap suc (length_digits w (n % 256 ^ w))

pow_pos : (w : ℕ) → 0 < 256 ^ w
pow_pos zero = omega arith
pow_pos (suc w) = let h = pow_pos w in rw pow-suc (omega arith)

number_lt : (ds : List ℕ) → Bytes ds → number ds < 256 ^ length ds
number_lt [] h = omega arith
number_lt (d ∷ ds) h = rw pow-suc (mul-add-lt d (256 ^ length ds) (number ds) 256 (h 0) (number_lt ds (λ i. h (suc i))))

digits_number : (ds : List ℕ) → Bytes ds → digits (length ds) (number ds) ≡ ds
digits_number [] h = refl
digits_number (d ∷ ds) h =
    let low = number_lt ds (λ i. h (suc i)) in
    rw (div-mul-add d (256 ^ length ds) (number ds) low, mod-mul-add d (256 ^ length ds) (number ds) low, digits_number ds (λ i. h (suc i)))

number_digits : (w n : ℕ) → n < 256 ^ w → number (digits w n) ≡ n
number_digits zero n h = omega arith
number_digits (suc w) n h =
    rw (length_digits w (n % 256 ^ w), number_digits w (n % 256 ^ w) (mod_below n (256 ^ w) (pow_pos w))) (div-add-mod' n (256 ^ w))

pub piece_got : (f : Piece) (bs : List ℕ) (n : ℕ) → f.width ≤ length bs → number (take f.width bs) ≡ n → f.low ≤ n → n ≤ f.high → piece_in f bs ≡ got n (drop f.width bs)
piece_got f bs n long is low high =
    simp (le-leb f.width (length bs) long, is, le-leb f.low n low, le-leb n f.high high)

pub piece_cut : (f : Piece) (bs : List ℕ) → length bs < f.width → piece_in f bs ≡ bad f.missing
piece_cut f bs h = simp (lt-leb f.width (length bs) h)

piece_low : (f : Piece) (bs : List ℕ) (n : ℕ) → f.width ≤ length bs → number (take f.width bs) ≡ n → n < f.low → piece_in f bs ≡ bad f.wrong
piece_low f bs n long is h = simp (le-leb f.width (length bs) long, is, lt-leb f.low n h)

either_way : {A : Type 0} (b : Bool) (x : Got A) → cond b x x ≡ x
either_way true x = refl
either_way false x = refl

pub piece_high : (f : Piece) (bs : List ℕ) (n : ℕ) → f.width ≤ length bs → number (take f.width bs) ≡ n → f.high < n → piece_in f bs ≡ bad f.wrong
piece_high f bs n long is h = simp (le-leb f.width (length bs) long, is, lt-leb n f.high h) (either_way (leb f.low n) (bad f.wrong))

-- a test that a reading has passed
passed : {A : Type 0} (b : Bool) (x : Got A) (e : Refusal) (a : A) (rest : List ℕ) → cond b x (bad e) ≡ got a rest → (b ≡ true) × (x ≡ got a rest)
passed true x e a rest h = (refl, h)
passed false x e a rest h = absurd (let z : ◌≡◌ {A = ℕ} 0 1 = cc in omega arith)

-- what is known of a piece that was got
pub record Taken (f : Piece) (bs : List ℕ) (n : ℕ) (rest : List ℕ) : Type 0 where
  pub long : f.width ≤ length bs
  pub is : n ≡ number (take f.width bs)
  pub left : rest ≡ drop f.width bs
  pub low : f.low ≤ n
  pub high : n ≤ f.high

pub piece_parts : (f : Piece) (bs : List ℕ) (n : ℕ) (rest : List ℕ) → piece_in f bs ≡ got n rest → Taken f bs n rest
piece_parts f bs n rest h =
    let p = passed _ _ _ _ _ h in
    let q = passed _ _ _ _ _ p.1 in
    let r = passed _ _ _ _ _ q.1 in
    let e : got (number (take f.width bs)) (drop f.width bs) ≡ got n rest = r.1 in
    let is : n ≡ number (take f.width bs) = cc in
    record {
      long = leb-true _ _ p.0;
      is = is;
      left = cc;
      low = rw is (leb-true _ _ q.0);
      high = rw is (leb-true _ _ r.0);
    }

-- the front of some bytes is what its number writes
pub front_is : (w : ℕ) (bs : List ℕ) → Bytes bs → w ≤ length bs → bs ≡ digits w (number (take w bs)) ++ drop w bs
front_is w bs h long =
    let l : length (take w bs) ≡ w = length-take-le w bs long in
    let same : digits w (number (take w bs)) ≡ take w bs = ap (λ k. digits k (number (take w bs))) (sym l) ∙ digits_number (take w bs) (bytes_take w bs h) in
    sym (take-append-drop w bs) ∙ ap (λ u. u ++ drop w bs) (sym same)

front_short : (w : ℕ) (bs : List ℕ) → Bytes bs → w ≤ length bs → number (take w bs) < 256 ^ w
front_short w bs h long = subst (λ k. number (take w bs) < 256 ^ k) (length-take-le w bs long) (number_lt (take w bs) (bytes_take w bs h))

-- a right number that is written is read
pub read_right : (f : Piece) (n : ℕ) (rest : List ℕ) → Right f n → piece_in f (digits f.width n ++ rest) ≡ got n rest
read_right f n rest r =
    let w : ℕ = f.width in
    let e : take w (digits w n ++ rest) ≡ digits w n = take_at (digits w n) rest w (length_digits w n) in
    piece_got f (digits w n ++ rest) n (omega (arith, length-append (digits w n) rest, length_digits w n)) (ap number e ∙ number_digits w n r.short) r.low r.high ∙
    ap (λ l. got n l) (drop_at (digits w n) rest w (length_digits w n))

-- a faulty piece is refused; and a piece is faulty, or it is there and within its limits
pub faulty_bad : (f : Piece) (bs : List ℕ) (e : Refusal) → Faulty f bs e → piece_in f bs ≡ bad e
faulty_bad f bs e =
    ⊎_elim (λ c. piece_cut f bs c.0 ∙ ap bad (sym c.1))
    (λ c. ⊎_elim
    (λ l. piece_low f bs (number (take f.width bs)) c.0 refl l ∙ ap bad (sym c.2))
    (λ h. piece_high f bs (number (take f.width bs)) c.0 refl h ∙ ap bad (sym c.2)) c.1)

pub faulty_or_right : (f : Piece) (bs : List ℕ) → Bytes bs → ((e : Refusal) × Faulty f bs e) ⊎ ((f.width ≤ length bs) × Right f (number (take f.width bs)))
faulty_or_right f bs b =
    ⊎_elim (λ short. inl (f.missing, inl (short, refl)))
    (λ long. ⊎_elim (λ l. inl (f.wrong, inr (long, inl l, refl)))
    (λ low. ⊎_elim (λ h. inl (f.wrong, inr (long, inr h, refl)))
    (λ high. inr (long, record { low = low; high = high; short = front_short f.width bs b long })) (cases_lt f.high (number (take f.width bs))))
    (cases_lt (number (take f.width bs)) f.low))
    (cases_lt (length bs) f.width)
