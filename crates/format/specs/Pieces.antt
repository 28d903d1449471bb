-- Descriptions of what bytes write, piece after piece; what it is to read by one, and where bytes first go wrong.
use Rattle.std.specs.Prelude.{◌≡◌, ℕ, zero, suc, ◌+◌, ◌*◌, ◌/◌, ◌%◌, ◌^◌, ◌<◌, ◌≤◌, cond, ◌⊎◌, List, [], ◌∷◌, ◌++◌, length, take, drop, nat_le}
use Rattle.refusals.specs.declared.Refusal.{Refusal}

-- the number that bytes write, the high byte first
abbrev pub number : List ℕ → ℕ
number [] = 0
number (b ∷ bs) = b * 256 ^ length bs + number bs

-- the same number as w bytes
abbrev pub digits : ℕ → ℕ → List ℕ
digits zero n = []
digits (suc w) n = n / 256 ^ w ∷ digits w (n % 256 ^ w)

-- a number of some bytes, from low to high; the refusals where it is missing and where it is wrong
pub record Piece : Type 0 where
  pub width : ℕ
  pub low : ℕ
  pub high : ℕ
  pub missing : Refusal
  pub wrong : Refusal

-- a description: nothing more is written, or a piece, and then what its number calls for
pub data Form (A : Type 0) : Type 0 where
  done : A → Form A
  piece : Piece → (ℕ → Form A) → Form A

-- one description after another
abbrev pub bind : {A B : Type 0} → Form A → (A → Form B) → Form B
bind (done a) h = h a
bind (piece f k) h = piece f (λ n. bind (k n) h)

abbrev pub one : Piece → Form ℕ
one f = piece f (λ n. done n)

-- n of them, of which each may depend on a state that the one before has set
abbrev pub many : {S A : Type 0} → (S → Form A) → (S → A → S) → ℕ → S → Form (List A)
many F next zero s = done []
many F next (suc n) s = bind (F s) (λ x. bind (many F next n (next s x)) (λ xs. done (x ∷ xs)))

-- what comes of reading from the front of some bytes: the first fault, or what was read and the bytes after it
pub data Got (A : Type 0) : Type 0 where
  bad : Refusal → Got A
  got : A → List ℕ → Got A

-- reading on, after what was read
abbrev pub and_then : {A B : Type 0} → Got A → (A → List ℕ → Got B) → Got B
and_then (bad e) k = bad e
and_then (got a rest) k = k a rest

-- reading one piece
abbrev pub piece_in : Piece → List ℕ → Got ℕ
piece_in f bs =
    cond (nat_le f.width (length bs))
    (cond (nat_le f.low (number (take f.width bs))) (cond (nat_le (number (take f.width bs)) f.high) (got (number (take f.width bs)) (drop f.width bs)) (bad f.wrong)) (bad f.wrong))
    (bad f.missing)

-- reading by a description
abbrev pub run : {A : Type 0} → Form A → List ℕ → Got A
run (done a) bs = got a bs
run (piece f k) bs = and_then (piece_in f bs) (λ n rest. run (k n) rest)

-- a number that may stand as a piece
pub record Right (f : Piece) (n : ℕ) : Type 0 where
  pub low : f.low ≤ n
  pub high : n ≤ f.high
  pub short : n < 256 ^ f.width

-- after the right numbers ns, the piece f comes
abbrev pub Next : {A : Type 0} → Form A → List ℕ → Piece → Type 0
Next (done a) ns f = ⊥
Next (piece g k) [] f = g ≡ f
Next (piece g k) (n ∷ ns) f = Right g n × Next (k n) ns f

-- after the right numbers ns, all is written, and it is b
abbrev pub Ends : {A : Type 0} → Form A → List ℕ → A → Type 0
Ends (done a) [] b = a ≡ b
Ends (done a) (n ∷ ns) b = ⊥
Ends (piece g k) [] b = ⊥
Ends (piece g k) (n ∷ ns) b = Right g n × Ends (k n) ns b

-- the bytes of the numbers ns
abbrev pub written : {A : Type 0} → Form A → List ℕ → List ℕ
written (done a) ns = []
written (piece g k) [] = []
written (piece g k) (n ∷ ns) = digits g.width n ++ written (k n) ns

-- the bytes end before the piece does, or write a number outside its limits
abbrev pub Faulty : Piece → List ℕ → Refusal → Type 0
Faulty f rest e =
    ((length rest < f.width) × (e ≡ f.missing)) ⊎
    ((f.width ≤ length rest) × ((number (take f.width rest) < f.low) ⊎ (f.high < number (take f.width rest))) × (e ≡ f.wrong))

-- the first piece at fault: all before it are rightly written
pub record FirstFault {A : Type 0} (F : Form A) (bs : List ℕ) (e : Refusal) : Type 0 where
  pub before : List ℕ
  pub at : Piece
  pub rest : List ℕ
  pub next : Next F before at
  pub begins : bs ≡ written F before ++ rest
  pub faulty : Faulty at rest e

-- all is rightly written, and the bytes go on
pub record GoesOn {A : Type 0} (F : Form A) (bs : List ℕ) : Type 0 where
  pub before : List ℕ
  pub all : A
  pub more : ℕ
  pub rest : List ℕ
  pub ends : Ends F before all
  pub begins : bs ≡ written F before ++ (more ∷ rest)
