-- Reading step by step undoes writing, and accepts nothing else.
use Rattle.std.proofs.Common.{◌≡◌, ℕ, zero, suc, ◌^◌, ◌<◌, ◌≤◌, List, [], ◌∷◌, ◌++◌, length, drop, sym, refl, ap, ◌∙◌, subst, append_assoc, arith}
use Rattle.std.specs.List.{flat_map}
use Rattle.std.proofs.lemmas.List.{drop_at}
use Rattle.refusals.specs.declared.Refusal.{Refusal}
use Rattle.format.specs.Pieces.{Got, got, bad, digits, and_then, piece_in}
use Rattle.format.specs.Steps.{chain, mapped}
use Rattle.format.proofs.Fields.{Bytes, bytes_drop, piece_parts, front_is, read_right}

pub bytes_after : (u rest bs : List ℕ) → bs ≡ u ++ rest → Bytes bs → Bytes rest
bytes_after u rest bs e h =
    let d : drop (length u) bs ≡ rest = ap (drop (length u)) e ∙ drop_at u rest (length u) refl in
    subst Bytes d (bytes_drop (length u) bs h)

-- a piece is read exactly where it is written
pub record Exact {S A : Type 0} (R : S → List ℕ → Got A) (W : A → List ℕ) (Ok : S → A → Type 0) : Type 0 where
  pub sound : (s : S) (bs : List ℕ) (a : A) (rest : List ℕ) → Bytes bs → R s bs ≡ got a rest → Ok s a × (bs ≡ W a ++ rest)
  pub whole : (s : S) (a : A) (rest : List ℕ) → Ok s a → R s (W a ++ rest) ≡ got a rest

pub piece_exact : {S : Type 0} (w : ℕ) (lo hi : S → ℕ) (m f : Refusal) → ((s : S) → hi s < 256 ^ w) → Exact (λ s. piece_in (record { width = w; low = lo s; high = hi s; missing = m; wrong = f })) (digits w) (λ s n. (lo s ≤ n) × (n ≤ hi s))
piece_exact w lo hi m f small = record {
  sound = λ s bs n rest h e.
      let p = piece_parts (record { width = w; low = lo s; high = hi s; missing = m; wrong = f }) bs n rest e in
      ((p.low, p.high), front_is w bs h p.long ∙ (λ i. digits w (sym p.is i) ++ sym p.left i));
  whole = λ s n rest ok. read_right (record { width = w; low = lo s; high = hi s; missing = m; wrong = f }) n rest (record { low = ok.0; high = ok.1; short = omega (arith, small s) });
}

module _ {A B : Type 0} where
  pub then_got : (g : Got A) (k : A → List ℕ → Got B) (b : B) (r : List ℕ) → and_then g k ≡ got b r → (a : A) × (rest : List ℕ) × (g ≡ got a rest) × (k a rest ≡ got b r)
  then_got (bad e) k b r h = absurd (let z : ◌≡◌ {A = ℕ} 0 1 = cc in omega arith)
  then_got (got a rest) k b r h = (a, rest, refl, h)

  pub mapped_got : (f : A → B) (g : Got A) (b : B) (r : List ℕ) → mapped f g ≡ got b r → (a : A) × (g ≡ got a r) × (b ≡ f a)
  mapped_got f (bad e) b r h = absurd (let z : ◌≡◌ {A = ℕ} 0 1 = cc in omega arith)
  mapped_got f (got a rest) b r h =
      let p : rest ≡ r = cc in
      let q : b ≡ f a = cc in
      (a, ap (λ l. got a l) p, q)

  -- a piece that is written first is read first
  pub then_whole : (R : List ℕ → Got A) (u v rest : List ℕ) (a : A) (k : A → List ℕ → Got B) → ((r : List ℕ) → R (u ++ r) ≡ got a r) → and_then (R ((u ++ v) ++ rest)) k ≡ k a (v ++ rest)
  then_whole R u v rest a k h = ap (λ l. and_then (R l) k) (append_assoc u v rest) ∙ ap (λ g. and_then g k) (h (v ++ rest))

module _ {S A : Type 0} (Ok : S → A → Type 0) (next : S → A → S) where
  abbrev pub Chained : S → List A → Type 0
  Chained s [] = Unit {0}
  Chained s (x ∷ xs) = Ok s x × Chained (next s x) xs

module _ {S A : Type 0} {R : S → List ℕ → Got A} {W : A → List ℕ} {Ok : S → A → Type 0} (exact : Exact R W Ok) (next : S → A → S) where
  pub chain_sound : (n : ℕ) (s : S) (bs : List ℕ) (xs : List A) (rest : List ℕ) → Bytes bs → chain R next n s bs ≡ got xs rest → (length xs ≡ n) × Chained Ok next s xs × (bs ≡ flat_map W xs ++ rest)
  chain_sound zero s bs [] rest h e = (refl, tt, cc)
  chain_sound zero s bs (x ∷ xs) rest h e = absurd (let z : ◌≡◌ {A = ℕ} 0 1 = cc in omega arith)
  chain_sound (suc n) s bs xs rest h e =
      let p = then_got (R s bs) (λ x r. mapped (λ ys. x ∷ ys) (chain R next n (next s x) r)) xs rest e in
      let x = p.0 in
      let one = exact.sound s bs x p.1 h p.2 in
      let q = mapped_got (λ ys. x ∷ ys) (chain R next n (next s x) p.1) xs rest p.3 in
      let more = chain_sound n (next s x) p.1 q.0 rest (bytes_after (W x) p.1 bs one.1 h) q.1 in
      rw q.2 (ap suc more.0, (one.0, more.1), one.1 ∙ ap (λ l. W x ++ l) more.2 ∙ sym (append_assoc (W x) (flat_map W q.0) rest))

  pub chain_whole : (n : ℕ) (s : S) (xs : List A) (rest : List ℕ) → length xs ≡ n → Chained Ok next s xs → chain R next n s (flat_map W xs ++ rest) ≡ got xs rest
  chain_whole zero s [] rest e c = refl
  chain_whole zero s (x ∷ xs) rest e c = absurd (omega (arith, e))
  chain_whole (suc n) s [] rest e c = absurd (omega (arith, e))
  chain_whole (suc n) s (x ∷ xs) rest e c =
      then_whole (R s) (W x) (flat_map W xs) rest x (λ y r. mapped (λ ys. y ∷ ys) (chain R next n (next s y) r)) (λ r. exact.whole s x r c.0) ∙
      ap (λ g. mapped (λ ys. x ∷ ys) g) (chain_whole n (next s x) xs rest (omega (arith, e)) c.1)
