-- Reading by any description refuses by the first piece at fault, and by nothing else.
use Rattle.std.proofs.Common.{◌≡◌, ℕ, ◌≤◌, List, [], ◌∷◌, ◌++◌, length, take, drop, sym, refl, ap, ◌∙◌, subst, ⊎_elim, append_assoc, arith}
use Rattle.refusals.specs.declared.Refusal.{Refusal}
use Rattle.format.specs.Pieces.{Got, got, bad, number, digits, Piece, Form, done, piece, and_then, run, Right, Next, Ends, written, Faulty, FirstFault}
use Rattle.format.proofs.Fields.{Bytes, bytes_drop, piece_got, front_is, read_right, faulty_bad, faulty_or_right}

pub bad_same : {A : Type 0} (e d : Refusal) → ◌≡◌ {A = Got A} (bad e) (bad d) → e ≡ d
bad_same e d h = cc

pub no_bad : {A : Type 0} (a : A) (r : List ℕ) (e : Refusal) → got a r ≡ bad e → ⊥
no_bad a r e h = let z : ◌≡◌ {A = ℕ} 0 1 = cc in omega arith

module _ {A : Type 0} where
  run_bad : (f : Piece) (k : ℕ → Form A) (bs : List ℕ) (e : Refusal) → Faulty f bs e → run (piece f k) bs ≡ bad e
  run_bad f k bs e c = ap (λ g. and_then g (λ n rest. run (k n) rest)) (faulty_bad f bs e c)

  -- a piece that is rightly there: reading goes on after it
  run_right : (f : Piece) (k : ℕ → Form A) (bs : List ℕ) → f.width ≤ length bs → Right f (number (take f.width bs)) → run (piece f k) bs ≡ run (k (number (take f.width bs))) (drop f.width bs)
  run_right f k bs long r = ap (λ g. and_then g (λ n rest. run (k n) rest)) (piece_got f bs (number (take f.width bs)) long refl r.low r.high)

  run_written : (f : Piece) (k : ℕ → Form A) (n : ℕ) (ns rest : List ℕ) → Right f n → run (piece f k) (written (piece f k) (n ∷ ns) ++ rest) ≡ run (k n) (written (k n) ns ++ rest)
  run_written f k n ns rest r =
      ap (λ l. run (piece f k) l) (append_assoc (digits f.width n) (written (k n) ns) rest) ∙
      ap (λ g. and_then g (λ n rest. run (k n) rest)) (read_right f n (written (k n) ns ++ rest) r)

  -- one right piece more is written
  more_written : (f : Piece) (k : ℕ → Form A) (bs ns rest : List ℕ) → Bytes bs → f.width ≤ length bs → drop f.width bs ≡ written (k (number (take f.width bs))) ns ++ rest → bs ≡ written (piece f k) (number (take f.width bs) ∷ ns) ++ rest
  more_written f k bs ns rest h long e =
      let n : ℕ = number (take f.width bs) in
      front_is f.width bs h long ∙ ap (λ l. digits f.width n ++ l) e ∙ sym (append_assoc (digits f.width n) (written (k n) ns) rest)

  pub fault_sound : (F : Form A) (bs : List ℕ) (e : Refusal) → Bytes bs → run F bs ≡ bad e → FirstFault F bs e
  fault_sound (done a) bs e h q = absurd (no_bad a bs e q)
  fault_sound (piece f k) bs e h q =
      ⊎_elim (λ w. let same : w.0 ≡ e = bad_same {A = A} w.0 e (sym (run_bad f k bs w.0 w.1) ∙ q) in
      record { before = []; at = f; rest = bs; next = refl; begins = refl; faulty = subst (Faulty f bs) same w.1 })
      (λ w. let n : ℕ = number (take f.width bs) in
      let more = fault_sound (k n) (drop f.width bs) e (bytes_drop f.width bs h) (sym (run_right f k bs w.0 w.1) ∙ q) in
      record {
        before = n ∷ more.before;
        at = more.at;
        rest = more.rest;
        next = (w.1, more.next);
        begins = more_written f k bs more.before more.rest h w.0 more.begins;
        faulty = more.faulty;
      })
      (faulty_or_right f bs h)

  fault_at : (F : Form A) (ns : List ℕ) (at : Piece) (rest : List ℕ) (e : Refusal) → Next F ns at → Faulty at rest e → run F (written F ns ++ rest) ≡ bad e
  fault_at (done a) ns at rest e h c = absurd h
  fault_at (piece f k) [] at rest e h c = run_bad f k rest e (subst (λ p. Faulty p rest e) (sym h) c)
  fault_at (piece f k) (n ∷ ns) at rest e h c = run_written f k n ns rest h.0 ∙ fault_at (k n) ns at rest e h.1 c

  pub fault_whole : (F : Form A) (bs : List ℕ) (e : Refusal) → FirstFault F bs e → run F bs ≡ bad e
  fault_whole F bs e w = ap (run F) w.begins ∙ fault_at F w.before w.at w.rest e w.next w.faulty

  pub end_sound : (F : Form A) (bs : List ℕ) (a : A) (rest : List ℕ) → Bytes bs → run F bs ≡ got a rest → (ns : List ℕ) × (Ends F ns a × (bs ≡ written F ns ++ rest))
  end_sound (done b) bs a rest h q = let same : b ≡ a = cc in let left : bs ≡ rest = cc in ([], (same, left))
  end_sound (piece f k) bs a rest h q =
      ⊎_elim (λ w. absurd (no_bad a rest w.0 (sym q ∙ run_bad f k bs w.0 w.1)))
      (λ w. let n : ℕ = number (take f.width bs) in
      let more = end_sound (k n) (drop f.width bs) a rest (bytes_drop f.width bs h) (sym (run_right f k bs w.0 w.1) ∙ q) in
      (n ∷ more.0, ((w.1, more.1.0), more_written f k bs more.0 rest h w.0 more.1.1)))
      (faulty_or_right f bs h)

  pub end_whole : (F : Form A) (ns : List ℕ) (a : A) (rest : List ℕ) → Ends F ns a → run F (written F ns ++ rest) ≡ got a rest
  end_whole (done b) [] a rest h = ap (λ x. got x rest) h
  end_whole (done b) (n ∷ ns) a rest h = absurd h
  end_whole (piece f k) [] a rest h = absurd h
  end_whole (piece f k) (n ∷ ns) a rest h = run_written f k n ns rest h.0 ∙ end_whole (k n) ns a rest h.1
