-- What is refused: too long, or the first piece at fault, or bytes that go on.
use Rattle.std.proofs.Common.{◌≡◌, ℕ, ◌<◌, ◌≤◌, cond, ◌⊎◌, List, [], ◌∷◌, length, sym, refl, ap, ◌∙◌, inl, inr, ⊎_elim, le-leb}
use borrow.Author.Tests.{lt-leb}
use Rattle.std.proofs.lemmas.Bool.{cases_lt}
use Rattle.refusals.specs.declared.Refusal.{Refusal}
use Rattle.refusals.specs.declared.Refusal.TheVariants.{CutBook, OutOfLimits}
use Rattle.format.specs.Pieces.{Got, got, bad, run}
use Rattle.format.specs.House.{Layout, book_form, book_in, ended, Refused, Refuses}
use Rattle.format.proofs.Fields.{Bytes}
use Rattle.format.proofs.Faults.{bad_same, no_bad, fault_sound, fault_whole, end_sound, end_whole}

ended_bad : {A : Type 0} (g : Got A) (e : Refusal) → ended g ≡ bad e → (g ≡ bad e) ⊎ ((a : A) × (b : ℕ) × (rest : List ℕ) × (g ≡ got a (b ∷ rest)) × (e ≡ CutBook))
ended_bad (bad d) e h = inl h
ended_bad (got a []) e h = absurd (no_bad a [] e h)
ended_bad (got a (b ∷ rest)) e h = let same : e ≡ CutBook = cc in inr (a, b, rest, refl, same)

module _ (mark top : ℕ) (bs : List ℕ) where
  -- the two sides of the limit on the length
  pub book_short : length bs ≤ 65536 → book_in mark top bs ≡ ended (run (book_form mark top) bs)
  unfolding book_in
  book_short h = ap (λ b. cond b (ended (run (book_form mark top) bs)) (bad OutOfLimits)) (le-leb (length bs) 65536 h)

  pub book_long : 65536 < length bs → book_in mark top bs ≡ bad OutOfLimits
  unfolding book_in
  book_long h = ap (λ b. cond b (ended (run (book_form mark top) bs)) (bad OutOfLimits)) (lt-leb (length bs) 65536 h)

  why : Bytes bs → (e : Refusal) → book_in mark top bs ≡ bad e → Refused mark top bs e
  unfolding Refused
  why bytes e h =
      ⊎_elim
      (λ big. inl (big, bad_same {A = Layout} e OutOfLimits (sym h ∙ book_long big)))
      (λ short. inr (
        short,
        ⊎_elim
            (λ q. inl (fault_sound (book_form mark top) bs e bytes q))
            (λ q. let w = end_sound (book_form mark top) bs q.0 (q.1 ∷ q.2) bytes q.3 in
            inr (record { before = w.0; all = q.0; more = q.1; rest = q.2; ends = w.1.0; begins = w.1.1 }, q.4))
            (ended_bad (run (book_form mark top) bs) e (sym (book_short short) ∙ h)),
      ))
      (cases_lt 65536 (length bs))

  then_refused : (e : Refusal) → Refused mark top bs e → book_in mark top bs ≡ bad e
  unfolding Refused
  then_refused e =
      ⊎_elim
      (λ big. book_long big.0 ∙ ap bad (sym big.1))
      (λ v. book_short v.0 ∙
      ⊎_elim (λ f. ap ended (fault_whole (book_form mark top) bs e f))
      (λ f. ap (λ l. ended (run (book_form mark top) l)) f.0.begins ∙ ap ended (end_whole (book_form mark top) f.0.before f.0.all (f.0.more ∷ f.0.rest) f.0.ends) ∙ ap bad (sym f.1))
      v.1)

pub refuses : Refuses
refuses mark top bs bytes e = (why mark top bs bytes e, then_refused mark top bs e)
