-- A run of pieces whose places are written down.
use Rattle.std.proofs.Common.{◌≡◌, ℕ, zero, suc, ◌+◌, ◌-◌, ◌<◌, ◌≤◌, List, [], ◌∷◌, ◌++◌, map, length, get_or, drop, sym, refl, ap, ◌∙◌, subst, ⊎_elim, arith, length-append}
use Rattle.std.specs.List.{range_with_len}
use Rattle.std.proofs.lemmas.List.{length-drop, get_or_append_left}
use Rattle.std.proofs.lemmas.List.FromFn.{map-range_with_len_more}
use Rattle.std.proofs.lemmas.Bool.{cases_lt}
use Rattle.std.proofs.Math.Seq.{get_or-append_seam}
use Rattle.refusals.specs.declared.Refusal.{Refusal}
use Rattle.format.specs.Pieces.{Got, got, bad}
use Rattle.format.specs.Steps.{chain}
use Rattle.reader.specs.Finds.{Ends}
use Rattle.reader.proofs.Chains.{After, after_more, after_bad}

-- what begins at a place of a body is the rest of it
pub ends_at : (body rest : List ℕ) (at : ℕ) → at ≤ length body → rest ≡ drop at body → Ends body rest
ends_at body rest at h e =
    let k : length body - length rest ≡ at = omega (arith, ap (λ (l : List ℕ). length l) e, length-drop at body) in
    e ∙ ap (λ (n : ℕ). drop n body) (sym k)

pub ends_short : (body rest : List ℕ) → Ends body rest → length rest ≤ length body
ends_short body rest e = omega (arith, ap (λ (l : List ℕ). length l) e, length-drop (length body - length rest) body)

-- two functions that agree below n give the same list
counting_same : {X : Type 0} (f g : ℕ → X) (a n : ℕ) → ((j : ℕ) → j < a + n → f j ≡ g j) → map f (range_with_len a n) ≡ map g (range_with_len a n)
counting_same f g a zero h = refl
counting_same f g a (suc n) h = λ k. h a (omega arith) k ∷ counting_same f g (a + 1) n (λ j l. h j (omega arith)) k

last_place : (places : List ℕ) (i at : ℕ) → length places ≡ i → get_or (places ++ at ∷ []) i 0 ≡ at
last_place places i at e = ap (λ (k : ℕ). get_or (places ++ at ∷ []) k 0) (sym e) ∙ get_or-append_seam places at [] 0

-- the piece numbered j at a place is read as f says, and stops where stop says
module _ {S A : Type 0} (R : S → List ℕ → Got A) (next : S → A → S) (body : List ℕ) (f : ℕ → ℕ → A) (stop : ℕ → ℕ → ℕ) where
  abbrev pub Stands : ℕ → S → Type 0
  Stands j s = (at : ℕ) (x : A) (after : List ℕ) → at ≤ length body → R s (drop at body) ≡ got x after → (x ≡ f j at) × (after ≡ drop (stop j at) body) × (stop j at ≤ length body)

  abbrev read_so_far : List ℕ → ℕ → List A
  read_so_far places i = map (λ j. f j (get_or places j 0)) (range_with_len 0 i)

  -- of n pieces from bytes on, the first i are read
  pub record Noted (n i : ℕ) (first s : S) (bytes places rest : List ℕ) : Type 0 where
    pub ends : Ends body rest
    pub long : length places ≡ i
    pub inside : (j : ℕ) → j < i → stop j (get_or places j 0) ≤ length body
    pub reads : chain R next n first bytes ≡ After R next (read_so_far places i) (n - i) s rest

  places_more : (places : List ℕ) (i at : ℕ) → length places ≡ i → read_so_far (places ++ at ∷ []) (i + 1) ≡ read_so_far places i ++ f i at ∷ []
  places_more places i at e =
      map-range_with_len_more (λ j. f j (get_or (places ++ at ∷ []) j 0)) 0 i i (omega arith) ∙
      (λ k. counting_same (λ j. f j (get_or (places ++ at ∷ []) j 0)) (λ j. f j (get_or places j 0)) 0 i (λ j l. ap (f j) (get_or_append_left places (at ∷ []) 0 j (omega arith))) k ++ f i (last_place places i at e k) ∷ [])

  pub noted_more : (n i : ℕ) (first s : S) (bytes places rest : List ℕ) (x : A) (after : List ℕ) → Noted n i first s bytes places rest → i < n → Stands i s → R s rest ≡ got x after → Noted n (i + 1) first (next s x) bytes (places ++ (length body - length rest) ∷ []) after
  noted_more n i first s bytes places rest x after m h stands r =
      let at : ℕ = length body - length rest in
      let one = stands at x after (omega arith) (ap (R s) (sym m.ends) ∙ r) in
      record {
        ends = ends_at body after (stop i at) one.2 one.1;
        long = omega (arith, m.long, length-append places (at ∷ []));
        inside = λ j l. ⊎_elim
            (λ lt. subst (λ (p : ℕ). stop j p ≤ length body) (sym (get_or_append_left places (at ∷ []) 0 j (omega (arith, m.long)))) (m.inside j lt))
            (λ ge. let same : i ≡ j = omega arith in subst (λ (q : ℕ). stop q (get_or (places ++ at ∷ []) q 0) ≤ length body) same (subst (λ (p : ℕ). stop i p ≤ length body) (sym (last_place places i at m.long)) one.2))
            (cases_lt j i);
        reads = m.reads ∙ after_more R next (read_so_far places i) n i s rest x after h r
            ∙ ap (λ l. After R next l (n - (i + 1)) (next s x) after) (ap (λ y. read_so_far places i ++ y ∷ []) one.0 ∙ sym (places_more places i at m.long));
      }

  pub noted_bad : (n i : ℕ) (first s : S) (bytes places rest : List ℕ) (e : Refusal) → Noted n i first s bytes places rest → i < n → R s rest ≡ bad e → chain R next n first bytes ≡ bad e
  noted_bad n i first s bytes places rest e m h b = m.reads ∙ after_bad R next (read_so_far places i) n i s rest e h b
