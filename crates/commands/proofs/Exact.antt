-- A line is read as a command exactly where it is a writing of it.
use Rattle.std.proofs.Common.{◌≡◌, ℕ, Bool, true, false, cond, eqb, List, [], ◌∷◌, ◌++◌, Some, None, Option, sym, refl, ap, ◌∙◌, subst, eqb-true}
use Rattle.std.specs.Option.{option_map as made}
use Rattle.std.proofs.lemmas.Option.{none-some}
use Rattle.commands.specs.declared.command.Command.{Command}
use Rattle.commands.specs.declared.command.Command.TheVariants.{Pin, Unpin, Suspend, Resume, Course, Plan}
use Rattle.commands.specs.Numbers.{Got, got, unread}
use Rattle.commands.specs.Lines.{then, done, last_in, pin_in, course_in, plan_in, letter_in, command_in}
use Rattle.commands.specs.Writings.{Number, Signed, fields, Writes, Reads}
use Rattle.commands.proofs.Pieces.{Stops, Piece, field_piece, signed_piece}

-- what is read as b is exactly what writes b, and it begins with no digit
record Exact {B : Type 0} (R : List ℕ → Option B) (W : List ℕ → B → Type 0) : Type 0 where
  sound : (bs : List ℕ) (b : B) → R bs ≡ Some b → W bs b
  whole : (bs : List ℕ) (b : B) → W bs b → R bs ≡ Some b
  stops : (bs : List ℕ) (b : B) → W bs b → Stops bs

-- nothing is left
abbrev Done : {A : Type 0} → A → List ℕ → A → Type 0
Done a bs b = (bs ≡ []) × (b ≡ a)

-- a field, and then what more there is
abbrev Then : {A B : Type 0} → (List ℕ → A → Type 0) → (A → List ℕ → B → Type 0) → List ℕ → B → Type 0
Then {A} V W bs b = (a : A) × (ds : List ℕ) × (rest : List ℕ) × (bs ≡ 32 ∷ (ds ++ rest)) × V ds a × W a rest b

-- what is made of the last of the fields
abbrev Made : {A B : Type 0} → (A → B) → (List ℕ → A → Type 0) → List ℕ → B → Type 0
Made {A} f W bs b = (a : A) × W bs a × (b ≡ f a)

exact_done : {A : Type 0} (a : A) → Exact (done a) (Done a)
exact_done {A} a = record { sound = sound; whole = λ bs b w. ap (done a) w.0 ∙ ap Some (sym w.1); stops = λ bs b w. subst Stops (sym w.0) tt }
  where
    sound : (bs : List ℕ) (b : A) → done a bs ≡ Some b → Done a bs b
    sound [] b e = (refl, cc)
    sound (x ∷ bs) b e = absurd (none-some b e)

exact_then : {A B : Type 0} {G : List ℕ → Got A} {V : List ℕ → A → Type 0} {K : A → List ℕ → Option B} {W : A → List ℕ → B → Type 0} → Piece G V → ((a : A) → Exact (K a) (W a)) → Exact (λ bs. then (G bs) K) (Then V W)
exact_then {A} {B} {G} {V} {K} {W} piece more = record { sound = sound; whole = whole; stops = λ bs b w. subst Stops (sym w.3) refl }
  where
    sound : (bs : List ℕ) (b : B) → then (G bs) K ≡ Some b → Then V W bs b
    sound bs b e = go (G bs) refl e
      where
        go : (g : Got A) → G bs ≡ g → then g K ≡ Some b → Then V W bs b
        go unread q e = absurd (none-some b e)
        go (got a rest) q e = let w = piece.sound bs a rest q in (a, w.0, rest, w.1, w.2, (more a).sound rest b e)

    whole : (bs : List ℕ) (b : B) → Then V W bs b → then (G bs) K ≡ Some b
    whole bs b (a, ds, rest, e, v, w) =
        ap (λ l. then (G l) K) e ∙ ap (λ g. then g K) (piece.whole ds a rest v ((more a).stops rest b w)) ∙ (more a).whole rest b w

exact_made : {A B : Type 0} (f : A → B) {R : List ℕ → Option A} {W : List ℕ → A → Type 0} → Exact R W → Exact (λ bs. made f (R bs)) (Made f W)
exact_made {A} {B} f {R} {W} exact = record {
  sound = λ bs b e. go bs b (R bs) refl e;
  whole = λ bs b w. ap (made f) (exact.whole bs w.0 w.1) ∙ ap Some (sym w.2);
  stops = λ bs b w. exact.stops bs w.0 w.1;
}
  where
    go : (bs : List ℕ) (b : B) (r : Option A) → R bs ≡ r → made f r ≡ Some b → Made f W bs b
    go bs b None q e = absurd (none-some b e)
    go bs b (Some a) q e = (a, exact.sound bs a q, cc)

abbrev Last : ℕ → List ℕ → ℕ → Type 0
Last most = Then (Number most) Done

exact_last : (most : ℕ) → Exact (last_in most) (Last most)
exact_last most = exact_then (field_piece most) exact_done

exact_pin : Exact pin_in (Then (Number 4294967295) (λ bay. Made (Pin bay) (Last 4294967295)))
exact_pin = exact_then (field_piece 4294967295) (λ bay. exact_made (Pin bay) (exact_last 4294967295))

exact_course : Exact course_in (Then Signed (λ k. Made (Course k) (Last 4096)))
exact_course = exact_then signed_piece (λ k. exact_made (Course k) (exact_last 4096))

exact_plan : Exact plan_in (Then Signed (λ k. Then (Number 4096) (λ cells. Then (Number 4294967295) (λ limit. Made (Plan k cells limit) (Last 1000000000)))))
exact_plan = exact_then signed_piece (λ k. exact_then (field_piece 4096) (λ cells. exact_then (field_piece 4294967295) (λ limit. exact_made (Plan k cells limit) (exact_last 1000000000))))

-- the last field, and that it is a writing
last_field : {most : ℕ} {bs : List ℕ} {n : ℕ} → Last most bs n → (ds : List ℕ) × (bs ≡ fields (ds ∷ [])) × Number most ds n
last_field {most} (a, ds, rest, e, w, (end, same)) = (ds, e ∙ ap (λ r. 32 ∷ (ds ++ r)) end, subst (Number most ds) (sym same) w)

field_last : {most : ℕ} (ds : List ℕ) {n : ℕ} → Number most ds n → Last most (fields (ds ∷ [])) n
field_last ds {n} w = (n, ds, [], refl, w, (refl, refl))

-- one letter's test: what its fields write, or what is left of the letters
or_writes : (b n : ℕ) (bs : List ℕ) (c : Command) {P Q : Option Command} → (P ≡ Some c → Writes (n ∷ bs) c) → (Q ≡ Some c → Writes (b ∷ bs) c) → cond (eqb b n) P Q ≡ Some c → Writes (b ∷ bs) c
or_writes b n bs c {P} {Q} here others e = go (eqb b n) refl e
  where
    go : (t : Bool) → eqb b n ≡ t → cond t P Q ≡ Some c → Writes (b ∷ bs) c
    go true q e = subst (λ x. Writes (x ∷ bs) c) (sym (eqb-true b n q)) (here e)
    go false q e = others e

pin_writes : (bs : List ℕ) (c : Command) → pin_in bs ≡ Some c → Writes (80 ∷ bs) c
pin_writes bs c e =
    let (bay, b, rest, at, w, (choice, last, is)) = exact_pin.sound bs c e in
    let (t, end, w') = last_field last in
    subst (Writes (80 ∷ bs)) (sym is) (b, t, ap (λ l. 80 ∷ l) (at ∙ ap (λ r. 32 ∷ (b ++ r)) end), w, w')

course_writes : (bs : List ℕ) (c : Command) → course_in bs ≡ Some c → Writes (67 ∷ bs) c
course_writes bs c e =
    let (k, s, rest, at, w, (cells, last, is)) = exact_course.sound bs c e in
    let (t, end, w') = last_field last in
    subst (Writes (67 ∷ bs)) (sym is) (s, t, ap (λ l. 67 ∷ l) (at ∙ ap (λ r. 32 ∷ (s ++ r)) end), w, w')

plan_writes : (bs : List ℕ) (c : Command) → plan_in bs ≡ Some c → Writes (76 ∷ bs) c
plan_writes bs c e =
    let (k, s, rest₁, at₁, w₁, (cells, f, rest₂, at₂, w₂, (limit, l, rest₃, at₃, w₃, (ceiling, last, is)))) = exact_plan.sound bs c e in
    let (t, end, w₄) = last_field last in
    subst (Writes (76 ∷ bs)) (sym is) (
      s,
      f,
      l,
      t,
      ap (λ r. 76 ∷ r) (at₁ ∙ ap (λ r. 32 ∷ (s ++ r)) (at₂ ∙ ap (λ r. 32 ∷ (f ++ r)) (at₃ ∙ ap (λ r. 32 ∷ (l ++ r)) end))),
      w₁,
      w₂,
      w₃,
      w₄,
    )

-- a letter with one field
one_writes : (letter most : ℕ) (C : ℕ → Command) (bs : List ℕ) (c : Command) → ((n : ℕ) (ds : List ℕ) → letter ∷ bs ≡ letter ∷ fields (ds ∷ []) → Number most ds n → Writes (letter ∷ bs) (C n)) → made C (last_in most bs) ≡ Some c → Writes (letter ∷ bs) c
one_writes letter most C bs c build e =
    let (n, last, is) = (exact_made C (exact_last most)).sound bs c e in
    let (t, end, w) = last_field last in
    subst (Writes (letter ∷ bs)) (sym is) (build n t (ap (λ l. letter ∷ l) end) w)

letter_writes : (b : ℕ) (bs : List ℕ) (c : Command) → letter_in b bs ≡ Some c → Writes (b ∷ bs) c
letter_writes b bs c =
    or_writes b 80 bs c (pin_writes bs c)
    (or_writes b 85 bs c (one_writes 85 4294967295 Unpin bs c (λ n ds at w. (ds, at, w)))
    (or_writes b 83 bs c (one_writes 83 4294967295 Suspend bs c (λ n ds at w. (ds, at, w)))
    (or_writes b 82 bs c (one_writes 82 4294967295 Resume bs c (λ n ds at w. (ds, at, w)))
    (or_writes b 67 bs c (course_writes bs c)
    (or_writes b 76 bs c (plan_writes bs c)
    (λ e. absurd (none-some c e)))))))

pub sound : (line : List ℕ) (c : Command) → command_in line ≡ Some c → Writes line c
sound [] c e = absurd (none-some c e)
sound (b ∷ bs) c e = letter_writes b bs c e

pub whole : (line : List ℕ) (c : Command) → Writes line c → command_in line ≡ Some c
whole line (Pin bay choice) (b, t, e, w, w') = ap command_in e ∙ exact_pin.whole (fields (b ∷ t ∷ [])) (Pin bay choice) (bay, b, fields (t ∷ []), refl, w, (choice, field_last t w', refl))
whole line (Unpin bay) (b, e, w) = ap command_in e ∙ ap (made Unpin) ((exact_last 4294967295).whole (fields (b ∷ [])) bay (field_last b w))
whole line (Suspend rule) (r, e, w) = ap command_in e ∙ ap (made Suspend) ((exact_last 4294967295).whole (fields (r ∷ [])) rule (field_last r w))
whole line (Resume rule) (r, e, w) = ap command_in e ∙ ap (made Resume) ((exact_last 4294967295).whole (fields (r ∷ [])) rule (field_last r w))
whole line (Course k cells) (s, t, e, w, w') = ap command_in e ∙ exact_course.whole (fields (s ∷ t ∷ [])) (Course k cells) (k, s, fields (t ∷ []), refl, w, (cells, field_last t w', refl))
whole line (Plan k cells limit ceiling) (s, f, l, t, e, w₁, w₂, w₃, w₄) =
    ap command_in e ∙ exact_plan.whole (fields (s ∷ f ∷ l ∷ t ∷ [])) (Plan k cells limit ceiling)
    (k, s, fields (f ∷ l ∷ t ∷ []), refl, w₁, (cells, f, fields (l ∷ t ∷ []), refl, w₂, (limit, l, fields (t ∷ []), refl, w₃, (ceiling, field_last t w₄, refl))))

pub reads : (line : List ℕ) (o : Option Command) → o ≡ command_in line → Reads line o
reads line (Some c) e = (sound line c (sym e), λ other w. let two : Some c ≡ Some other = e ∙ whole line other w in cc)
reads line None e = λ c w. none-some c (e ∙ whole line c w)
