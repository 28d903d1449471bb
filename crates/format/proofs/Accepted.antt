-- What is accepted: the bytes of the layouts that keep the limits, and no others.
use Rattle.std.proofs.Common.{◌≡◌, ℕ, ◌+◌, ◌-◌, ◌^◌, ◌<◌, ◌≤◌, Bool, true, false, cond, leb, List, [], ◌∷◌, ◌++◌, map, length, get_or, drop, sym, refl, ap, ◌∙◌, subst, append_assoc, append-nil, add-zero, arith, le-leb, leb-true}
use Rattle.std.specs.List.{flat_map}
use Rattle.std.proofs.lemmas.List.{get_or-drop, drop-drop, drop_more, drop_all, length-map}
use Rattle.refusals.specs.declared.Refusal.{Refusal}
use Rattle.refusals.specs.declared.Refusal.TheVariants.{StrangeMark, StrangeVersion, CutBook, OutOfLimits, BadCell}
use Rattle.format.specs.Pieces.{Got, got, bad, digits, and_then, piece_in, run}
use Rattle.model.specs.Lists.{Each}
use Rattle.format.specs.House.{Rule, Layout, cells_in, mark_piece, version_piece, book_form, book_in, ended, Rising, counts_of, price_bytes, rule_bytes, body_bytes, book_bytes, FitsRule, FitsBody, FitsBook, Accepts}
use Rattle.format.specs.Steps.{mapped, cell_of, count_of, times, rising, rule_in, prices_in, body_in, head_in}
use Rattle.format.proofs.Fields.{Bytes}
use Rattle.format.proofs.Exact.{bytes_after, Exact, piece_exact, then_got, mapped_got, then_whole, Chained, chain_sound, chain_whole}
use Rattle.format.proofs.Stepped.{run_book}

module _ {S A : Type 0} (P : A → Type 0) (next : S → A → S) where
  each_of : (s : S) (xs : List A) → Chained (λ _. P) next s xs → Each P xs
  each_of s [] c = tt
  each_of s (x ∷ xs) c = (c.0, each_of (next s x) xs c.1)

  of_each : (s : S) (xs : List A) → Each P xs → Chained (λ _. P) next s xs
  of_each s [] c = tt
  of_each s (x ∷ xs) c = (c.0, of_each (next s x) xs c.1)

pub each_weaker : {A : Type 0} (P Q : A → Type 0) → ((x : A) → P x → Q x) → (xs : List A) → Each P xs → Each Q xs
each_weaker P Q f [] c = tt
each_weaker P Q f (x ∷ xs) c = (f x c.0, each_weaker P Q f xs c.1)

join_two : (u v rest bs a : List ℕ) → bs ≡ u ++ a → a ≡ v ++ rest → bs ≡ (u ++ v) ++ rest
join_two u v rest bs a e f = e ∙ ap (λ l. u ++ l) f ∙ sym (append_assoc u v rest)

join_three : (u v w rest bs a b : List ℕ) → bs ≡ u ++ a → a ≡ v ++ b → b ≡ w ++ rest → bs ≡ (u ++ (v ++ w)) ++ rest
join_three u v w rest bs a b e f g = join_two u (v ++ w) rest bs a e (join_two v w rest a b f g)

module _ (top : ℕ) (small : top < 256 ^ 4) where
  cell_exact : Exact {S = ℕ} (λ _. cell_of top) (digits 4) (λ _ n. (0 ≤ n) × (n ≤ top))
  cell_exact = piece_exact 4 (λ _. 0) (λ _. top) CutBook BadCell (λ _. small)

  -- n prices
  abbrev Row : ℕ → List ℕ → Type 0
  Row n ps = (length ps ≡ n) × Each (λ p. p ≤ top) ps

  row_sound : (n : ℕ) (bs : List ℕ) (ps rest : List ℕ) → Bytes bs → times n (cell_of top) bs ≡ got ps rest → Row n ps × (bs ≡ price_bytes ps ++ rest)
  row_sound n bs ps rest h e =
      let r = chain_sound cell_exact (λ s _. s) n 0 bs ps rest h e in
      ((r.0, each_weaker (λ n. (0 ≤ n) × (n ≤ top)) (λ n. n ≤ top) (λ x p. p.1) ps (each_of (λ n. (0 ≤ n) × (n ≤ top)) (λ (s : ℕ) _. s) 0 ps r.1)), r.2)

  row_whole : (n : ℕ) (ps rest : List ℕ) → Row n ps → times n (cell_of top) (price_bytes ps ++ rest) ≡ got ps rest
  row_whole n ps rest r = chain_whole cell_exact (λ s _. s) n 0 ps rest r.0 (of_each (λ n. (0 ≤ n) × (n ≤ top)) (λ (s : ℕ) _. s) 0 ps (each_weaker (λ n. n ≤ top) (λ n. (0 ≤ n) × (n ≤ top)) (λ x p. (omega arith, p)) ps r.1))

  module _ (cs : List ℕ) (some : 1 ≤ length cs) (few : length cs ≤ 24) where
    bay_exact : Exact {S = ℕ} (λ low. count_of low (length cs - 1)) (digits 1) (λ low b. (low ≤ b) × (b ≤ length cs - 1))
    bay_exact = piece_exact 1 (λ low. low) (λ _. length cs - 1) CutBook OutOfLimits (λ _. omega arith)

    rising_of : (lo : ℕ) (xs : List ℕ) → Chained (λ low b. (low ≤ b) × (b ≤ length cs - 1)) (λ _ b. b + 1) lo xs → Rising lo (length cs) xs
    rising_of lo [] c = tt
    rising_of lo (x ∷ xs) c = ((c.0.0, omega (arith, c.0.1)), rising_of (x + 1) xs c.1)

    of_rising : (lo : ℕ) (xs : List ℕ) → Rising lo (length cs) xs → Chained (λ low b. (low ≤ b) × (b ≤ length cs - 1)) (λ _ b. b + 1) lo xs
    of_rising lo [] c = tt
    of_rising lo (x ∷ xs) c = ((c.0.0, omega (arith, c.0.1)), of_rising (x + 1) xs c.1)

    rule_sound : (bs : List ℕ) (r : Rule) (rest : List ℕ) → Bytes bs → rule_in top cs bs ≡ got r rest → FitsRule top cs r × (bs ≡ rule_bytes r ++ rest)
    rule_sound bs r rest h e =
        let p = then_got (count_of 0 4 bs) _ r rest e in
        let n = p.0 in
        let one = (piece_exact {S = ℕ} 1 (λ _. 0) (λ _. 4) CutBook OutOfLimits (λ _. omega arith)).sound 0 bs n p.1 h p.2 in
        let hp = bytes_after (digits 1 n) p.1 bs one.1 h in
        let q = then_got (rising n 0 (length cs) p.1) _ r rest p.3 in
        let two = chain_sound bay_exact (λ _ b. b + 1) n 0 p.1 q.0 q.1 hp q.2 in
        let hq = bytes_after (flat_map (digits 1) q.0) q.1 p.1 two.2 hp in
        let m = mapped_got (λ cells. record { scope = q.0; cells = cells }) (times (cells_in cs q.0) (cell_of top) q.1) r rest q.3 in
        let three = row_sound (cells_in cs q.0) q.1 m.0 rest hq m.1 in
        rw m.2 (
          record { few = rw two.0 one.0.1; rises = rising_of 0 q.0 two.1; full = three.0.0; priced = three.0.1 },
          join_three (digits 1 (length q.0)) (flat_map (digits 1) q.0) (price_bytes m.0) rest bs p.1 q.1 (one.1 ∙ ap (λ k. digits 1 k ++ p.1) (sym two.0)) two.2 three.1,
        )

    rule_whole : (r : Rule) (rest : List ℕ) → FitsRule top cs r → rule_in top cs (rule_bytes r ++ rest) ≡ got r rest
    rule_whole r rest f =
        then_whole (count_of 0 4) (digits 1 (length r.scope)) (flat_map (digits 1) r.scope ++ price_bytes r.cells) rest (length r.scope) _
        (λ t. (piece_exact {S = ℕ} 1 (λ _. 0) (λ _. 4) CutBook OutOfLimits (λ _. omega arith)).whole 0 (length r.scope) t (omega arith, f.few)) ∙
        then_whole (rising (length r.scope) 0 (length cs)) (flat_map (digits 1) r.scope) (price_bytes r.cells) rest r.scope _
        (λ t. chain_whole bay_exact (λ _ b. b + 1) (length r.scope) 0 r.scope t refl (of_rising 0 r.scope f.rises)) ∙
        ap (λ g. mapped (λ cells. record { scope = r.scope; cells = cells }) g) (row_whole (cells_in cs r.scope) r.cells rest (f.full, f.priced))

    rule_exact : Exact {S = ℕ} (λ _. rule_in top cs) rule_bytes (λ _. FitsRule top cs)
    rule_exact = record { sound = λ _ bs r rest h e. rule_sound bs r rest h e; whole = λ _ r rest f. rule_whole r rest f }

  -- the own prices
  price_exact : (cs : List ℕ) → Exact {S = ℕ} (λ i. times (get_or cs i 0) (cell_of top)) price_bytes (λ i. Row (get_or cs i 0))
  price_exact cs = record { sound = λ i bs ps rest h e. row_sound (get_or cs i 0) bs ps rest h e; whole = λ i ps rest r. row_whole (get_or cs i 0) ps rest r }

  rows_of : (cs : List ℕ) (i : ℕ) (own : List (List ℕ)) → Chained (λ i. Row (get_or cs i 0)) (λ i _. i + 1) i own → i + length own ≡ length cs → (map length own ≡ drop i cs) × Each (Each (λ p. p ≤ top)) own
  rows_of cs i [] c e = (sym (drop_all i cs (omega arith)), tt)
  rows_of cs i (ps ∷ own) c e =
      let more = rows_of cs (i + 1) own c.1 (omega (arith, e)) in
      let lt : i < length cs = omega (arith, e) in
      ((λ j. c.0.0 j ∷ more.0 j) ∙ sym (drop_more cs i 0 lt), (c.0.1, more.1))

  of_rows : (cs : List ℕ) (i : ℕ) (own : List (List ℕ)) → drop i cs ≡ map length own → Each (Each (λ p. p ≤ top)) own → Chained (λ i. Row (get_or cs i 0)) (λ i _. i + 1) i own
  of_rows cs i [] e c = tt
  of_rows cs i (ps ∷ own) e c =
      let at : get_or cs i 0 ≡ length ps = ap (λ j. get_or cs j 0) (sym (add-zero i)) ∙ sym (get_or-drop i cs 0 0) ∙ ap (λ l. get_or l 0 0) e in
      ((sym at, c.0), of_rows cs (i + 1) own (sym (drop-drop 1 i cs) ∙ ap (drop 1) e) c.1)

  choice_exact : Exact {S = ℕ} (λ _. count_of 1 8) (digits 1) (λ _ n. (1 ≤ n) × (n ≤ 8))
  choice_exact = piece_exact 1 (λ _. 1) (λ _. 8) CutBook OutOfLimits (λ _. omega arith)

  bays_exact : Exact {S = ℕ} (λ _. count_of 1 24) (digits 1) (λ _ n. (1 ≤ n) × (n ≤ 24))
  bays_exact = piece_exact 1 (λ _. 1) (λ _. 24) CutBook OutOfLimits (λ _. omega arith)

  rules_exact : Exact {S = ℕ} (λ _. count_of 0 64) (digits 1) (λ _ n. (0 ≤ n) × (n ≤ 64))
  rules_exact = piece_exact 1 (λ _. 0) (λ _. 64) CutBook OutOfLimits (λ _. omega arith)

  -- the parts of a body that was read
  record Parts (bs : List ℕ) (L : Layout) (rest : List ℕ) : Type 0 where
    bays : ℕ
    n : ℕ
    cs : List ℕ
    r₁ : List ℕ
    r₂ : List ℕ
    r₃ : List ℕ
    r₄ : List ℕ
    e₁ : count_of 1 24 bs ≡ got bays r₁
    e₂ : count_of 0 64 r₁ ≡ got n r₂
    e₃ : times bays (count_of 1 8) r₂ ≡ got cs r₃
    e₄ : prices_in top cs r₃ ≡ got L.own r₄
    e₅ : times n (rule_in top cs) r₄ ≡ got L.rules rest

  parts : (bs : List ℕ) (L : Layout) (rest : List ℕ) → body_in top bs ≡ got L rest → Parts bs L rest
  parts bs L rest e =
      let p₁ = then_got (count_of 1 24 bs) _ L rest e in
      let p₂ = then_got (count_of 0 64 p₁.1) _ L rest p₁.3 in
      let p₃ = then_got (times p₁.0 (count_of 1 8) p₂.1) _ L rest p₂.3 in
      let p₄ = then_got (prices_in top p₃.0 p₃.1) _ L rest p₃.3 in
      let p₅ = mapped_got (λ rules. record { own = p₄.0; rules = rules }) (times p₂.0 (rule_in top p₃.0) p₄.1) L rest p₄.3 in
      record {
        bays = p₁.0;
        n = p₂.0;
        cs = p₃.0;
        r₁ = p₁.1;
        r₂ = p₂.1;
        r₃ = p₃.1;
        r₄ = p₄.1;
        e₁ = p₁.2;
        e₂ = p₂.2;
        e₃ = p₃.2;
        e₄ = p₄.2 ∙ ap (λ o. got o p₄.1) (sym (ap (λ l. l.own) p₅.2));
        e₅ = p₅.1 ∙ ap (λ o. got o rest) (sym (ap (λ l. l.rules) p₅.2));
      }

  pub body_sound : (bs : List ℕ) (L : Layout) (rest : List ℕ) → Bytes bs → body_in top bs ≡ got L rest → FitsBody top L × (bs ≡ body_bytes L ++ rest)
  body_sound bs L rest h₀ e =
      let p = parts bs L rest e in
      let s₁ = bays_exact.sound 0 bs p.bays p.r₁ h₀ p.e₁ in
      let h₁ = bytes_after (digits 1 p.bays) p.r₁ bs s₁.1 h₀ in
      let s₂ = rules_exact.sound 0 p.r₁ p.n p.r₂ h₁ p.e₂ in
      let h₂ = bytes_after (digits 1 p.n) p.r₂ p.r₁ s₂.1 h₁ in
      let s₃ = chain_sound choice_exact (λ s _. s) p.bays 0 p.r₂ p.cs p.r₃ h₂ p.e₃ in
      let h₃ = bytes_after (flat_map (digits 1) p.cs) p.r₃ p.r₂ s₃.2 h₂ in
      let s₄ = chain_sound (price_exact p.cs) (λ i _. i + 1) (length p.cs) 0 p.r₃ L.own p.r₄ h₃ p.e₄ in
      let h₄ = bytes_after (flat_map price_bytes L.own) p.r₄ p.r₃ s₄.2 h₃ in
      let some : 1 ≤ length p.cs = omega (arith, s₃.0, s₁.0.0) in
      let few : length p.cs ≤ 24 = omega (arith, s₃.0, s₁.0.1) in
      let s₅ = chain_sound (rule_exact p.cs some few) (λ s _. s) p.n 0 p.r₄ L.rules rest h₄ p.e₅ in
      let rows = rows_of p.cs 0 L.own s₄.1 (omega (arith, s₄.0)) in
      let same : p.cs ≡ counts_of L = sym rows.0 in
      let long : p.bays ≡ length L.own = sym s₃.0 ∙ sym s₄.0 in (
        record {
          some = omega (arith, s₄.0, some);
          few = omega (arith, s₄.0, few);
          rules_few = omega (arith, s₅.0, s₂.0.1);
          choices = subst (Each (λ n. (1 ≤ n) × (n ≤ 8))) same (each_of (λ n. (1 ≤ n) × (n ≤ 8)) (λ (s : ℕ) _. s) 0 p.cs s₃.1);
          priced = rows.1;
          ruled = subst (λ c. Each (FitsRule top c) L.rules) same (each_of (FitsRule top p.cs) (λ (s : ℕ) _. s) 0 L.rules s₅.1);
        },
        join_two (digits 1 (length L.own)) (digits 1 (length L.rules) ++ (flat_map (digits 1) (counts_of L) ++ (flat_map price_bytes L.own ++ flat_map rule_bytes L.rules))) rest bs p.r₁ (s₁.1 ∙ ap (λ k. digits 1 k ++ p.r₁) long)
            (join_two (digits 1 (length L.rules)) (flat_map (digits 1) (counts_of L) ++ (flat_map price_bytes L.own ++ flat_map rule_bytes L.rules)) rest p.r₁ p.r₂ (s₂.1 ∙ ap (λ k. digits 1 k ++ p.r₂) (sym s₅.0))
            (join_three (flat_map (digits 1) (counts_of L)) (flat_map price_bytes L.own) (flat_map rule_bytes L.rules) rest p.r₂ p.r₃ p.r₄ (s₃.2 ∙ ap (λ c. flat_map (digits 1) c ++ p.r₃) same) s₄.2 s₅.2)),
      )

  body_whole : (L : Layout) (rest : List ℕ) → FitsBody top L → body_in top (body_bytes L ++ rest) ≡ got L rest
  body_whole L rest f =
      let long : length (counts_of L) ≡ length L.own = length-map L.own length in
      then_whole {B = Layout} (count_of 1 24) (digits 1 (length L.own)) (digits 1 (length L.rules) ++ (flat_map (digits 1) (counts_of L) ++ (flat_map price_bytes L.own ++ flat_map rule_bytes L.rules))) rest (length L.own) (λ bays r. and_then (count_of 0 64 r) (λ n r. and_then (times bays (count_of 1 8) r) (λ cs r. and_then (prices_in top cs r) (λ own r. mapped (λ rules. record { own = own; rules = rules }) (times n (rule_in top cs) r))))) (λ t. bays_exact.whole 0 (length L.own) t (f.some, f.few)) ∙
      then_whole {B = Layout} (count_of 0 64) (digits 1 (length L.rules)) (flat_map (digits 1) (counts_of L) ++ (flat_map price_bytes L.own ++ flat_map rule_bytes L.rules)) rest (length L.rules) (λ n r. and_then (times (length L.own) (count_of 1 8) r) (λ cs r. and_then (prices_in top cs r) (λ own r. mapped (λ rules. record { own = own; rules = rules }) (times n (rule_in top cs) r)))) (λ t. rules_exact.whole 0 (length L.rules) t (omega arith, f.rules_few)) ∙
      then_whole {B = Layout} (times (length L.own) (count_of 1 8)) (flat_map (digits 1) (counts_of L)) (flat_map price_bytes L.own ++ flat_map rule_bytes L.rules) rest (counts_of L) (λ cs r. and_then (prices_in top cs r) (λ own r. mapped (λ rules. record { own = own; rules = rules }) (times (length L.rules) (rule_in top cs) r))) (λ t. chain_whole choice_exact (λ s _. s) (length L.own) 0 (counts_of L) t long (of_each (λ n. (1 ≤ n) × (n ≤ 8)) (λ (s : ℕ) _. s) 0 (counts_of L) f.choices)) ∙
      then_whole {B = Layout} (prices_in top (counts_of L)) (flat_map price_bytes L.own) (flat_map rule_bytes L.rules) rest L.own (λ own r. mapped (λ rules. record { own = own; rules = rules }) (times (length L.rules) (rule_in top (counts_of L)) r)) (λ t. chain_whole (price_exact (counts_of L)) (λ i _. i + 1) (length (counts_of L)) 0 L.own t (sym long) (of_rows (counts_of L) 0 L.own refl f.priced)) ∙
      ap (λ g. mapped (λ rules. record { own = L.own; rules = rules }) g) (chain_whole (rule_exact (counts_of L) (omega (arith, long, f.some)) (omega (arith, long, f.few))) (λ s _. s) (length L.rules) 0 L.rules rest refl (of_each (FitsRule top (counts_of L)) (λ (s : ℕ) _. s) 0 L.rules f.ruled))

  module _ (mark : ℕ) (three : mark < 256 ^ 3) where
    mark_exact : Exact {S = ℕ} (λ _. piece_in (mark_piece mark)) (digits 3) (λ _ n. (mark ≤ n) × (n ≤ mark))
    mark_exact = piece_exact 3 (λ _. mark) (λ _. mark) StrangeMark StrangeMark (λ _. three)

    version_exact : Exact {S = ℕ} (λ _. piece_in version_piece) (digits 2) (λ _ n. (1 ≤ n) × (n ≤ 1))
    version_exact = piece_exact 2 (λ _. 1) (λ _. 1) StrangeVersion StrangeVersion (λ _. omega arith)

    ended_got : {A : Type 0} (g : Got A) (a : A) → ended g ≡ got a [] → g ≡ got a []
    ended_got (bad e) a h = h
    ended_got (got b []) a h = h
    ended_got (got b (x ∷ xs)) a h = absurd (let z : ◌≡◌ {A = ℕ} 0 1 = cc in omega arith)

    short_got : {A : Type 0} (b : Bool) (g : Got A) (e : Refusal) (a : A) → cond b g (bad e) ≡ got a [] → (b ≡ true) × (g ≡ got a [])
    short_got true g e a h = (refl, h)
    short_got false g e a h = absurd (let z : ◌≡◌ {A = ℕ} 0 1 = cc in omega arith)

    book_sound : (bs : List ℕ) (L : Layout) → Bytes bs → book_in mark top bs ≡ got L [] → FitsBook mark top L × (bs ≡ book_bytes mark L)
    unfolding book_in book_bytes
    book_sound bs L h e =
        let t = short_got (leb (length bs) 65536) (ended (run (book_form mark top) bs)) OutOfLimits L e in
        let g = sym (run_book mark top bs) ∙ ended_got (run (book_form mark top) bs) L t.1 in
        let p = then_got (head_in mark bs) (λ _ r. body_in top r) L [] g in
        let q = then_got (piece_in (mark_piece mark) bs) (λ _ r. piece_in version_piece r) p.0 p.1 p.2 in
        let s₁ = mark_exact.sound 0 bs q.0 q.1 h q.2 in
        let h₁ = bytes_after (digits 3 q.0) q.1 bs s₁.1 h in
        let s₂ = version_exact.sound 0 q.1 p.0 p.1 h₁ q.3 in
        let h₂ = bytes_after (digits 2 p.0) p.1 q.1 s₂.1 h₁ in
        let s₃ = body_sound p.1 L [] h₂ p.3 in
        let m : q.0 ≡ mark = omega (arith, s₁.0.0, s₁.0.1) in
        let v : p.0 ≡ 1 = omega (arith, s₂.0.0, s₂.0.1) in
        let is : bs ≡ book_bytes mark L = join_three (digits 3 mark) (digits 2 1) (body_bytes L) [] bs q.1 p.1 (s₁.1 ∙ ap (λ k. digits 3 k ++ q.1) m) (s₂.1 ∙ ap (λ k. digits 2 k ++ p.1) v) s₃.1 ∙ append-nil (book_bytes mark L) in
        (record { body = s₃.0; short = subst (λ l. length l ≤ 65536) is (leb-true _ _ t.0) }, is)

    book_whole : (bs : List ℕ) (L : Layout) → FitsBook mark top L → bs ≡ book_bytes mark L → book_in mark top bs ≡ got L []
    unfolding book_in book_bytes
    book_whole bs L f is =
        let one : book_in mark top (book_bytes mark L ++ []) ≡ got L [] =
        ap (λ b. cond b (ended (run (book_form mark top) (book_bytes mark L ++ []))) (bad OutOfLimits)) (le-leb _ 65536 (subst (λ l. length l ≤ 65536) (sym (append-nil (book_bytes mark L))) f.short)) ∙
        ap ended (run_book mark top (book_bytes mark L ++ [])) ∙
        ap (λ g. ended (and_then g (λ _ r. body_in top r))) (then_whole (piece_in (mark_piece mark)) (digits 3 mark) (digits 2 1 ++ body_bytes L) [] mark (λ _ r. piece_in version_piece r) (λ t. mark_exact.whole 0 mark t (omega arith, omega arith))) ∙
        ap ended (then_whole (piece_in version_piece) (digits 2 1) (body_bytes L) [] 1 (λ _ r. body_in top r) (λ t. version_exact.whole 0 1 t (omega arith, omega arith))) ∙
        ap ended (body_whole L [] f.body) in
        ap (book_in mark top) (is ∙ sym (append-nil (book_bytes mark L))) ∙ one

pub accepts : Accepts
accepts mark top three small bs h L = (book_sound top small mark three bs L h, book_whole top small mark three bs L)
