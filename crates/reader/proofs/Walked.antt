-- A whole book, walked over.
use Rattle.std.proofs.Common.{◌≡◌, ℕ, ◌+◌, ◌*◌, ◌<◌, ◌≤◌, List, [], ◌∷◌, length, get_or, take, drop, sym, ap, ◌∙◌, subst, arith}
use Rattle.std.proofs.lemmas.List.{length-drop, drop-drop, length-take-le}
use Rattle.refusals.specs.declared.Refusal.{Refusal}
use Rattle.refusals.specs.declared.Refusal.TheVariants.{CutBook}
use Rattle.reader.specs.declared.places.Places.{Places}
use Rattle.format.specs.Pieces.{Got, got, bad, and_then, piece_in}
use Rattle.model.specs.Lists.{Each}
use Rattle.format.specs.House.{Rule, Layout, book_in, ended, FitsRule, FitsBody, counts_of, cells_in, count_piece, mark_piece, version_piece}
use Rattle.format.specs.Steps.{count_of, times, rule_in, body_in, head_in}
use Rattle.format.proofs.Fields.{Bytes, piece_parts}
use Rattle.format.proofs.Exact.{then_got}
use Rattle.format.proofs.Accepted.{body_sound, each_weaker}
use Rattle.format.proofs.Refused.{book_short}
use Rattle.format.proofs.Stepped.{run_book}
use Rattle.reader.specs.Places.{choices_at, rows_at, rules_at, scope_at, table_at}
use Rattle.reader.specs.Finds.{Ends, Rows, Rules}
use Rattle.reader.specs.Indexed.{items, Walked, Indexes, layout_by}
use Rattle.reader.specs.declared.places.Index.{Index}
use Rattle.reader.proofs.Noted.{ends_at}
use Rattle.reader.proofs.Spans.{bytes_read}

rule_weaker : (t u : ℕ) (cs : List ℕ) → t ≤ u → (r : Rule) → FitsRule t cs r → FitsRule u cs r
rule_weaker t u cs h r f = record { few = f.few; rises = f.rises; full = f.full; priced = each_weaker (λ p. p ≤ t) (λ p. p ≤ u) (λ p l. omega arith) r.cells f.priced }

-- a higher limit fits as well
fits_weaker : (t u : ℕ) (L : Layout) → t ≤ u → FitsBody t L → FitsBody u L
fits_weaker t u L h f = record {
  some = f.some;
  few = f.few;
  rules_few = f.rules_few;
  choices = f.choices;
  priced = each_weaker (Each (λ p. p ≤ t)) (Each (λ p. p ≤ u)) (λ row l. each_weaker (λ p. p ≤ t) (λ p. p ≤ u) (λ p l. omega arith) row l) L.own f.priced;
  ruled = each_weaker (FitsRule t (counts_of L)) (FitsRule u (counts_of L)) (rule_weaker t u (counts_of L) h) L.rules f.ruled;
}

-- what follows mark and version, read as far as the choices of the bays
pub record Opened (bs : List ℕ) (bays : ℕ) (counts rest : List ℕ) : Type 0 where
  pub is : counts ≡ choices_at bs bays
  pub long : length counts ≡ bays
  pub some : 1 ≤ bays
  pub few : bays ≤ 24
  pub inside : 2 + bays ≤ length bs
  pub ends : Ends bs rest

pub opened : (bs : List ℕ) (few n bays : ℕ) (one two counts rest : List ℕ) → count_of 1 24 bs ≡ got few one → count_of 0 64 one ≡ got n two → bays ≡ few → times bays (count_of 1 8) two ≡ got counts rest → Opened bs bays counts rest
opened bs few n bays one two counts rest e f same g =
    let a = piece_parts (count_piece 1 24) bs few one e in
    let b = piece_parts (count_piece 0 64) one n two f in
    let c = bytes_read {S = ℕ} (λ _. 1) (λ _. 8) (λ s _. s) bays 0 two counts rest g in
    let left : two ≡ drop 2 bs = b.left ∙ ap (drop 1) a.left ∙ drop-drop 1 1 bs in
    let inside : 2 + bays ≤ length bs = omega (arith, c.2, ap (λ (l : List ℕ). length l) left, length-drop 2 bs, a.long, b.long, ap (λ (l : List ℕ). length l) a.left, length-drop 1 bs) in
    record {
      is = c.0 ∙ ap (take bays) left;
      long = ap (λ (l : List ℕ). length l) c.0 ∙ length-take-le bays two c.2;
      some = omega (arith, a.low);
      few = omega (arith, a.high);
      inside = inside;
      ends = ends_at bs rest (2 + bays) inside (c.1 ∙ ap (drop bays) left ∙ drop-drop bays 2 bs);
    }

-- the whole body, where its parts are read
pub body_is : (top : ℕ) (bs : List ℕ) (few n bays rules : ℕ) (one two counts three own four rule five : List ℕ) → count_of 1 24 bs ≡ got few one → count_of 0 64 one ≡ got n two → bays ≡ few → rules ≡ n → times bays (count_of 1 8) two ≡ got counts three → Rows top bs counts three own four → Rules top bs counts four rules rule five → body_in top bs ≡ got (record { own = rows_at bs counts own (length counts); rules = rules_at bs counts rule rules }) five
body_is top bs few n bays rules one two counts three own four rule five e f eb en g r s =
    let g' : times few (count_of 1 8) two ≡ got counts three = rw eb at g in
    let s' : times n (rule_in top counts) four ≡ got (rules_at bs counts rule rules) five = ap (λ (k : ℕ). times k (rule_in top counts) four) (sym en) ∙ s.reads in
    rw (e, f, g', r.reads, s')

-- what is left over is too much
pub left_over : {A : Type 0} (g : Got A) (a : A) (rest : List ℕ) → g ≡ got a rest → 0 < length rest → ended g ≡ bad CutBook
left_over g a [] e h = absurd (omega arith)
left_over g a (b ∷ rest) e h = ap ended e

pub walked : (top : ℕ) (bs : List ℕ) (few n bays rules : ℕ) (one two counts three four five : List ℕ) (own : Places 24) (rule : Places 64) → count_of 1 24 bs ≡ got few one → count_of 0 64 one ≡ got n two → bays ≡ few → rules ≡ n → times bays (count_of 1 8) two ≡ got counts three → Rows top bs counts three (items own) four → Rules top bs counts four rules (items rule) five → five ≡ [] → top ≤ 4294967295 → Bytes bs → Walked top bs (record { own_at = own; rule_at = rule })
walked top bs few n bays rules one two counts three four five own rule e f eb en g r s none small bytes =
    let o = opened bs few n bays one two counts three e f eb g in
    let i : Index = record { own_at = own; rule_at = rule } in
    let long : length counts ≡ length (items own) = sym r.long in
    let cs : counts ≡ choices_at bs (length (items own)) = o.is ∙ ap (choices_at bs) (sym o.long ∙ long) in
    let same : ◌≡◌ {A = Layout} (record { own = rows_at bs counts (items own) (length counts); rules = rules_at bs counts (items rule) rules }) (layout_by bs i) = λ j. record { own = rows_at bs (cs j) (items own) (long j); rules = rules_at bs (cs j) (items rule) (sym s.long j) } in
    let body : body_in top bs ≡ got (layout_by bs i) five = body_is top bs few n bays rules one two counts three (items own) four (items rule) five e f eb en g r s ∙ ap (λ L. got L five) same in
    record {
      reads = ap ended (body ∙ ap (got (layout_by bs i)) none);
      found = record {
        fits = fits_weaker top 4294967295 (layout_by bs i) small (body_sound top (omega arith) bs (layout_by bs i) five bytes body).0;
        counts = omega (arith, o.inside, o.long, long);
        rows = subst (λ (l : List ℕ). (j : ℕ) → j < length (items own) → get_or (items own) j 0 + 4 * get_or l j 0 ≤ length bs) cs (λ j h. r.rows j (omega (arith, long)));
        tables = subst (λ (l : List ℕ). (k : ℕ) → k < length (items rule) → table_at bs (get_or (items rule) k 0) + 4 * cells_in l (scope_at bs (get_or (items rule) k 0)) ≤ length bs) cs (λ k h. s.tables k (omega (arith, s.long)));
      };
    }

-- mark and version are five bytes
head_rest : (mark : ℕ) (bs : List ℕ) (v : ℕ) (rest : List ℕ) → head_in mark bs ≡ got v rest → (rest ≡ drop 5 bs) × (5 ≤ length bs)
head_rest mark bs v rest e =
    let p = then_got (piece_in (mark_piece mark) bs) (λ _ r. piece_in version_piece r) v rest e in
    let one = piece_parts (mark_piece mark) bs p.0 p.1 p.2 in
    let two = piece_parts version_piece p.1 v rest p.3 in
    (two.left ∙ ap (drop 2) one.left ∙ drop-drop 2 3 bs, omega (arith, one.long, two.long, ap length one.left, length-drop 3 bs))

-- a fault in mark or version is the first
pub head_bad : (mark top : ℕ) (bs : List ℕ) (e : Refusal) → length bs ≤ 65536 → head_in mark bs ≡ bad e → book_in mark top bs ≡ bad e
head_bad mark top bs e h q = book_short mark top bs h ∙ ap ended (run_book mark top bs) ∙ ap (λ g. ended (and_then g (λ _ r. body_in top r))) q

book_start : (mark top : ℕ) (bs : List ℕ) (v : ℕ) (rest : List ℕ) → length bs ≤ 65536 → head_in mark bs ≡ got v rest → book_in mark top bs ≡ ended (body_in top (drop 5 bs))
book_start mark top bs v rest h e =
    book_short mark top bs h ∙ ap ended (run_book mark top bs) ∙
    ap (λ g. ended (and_then g (λ _ r. body_in top r))) e ∙ ap (λ l. ended (body_in top l)) (head_rest mark bs v rest e).0

pub book_indexes : (mark top : ℕ) (bs : List ℕ) (v : ℕ) (rest : List ℕ) (i : Index) → length bs ≤ 65536 → head_in mark bs ≡ got v rest → Walked top rest i → Indexes mark top bs i
book_indexes mark top bs v rest i h e w =
    let x = subst (λ (l : List ℕ). Walked top l i) (head_rest mark bs v rest e).0 w in
    record { reads = book_start mark top bs v rest h e ∙ x.reads; long = (head_rest mark bs v rest e).1; short = h; found = x.found }

pub book_refused : (mark top : ℕ) (bs : List ℕ) (v : ℕ) (rest : List ℕ) (f : Refusal) → length bs ≤ 65536 → head_in mark bs ≡ got v rest → ended (body_in top rest) ≡ bad f → book_in mark top bs ≡ bad f
book_refused mark top bs v rest f h e w = book_start mark top bs v rest h e ∙ ap (λ l. ended (body_in top l)) (sym (head_rest mark bs v rest e).0) ∙ w
