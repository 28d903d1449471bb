-- Where a run of pieces ends, and what it read.
use Rattle.std.proofs.Common.{◌≡◌, ℕ, zero, suc, ◌+◌, ◌-◌, ◌*◌, ◌<◌, ◌≤◌, List, [], ◌∷◌, ◌++◌, map, length, get_or, take, drop, sym, refl, ap, ◌∙◌, arith}
use Rattle.std.specs.List.{range_with_len}
use Rattle.std.proofs.lemmas.List.{length-drop, drop-drop, get_or-drop, length-take-le}
use Rattle.std.proofs.lemmas.Result.{MatchResult-weaker}
use Rattle.std.specs.Borrow.{Bor}
use Rattle.std.specs.declared.result.Result.{Result}
use Rattle.refusals.specs.declared.Refusal.{Refusal}
use Rattle.reader.specs.Finds.{Skips}
use Rattle.reader.proofs.Noted.{Noted, Stands, noted_more, noted_bad}
use Rattle.format.specs.Pieces.{got, bad, and_then}
use Rattle.format.specs.House.{Rule, cells_in, count_piece, cell_piece}
use Rattle.format.specs.Steps.{count_of, cell_of, chain, times, rising, rule_in, prices_in, mapped}
use Rattle.format.proofs.Fields.{piece_parts}
use Rattle.format.proofs.Exact.{then_got, mapped_got}
use Rattle.reader.proofs.Fronts.{byte_is}
use Rattle.reader.specs.Places.{price_at, cells_at, scope_at, table_at, rule_at}

-- bytes that are counts are read as they are
pub bytes_read : {S : Type 0} (lo hi : S → ℕ) (next : S → ℕ → S) (n : ℕ) (s : S) (bs xs rest : List ℕ) → chain (λ s. count_of (lo s) (hi s)) next n s bs ≡ got xs rest → (xs ≡ take n bs) × (rest ≡ drop n bs) × (n ≤ length bs)
bytes_read lo hi next zero s bs [] rest e = (refl, cc, omega arith)
bytes_read lo hi next zero s bs (x ∷ xs) rest e = absurd (let z : ◌≡◌ {A = ℕ} 0 1 = cc in omega arith)
bytes_read lo hi next (suc n) s [] xs rest e =
    let p = then_got (count_of (lo s) (hi s) []) (λ x r. mapped (λ ys. x ∷ ys) (chain (λ s. count_of (lo s) (hi s)) next n (next s x) r)) xs rest e in
    absurd (let one = piece_parts (count_piece (lo s) (hi s)) [] p.0 p.1 p.2 in omega (arith, one.long))
bytes_read lo hi next (suc n) s (b ∷ bs) xs rest e =
    let p = then_got (count_of (lo s) (hi s) (b ∷ bs)) (λ x r. mapped (λ ys. x ∷ ys) (chain (λ s. count_of (lo s) (hi s)) next n (next s x) r)) xs rest e in
    let one = piece_parts (count_piece (lo s) (hi s)) (b ∷ bs) p.0 p.1 p.2 in
    let q = mapped_got (λ ys. p.0 ∷ ys) (chain (λ s. count_of (lo s) (hi s)) next n (next s p.0) p.1) xs rest p.3 in
    let more = bytes_read lo hi next n (next s p.0) p.1 q.0 rest q.1 in
    let left : p.1 ≡ bs = one.left in
    let first : p.0 ≡ b = one.is ∙ byte_is (b ∷ bs) one.long in
    (q.2 ∙ (λ i. first i ∷ (more.0 ∙ ap (take n) left) i), more.1 ∙ ap (drop n) left, omega (arith, more.2, ap (λ (l : List ℕ). length l) left))

-- two counts in step
counting_alike : {X : Type 0} (f g : ℕ → X) (a b n : ℕ) → ((j k : ℕ) → a + k ≡ b + j → f j ≡ g k) → map f (range_with_len a n) ≡ map g (range_with_len b n)
counting_alike f g a b zero h = refl
counting_alike f g a b (suc n) h = λ i. h a b (omega arith) i ∷ counting_alike f g (a + 1) (b + 1) n (λ j k e. h j k (omega arith)) i

-- the prices from a place on are read as they stand there
pub cells_read : (top : ℕ) (bs : List ℕ) (n at : ℕ) (xs rest : List ℕ) → at ≤ length bs → times n (cell_of top) (drop at bs) ≡ got xs rest → (xs ≡ cells_at bs at n) × (rest ≡ drop (at + 4 * n) bs) × (at + 4 * n ≤ length bs)
cells_read top bs zero at [] rest h e = (
  refl,
  (let same : rest ≡ drop at bs = cc in same ∙ ap (λ (n : ℕ). drop n bs) (let z : at ≡ at + 4 * 0 = omega arith in z)),
  omega arith,
)
cells_read top bs zero at (x ∷ xs) rest h e = absurd (let z : ◌≡◌ {A = ℕ} 0 1 = cc in omega arith)
cells_read top bs (suc n) at xs rest h e =
    let p = then_got (cell_of top (drop at bs)) (λ x r. mapped (λ ys. x ∷ ys) (times n (cell_of top) r)) xs rest e in
    let one = piece_parts (cell_piece top) (drop at bs) p.0 p.1 p.2 in
    let q = mapped_got (λ ys. p.0 ∷ ys) (times n (cell_of top) p.1) xs rest p.3 in
    let left : p.1 ≡ drop (at + 4) bs = one.left ∙ drop-drop 4 at bs in
    let more = cells_read top bs n (at + 4) q.0 rest (omega (arith, one.long, length-drop at bs)) (ap (times n (cell_of top)) (sym left) ∙ q.1) in
    let first : p.0 ≡ price_at bs (at + 4 * 0) = one.is ∙ ap (λ (n : ℕ). price_at bs n) (let z : at ≡ at + 4 * 0 = omega arith in z) in
    let others : cells_at bs (at + 4) n ≡ map (λ k. price_at bs (at + 4 * k)) (range_with_len 1 n) =
    counting_alike (λ k. price_at bs (at + 4 + 4 * k)) (λ k. price_at bs (at + 4 * k)) 0 1 n (λ j k e. ap (λ (n : ℕ). price_at bs n) (let z : at + 4 + 4 * j ≡ at + 4 * k = omega arith in z)) in (
      q.2 ∙ (λ i. first i ∷ (more.0 ∙ others) i),
      more.1 ∙ ap (λ (n : ℕ). drop n bs) (let z : at + 4 + 4 * n ≡ at + 4 * suc n = omega arith in z),
      omega (arith, more.2),
    )

-- a rule is read as it stands at its place
pub rule_read : (top : ℕ) (bs cs : List ℕ) (at : ℕ) (r : Rule) (rest : List ℕ) → at ≤ length bs → rule_in top cs (drop at bs) ≡ got r rest → (r ≡ rule_at bs cs at) × (rest ≡ drop (table_at bs at + 4 * cells_in cs (scope_at bs at)) bs) × (table_at bs at + 4 * cells_in cs (scope_at bs at) ≤ length bs)
rule_read top bs cs at r rest h e =
    let p = then_got (count_of 0 4 (drop at bs)) (λ n bs. and_then (rising n 0 (length cs) bs) (λ scope bs. mapped (λ cells. record { scope = scope; cells = cells }) (times (cells_in cs scope) (cell_of top) bs))) r rest e in
    let one = piece_parts (count_piece 0 4) (drop at bs) p.0 p.1 p.2 in
    let q = then_got (rising p.0 0 (length cs) p.1) (λ scope bs. mapped (λ cells. record { scope = scope; cells = cells }) (times (cells_in cs scope) (cell_of top) bs)) r rest p.3 in
    let two = bytes_read (λ low. low) (λ _. length cs - 1) (λ _ b. b + 1) p.0 0 p.1 q.0 q.1 q.2 in
    let t = mapped_got (λ cells. record { scope = q.0; cells = cells }) (times (cells_in cs q.0) (cell_of top) q.1) r rest q.3 in
    let n : p.0 ≡ get_or bs at 0 = one.is ∙ byte_is (drop at bs) one.long ∙ get_or-drop at bs 0 0 ∙ ap (λ (j : ℕ). get_or bs j 0) (let z : at + 0 ≡ at = omega arith in z) in
    let left : p.1 ≡ drop (at + 1) bs = one.left ∙ drop-drop 1 at bs in
    let scope : q.0 ≡ scope_at bs at = two.0 ∙ (λ i. take (n i) (left i)) in
    let after : q.1 ≡ drop (table_at bs at) bs = two.1 ∙ (λ i. drop (n i) (left i)) ∙ drop-drop (get_or bs at 0) (at + 1) bs in
    let inside : table_at bs at ≤ length bs = omega (arith, one.long, length-drop at bs, n, two.2, ap (λ (l : List ℕ). length l) left, length-drop (at + 1) bs) in
    let three = cells_read top bs (cells_in cs (scope_at bs at)) (table_at bs at) t.0 rest inside ((λ i. times (cells_in cs (sym scope i)) (cell_of top) (sym after i)) ∙ t.1) in
    (t.2 ∙ (λ i. record { scope = scope i; cells = three.0 i }), three.1, three.2)

-- a count keeps its limits, and a scope is as long as its count
pub few_read : (lo hi n : ℕ) (bs rest : List ℕ) → count_of lo hi bs ≡ got n rest → (lo ≤ n) × (n ≤ hi)
few_read lo hi n bs rest e = let one = piece_parts (count_piece lo hi) bs n rest e in (one.low, one.high)

pub scope_long : (n bays : ℕ) (bs scope rest : List ℕ) → rising n 0 bays bs ≡ got scope rest → length scope ≡ n
scope_long n bays bs scope rest e =
    let p = bytes_read (λ low. low) (λ _. bays - 1) (λ _ b. b + 1) n 0 bs scope rest e in
    ap (λ (l : List ℕ). length l) p.0 ∙ length-take-le n bs p.2

-- a rule whose scope is read goes on with its prices
pub rule_skips : (top n m size : ℕ) (cs bs scope one two : List ℕ) (r : Result (Bor (List ℕ)) Refusal) → count_of 0 4 bs ≡ got n one → m ≡ n → rising m 0 (length cs) one ≡ got scope two → size ≡ cells_in cs scope → Skips (times size (cell_of top) two) r → Skips (rule_in top cs bs) r
rule_skips top n m size cs bs scope one two r e en f es h =
    let F : List ℕ → Rule = λ cells. record { scope = scope; cells = cells } in
    let f' : rising n 0 (length cs) one ≡ got scope two = rw en at f in
    let same : rule_in top cs bs ≡ mapped F (times size (cell_of top) two) = rw (e, f', es) in
    MatchResult-weaker r h (λ rest l. (F l.0, same ∙ ap (mapped F) l.1)) (λ e b. same ∙ ap (mapped F) b)

-- each row of prices, and each rule, stands where it is read
abbrev pub RowsNoted : ℕ → List ℕ → List ℕ → ℕ → List ℕ → List ℕ → List ℕ → Type 0
RowsNoted top body cs i bytes own rest =
    Noted (λ i. times (get_or cs i 0) (cell_of top)) (λ i _. i + 1) body (λ j at. cells_at body at (get_or cs j 0)) (λ j at. at + 4 * get_or cs j 0) (length cs) i 0 i bytes own rest

pub row_stands : (top : ℕ) (body cs : List ℕ) (i : ℕ) → Stands (λ i. times (get_or cs i 0) (cell_of top)) (λ i _. i + 1) body (λ j at. cells_at body at (get_or cs j 0)) (λ j at. at + 4 * get_or cs j 0) i i
row_stands top body cs i at xs after h e = cells_read top body (get_or cs i 0) at xs after h e

abbrev pub RulesNoted : ℕ → List ℕ → List ℕ → ℕ → ℕ → List ℕ → List ℕ → List ℕ → Type 0
RulesNoted top body cs n i bytes rule rest =
    Noted {S = ℕ} (λ _. rule_in top cs) (λ s _. s) body (λ _ at. rule_at body cs at) (λ _ at. table_at body at + 4 * cells_in cs (scope_at body at)) n i 0 0 bytes rule rest

pub rule_stands : (top : ℕ) (body cs : List ℕ) (i : ℕ) → Stands {S = ℕ} (λ _. rule_in top cs) (λ s _. s) body (λ _ at. rule_at body cs at) (λ _ at. table_at body at + 4 * cells_in cs (scope_at body at)) i 0
rule_stands top body cs i at r after h e = rule_read top body cs at r after h e

pub row_more : (top : ℕ) (body cs : List ℕ) (i n : ℕ) (bytes own rest xs after : List ℕ) → RowsNoted top body cs i bytes own rest → i < length cs → n ≡ get_or cs i 0 → times n (cell_of top) rest ≡ got xs after → RowsNoted top body cs (i + 1) bytes (own ++ (length body - length rest) ∷ []) after
row_more top body cs i n bytes own rest xs after m h is r =
    noted_more (λ i. times (get_or cs i 0) (cell_of top)) (λ i _. i + 1) body (λ j at. cells_at body at (get_or cs j 0)) (λ j at. at + 4 * get_or cs j 0) (length cs) i 0 i bytes own rest xs after m h (row_stands top body cs i) (rw is at r)

pub row_bad : (top : ℕ) (body cs : List ℕ) (i n : ℕ) (bytes own rest : List ℕ) (e : Refusal) → RowsNoted top body cs i bytes own rest → i < length cs → n ≡ get_or cs i 0 → times n (cell_of top) rest ≡ bad e → prices_in top cs bytes ≡ bad e
row_bad top body cs i n bytes own rest e m h is b =
    noted_bad (λ i. times (get_or cs i 0) (cell_of top)) (λ i _. i + 1) body (λ j at. cells_at body at (get_or cs j 0)) (λ j at. at + 4 * get_or cs j 0) (length cs) i 0 i bytes own rest e m h (rw is at b)

pub rule_more : (top : ℕ) (body cs : List ℕ) (n i : ℕ) (bytes rule rest : List ℕ) (r : Rule) (after : List ℕ) → RulesNoted top body cs n i bytes rule rest → i < n → rule_in top cs rest ≡ got r after → RulesNoted top body cs n (i + 1) bytes (rule ++ (length body - length rest) ∷ []) after
rule_more top body cs n i bytes rule rest r after m h got_one =
    noted_more {S = ℕ} (λ _. rule_in top cs) (λ s _. s) body (λ _ at. rule_at body cs at) (λ _ at. table_at body at + 4 * cells_in cs (scope_at body at)) n i 0 0 bytes rule rest r after m h (rule_stands top body cs i) got_one

pub rule_bad : (top : ℕ) (body cs : List ℕ) (n i : ℕ) (bytes rule rest : List ℕ) (e : Refusal) → RulesNoted top body cs n i bytes rule rest → i < n → rule_in top cs rest ≡ bad e → times n (rule_in top cs) bytes ≡ bad e
rule_bad top body cs n i bytes rule rest e m h b =
    noted_bad {S = ℕ} (λ _. rule_in top cs) (λ s _. s) body (λ _ at. rule_at body cs at) (λ _ at. table_at body at + 4 * cells_in cs (scope_at body at)) n i 0 0 bytes rule rest e m h b
