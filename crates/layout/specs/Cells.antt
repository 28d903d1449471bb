-- The place of a plan's cell in the table of a rule.
use Rattle.std.specs.Prelude.{◌≡◌, ℕ, zero, suc, ◌+◌, ◌-◌, ◌*◌, ◌^◌, ◌<◌, ◌≤◌, Bool, true, false, MatchBool, List, [], ◌∷◌, length, get_or, nat_lt, slice_index, slice_index_or, refl}
use Rattle.std.specs.List.{zip, AllWithin, HoldsAt}
use Rattle.std.proofs.Common.{sym, ap, subst, ◌∙◌, ⊎_elim, add-mul, pow-suc, mul_assoc, arith, ltb-true, eq-eqb}
use Rattle.std.proofs.Math.Nat.{pow-le-pow_right}
use Rattle.std.proofs.lemmas.Nat.{mul-le}
use Rattle.std.proofs.lemmas.List.{get_or_past}
use Rattle.std.proofs.lemmas.Slice.Zip.{get_or-zip, length-zip}
use Rattle.std.proofs.lemmas.Bool.{and_parts, cases_lt, both_ways}
use Rattle.model.specs.Books.{begins}
use Rattle.model.specs.Sets.{bit, has, one}
use Rattle.model.proofs.Bits.{bit_one_same}
use Rattle.books.proofs.Plans.{begins_next, begins_not}
use Rattle.format.specs.House.{cells_in, Rising}
use Rattle.layout.specs.Meant.{mask_of, place_of}
use Rattle.layout.specs.Masks.{has_left, has_right}

pub place_small : (n s : ℕ) → s < 256 ^ (4 - n) → s ≤ 4294967296
place_small n s h =
    let b : 4 - n ≤ 4 = omega arith in
    let p : 256 ^ (4 - n) ≤ 256 ^ 4 = pow-le-pow_right (omega arith) b in
    omega arith

pub place_step : (n s a p : ℕ) → 1 ≤ n → n ≤ 4 → s < 256 ^ (4 - n) → a ≤ 255 → p ≤ 255 → s * a + p < 256 ^ (4 - (n - 1))
place_step n s a p one four h k l =
    let e : 4 - (n - 1) ≡ suc (4 - n) = omega arith in
    let m : s * a ≤ s * 255 = mul-le s a s 255 (omega arith) k in
    rw (e, pow-suc) (omega arith)

-- a plan's place lies in the table
pub place_below : (cs plan scope : List ℕ) (lo bays : ℕ) → Rising lo bays scope → ((i : ℕ) → i < bays → slice_index plan i < slice_index cs i) → (at : ℕ) → place_of cs plan at scope < (at + 1) * cells_in cs scope
place_below cs plan [] lo bays r h at = omega arith
place_below cs plan (b ∷ bs) lo bays r h at =
    let c : ℕ = get_or cs b 0 in
    let p : ℕ = get_or plan b 0 in
    let lt : p < c = h b r.0.1 in
    let more : place_of cs plan (at * c + p) bs < (at * c + p + 1) * cells_in cs bs = place_below cs plan bs (b + 1) bays r.1 h (at * c + p) in
    let wide : at * c + p + 1 ≤ (at + 1) * c = omega (arith, add-mul at 1 c) in
    let all : (at * c + p + 1) * cells_in cs bs ≤ (at + 1) * c * cells_in cs bs = mul-le (at * c + p + 1) (cells_in cs bs) ((at + 1) * c) (cells_in cs bs) wide (omega arith) in
    omega (arith, mul_assoc (at + 1) c (cells_in cs bs))

-- a place depends on the choices of the scope's bays only
pub place_local : (cs p q scope : List ℕ) (at : ℕ) → ((i : ℕ) → has (mask_of scope) i ≡ true → slice_index p i ≡ slice_index q i) → place_of cs p at scope ≡ place_of cs q at scope
place_local cs p q [] at h = refl
place_local cs p q (b ∷ scope) at h =
    ap (λ (v : ℕ). place_of cs p (at * slice_index cs b + v) scope) (h b (has_left (one b) (mask_of scope) b (eq-eqb (bit (one b) b) 1 (bit_one_same b)))) ∙
    place_local cs p q scope (at * slice_index cs b + slice_index q b) (λ i l. h i (has_right (one b) (mask_of scope) i l))

default_le : (plan : List ℕ) (i : ℕ) → slice_index plan i ≤ slice_index_or plan i 255
default_le [] i = omega arith
default_le (x ∷ plan) zero = omega arith
default_le (x ∷ plan) (suc i) = default_le plan i

pub begins_at : (choices : ℕ → ℕ) (n : ℕ) (plan : List ℕ) → begins choices n plan ≡ true → (i : ℕ) → i < n → slice_index plan i < choices i
begins_at choices zero plan e i h = absurd (omega arith)
begins_at choices (suc n) plan e i h =
    let p = and_parts (begins choices n plan) (nat_lt (slice_index_or plan n 255) (choices n)) e in
    ⊎_elim (λ lt. begins_at choices n plan p.0 i lt)
    (λ ge. let same : n ≡ i = omega arith in
    let here : get_or plan n 255 < choices n = ltb-true _ _ p.1 in
    let low = default_le plan n in
    subst (λ (k : ℕ). slice_index plan k < choices k) same (omega arith))
    (cases_lt i n)

-- what begins with a plan is as long as one
pub begins_long : (choices : ℕ → ℕ) (n : ℕ) (plan : List ℕ) → ((i : ℕ) → choices i ≤ 255) → begins choices n plan ≡ true → n ≤ length plan
begins_long choices n plan few e =
    ⊎_elim
    (λ short. let past : get_or plan (length plan) 255 ≡ 255 = get_or_past plan (length plan) 255 (omega arith) in
    absurd (both_ways _ (begins_not choices n (length plan) plan short (omega (arith, few (length plan)))) e))
    (λ long. long)
    (cases_lt (length plan) n)

zip_begins : (cs plan : List ℕ) (n : ℕ) → length cs ≤ length plan → n ≤ length cs → AllWithin (λ p. p.1 < p.0) (zip cs plan) 0 (length (zip cs plan)) → begins (λ i. slice_index cs i) n plan ≡ true
zip_begins cs plan zero l h all = refl
zip_begins cs plan (suc n) l h all =
    let here : slice_index_or plan n 255 < slice_index cs n = subst (λ (p : ℕ × ℕ). p.1 < p.0) (get_or-zip cs plan n (0, 255) (omega arith) (omega arith)) (all n (0, 255) (omega arith) (omega (arith, length-zip cs plan))) in
    subst (λ (k : ℕ). begins (λ i. slice_index cs i) k plan ≡ true) (let e : n + 1 ≡ suc n = omega arith in e) (begins_next (λ i. slice_index cs i) n plan (zip_begins cs plan n l (omega arith) all) here)

-- bytes that are no shorter begin with a plan where each is a choice below its count
pub begins_by_zip : (cs plan : List ℕ) (r : Bool) → length cs ≤ length plan → MatchBool r (AllWithin (λ p. p.1 < p.0) (zip cs plan) 0 (length (zip cs plan))) ((k : ℕ) × (k < length (zip cs plan)) × HoldsAt (λ p. p.0 ≤ p.1) (zip cs plan) k) → r ≡ begins (λ i. slice_index cs i) (length cs) plan
begins_by_zip cs plan true l h = sym (zip_begins cs plan (length cs) l (omega arith) h)
begins_by_zip cs plan false l h =
    let in_cs : h.0 < length cs = omega (arith, h.1, length-zip cs plan) in
    sym (begins_not (λ i. slice_index cs i) (length cs) h.0 plan in_cs (subst (λ (p : ℕ × ℕ). p.0 ≤ p.1) (get_or-zip cs plan h.0 (0, 255) in_cs (omega arith)) (h.2 (0, 255))))

-- bytes that are shorter begin with none
pub begins_short : (cs plan : List ℕ) → length plan < length cs → slice_index cs (length plan) ≤ 255 → begins (λ i. slice_index cs i) (length cs) plan ≡ false
begins_short cs plan h few = begins_not (λ i. slice_index cs i) (length cs) (length plan) plan h (omega (arith, few, get_or_past plan (length plan) 255 (omega arith)))
