-- The bays of a set in rising order, and the places of a table over them.
use Rattle.std.specs.Prelude.{◌≡◌, ℕ, zero, suc, ◌+◌, ◌-◌, ◌*◌, ◌/◌, ◌%◌, ◌<◌, ◌≤◌, Bool, true, cond, List, [], ◌∷◌, ◌==◌, slice_index, slice_set, refl}
use Rattle.std.proofs.Common.{ap, ◌∙◌}
use Rattle.std.specs.Coded.{le_prop}
use Rattle.std.specs.List.{range_with_len}
use Rattle.std.proofs.lemmas.Bool.{or_right}
use Rattle.model.specs.Lists.{keep, member, product}
use Rattle.model.specs.Sets.{has}
use Rattle.model.specs.Terms.{Plan}
use Rattle.model.proofs.Ordered.{member_head}

-- those of the k numbers from a on that pass a test, rising
unfoldable pub members : (ℕ → Bool) → ℕ → ℕ → List ℕ
members p a k = keep p (range_with_len a k)

-- the bays of a set from b on
abbrev pub bays_from : ℕ → ℕ → List ℕ
bays_from mask b = members (has mask) b (24 - b)

-- what bytes say of a bay
abbrev pub byte_of : List ℕ → ℕ → ℕ
byte_of xs i = slice_index xs i

-- the place that a plan has in a table over some bays, row by row: the choice of the last bay moves fastest
abbrev pub place : (ℕ → ℕ) → ℕ → List ℕ → Plan → ℕ
place choices at [] π = at
place choices at (b ∷ bs) π = place choices (at * choices b + π b) bs π

pub place_stable : (choices : ℕ → ℕ) (at : ℕ) (bs : List ℕ) (π ρ : Plan) → ((i : ℕ) → member i bs ≡ true → π i ≡ ρ i) → place choices at bs π ≡ place choices at bs ρ
place_stable choices at [] π ρ h = refl
place_stable choices at (b ∷ bs) π ρ h =
    ap (λ x. place choices (at * choices b + x) bs π) (h b (member_head b bs)) ∙ place_stable choices (at * choices b + ρ b) bs π ρ (λ i m. h i (or_right (i == b) _ m))

-- bytes with the choices that a place of a table stands for, of the bays that pass a test from a on
unfoldable pub decoded : List ℕ → (ℕ → Bool) → ℕ → ℕ → ℕ → List ℕ → List ℕ
decoded cs p a zero at plan = plan
decoded cs p a (suc k) at plan =
    let rest = product (byte_of cs) (members p (a + 1) k) in
    cond (p a) (decoded cs p (a + 1) k (at % rest) (slice_set plan a (at / rest))) (decoded cs p (a + 1) k at plan)

-- each bay of the set has choices
abbrev pub Open : List ℕ → ℕ → Type 0
Open cs mask = (i : ℕ) → has mask i ≡ true → 0 < slice_index cs i

-- each bay that has choices has one of them
abbrev pub PlanOk : List ℕ → List ℕ → Type 0
PlanOk cs plan = (i : ℕ) → 0 < slice_index cs i → slice_index plan i < slice_index cs i

-- that a plan is within the choices has one proof at most
pub PlanOk_prop : (cs plan : List ℕ) → IsProp (PlanOk cs plan)
PlanOk_prop cs plan p q = λ i b o. le_prop (p b o) (q b o) i

abbrev pub Few : List ℕ → Type 0
Few cs = (i : ℕ) → slice_index cs i ≤ 8
