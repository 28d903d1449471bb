-- Plans bay by bay, terms, what they cost, the floor, and what folding a bay makes of them.
use Rattle.std.specs.Prelude.{◌≡◌, ℕ, zero, suc, ◌<◌, Bool, true, false, cond, not, ◌&&◌, List, [], ◌∷◌, ◌++◌, ◌==◌, refl}
use Rattle.std.proofs.Common.{ap, ap₂}
use Rattle.std.proofs.Math.Path.{fun_ext}
use Rattle.std.proofs.lemmas.Bool.{or_right}
use Rattle.model.specs.Prices.{Ops}
use Rattle.model.specs.Lists.{keep, any, member}

-- a plan: the choice of each bay
abbrev pub Plan : Type 0
Plan = ℕ → ℕ

abbrev pub put : ℕ → ℕ → Plan → Plan
put b c π i = cond (i == b) c (π i)

-- a term: the bays that it touches, its price under a plan, and that no other bay counts
pub record Term (P : Type 0) : Type 0 where
  pub scope : ℕ → Bool
  pub value : Plan → P
  pub stable : (π ρ : Plan) → ((i : ℕ) → scope i ≡ true → π i ≡ ρ i) → value π ≡ value ρ

-- what terms combine to under a plan
abbrev pub cost : {P : Type 0} → Ops P → List (Term P) → Plan → P
cost o [] π = o.free
cost o (t ∷ ts) π = o.combine (t.value π) (cost o ts π)

-- the least of the prices f 0 to f (n - 1), and the first number that has it
abbrev pub least : {P : Type 0} → Ops P → ℕ → (ℕ → P) → P
least o zero f = o.forbidden
least o (suc zero) f = f 0
least o (suc (suc n)) f = cond (o.at_most (least o (suc n) f) (f (suc n))) (least o (suc n) f) (f (suc n))

abbrev pub least_at : {P : Type 0} → Ops P → ℕ → (ℕ → P) → ℕ
least_at o zero f = 0
least_at o (suc zero) f = 0
least_at o (suc (suc n)) f = cond (o.at_most (least o (suc n) f) (f (suc n))) (least_at o (suc n) f) (suc n)

-- the least price of a term over the choices of the bays left; the other bays are as in σ
abbrev pub least_price : {P : Type 0} → Ops P → (ℕ → ℕ) → Term P → List ℕ → Plan → P
least_price o choices t [] σ = t.value σ
least_price o choices t (b ∷ bs) σ = cond (t.scope b) (least o (choices b) (λ c. least_price o choices t bs (put b c σ))) (least_price o choices t bs σ)

-- the floor: the least prices of the terms, combined
abbrev pub floor : {P : Type 0} → Ops P → (ℕ → ℕ) → List (Term P) → List ℕ → Plan → P
floor o choices [] left σ = o.free
floor o choices (t ∷ ts) left σ = o.combine (least_price o choices t left σ) (floor o choices ts left σ)

-- the terms that touch a bay, and those that do not
abbrev pub touching : {P : Type 0} → ℕ → List (Term P) → List (Term P)
touching b = keep (λ t. t.scope b)

abbrev pub others : {P : Type 0} → ℕ → List (Term P) → List (Term P)
others b = keep (λ t. not (t.scope b))

pub cost_stable : {P : Type 0} (o : Ops P) (ts : List (Term P)) (π ρ : Plan) → ((i : ℕ) → any (λ t. t.scope i) ts ≡ true → π i ≡ ρ i) → cost o ts π ≡ cost o ts ρ
cost_stable o [] π ρ h = refl
cost_stable o (t ∷ ts) π ρ h =
    ap₂ o.combine (t.stable π ρ (λ i e. h i (rw e refl))) (cost_stable o ts π ρ (λ i e. h i (or_right (t.scope i) _ e)))

pub put_agree : (b c : ℕ) (π ρ : Plan) (i : ℕ) (s : Bool) → ((not (i == b) && s) ≡ true → π i ≡ ρ i) → s ≡ true → put b c π i ≡ put b c ρ i
put_agree b c π ρ i s h e = go (i == b) h
  where
    go : (x : Bool) → ((not x && s) ≡ true → π i ≡ ρ i) → cond x c (π i) ≡ cond x c (ρ i)
    go true h = refl
    go false h = h e

-- terms combined, least over the choices of a bay: a term over the other bays that they touch
abbrev pub join : {P : Type 0} → Ops P → (ℕ → ℕ) → ℕ → List (Term P) → Term P
join o choices b ts = record {
  scope = λ i. not (i == b) && any (λ t. t.scope i) ts;
  value = λ π. least o (choices b) (λ c. cost o ts (put b c π));
  stable = λ π ρ h. ap (least o (choices b)) (fun_ext (λ c. cost_stable o ts (put b c π) (put b c ρ) (λ i e. put_agree b c π ρ i _ (h i) e)));
}

-- a bay is folded: the terms that touch it leave force, and their join comes last
abbrev pub folded : {P : Type 0} → Ops P → (ℕ → ℕ) → ℕ → List (Term P) → List (Term P)
folded o choices b ts = others b ts ++ (join o choices b (touching b ts) ∷ [])

-- the choice of a folded bay, given the other bays: the first at which its terms combine least
abbrev pub chosen : {P : Type 0} → Ops P → (ℕ → ℕ) → ℕ → List (Term P) → Plan → ℕ
chosen o choices b ts π = least_at o (choices b) (λ c. cost o (touching b ts) (put b c π))

-- a folded bay, with the terms that were in force
pub record Fold (P : Type 0) : Type 0 where
  pub bay : ℕ
  pub terms : List (Term P)

-- the plan with the folded bays read, the newest first
abbrev pub read : {P : Type 0} → Ops P → (ℕ → ℕ) → List (Fold P) → Plan → Plan
read o choices [] π = π
read o choices (f ∷ fs) π = read o choices fs (put f.bay (chosen o choices f.bay f.terms π) π)

-- each of these bays has one of its choices
abbrev pub Legal : (ℕ → ℕ) → List ℕ → Plan → Type 0
Legal choices bays π = (i : ℕ) → member i bays ≡ true → π i < choices i

-- π is σ but for the bays left
abbrev pub Completes : List ℕ → Plan → Plan → Type 0
Completes left σ π = (i : ℕ) → member i left ≡ false → σ i ≡ π i
