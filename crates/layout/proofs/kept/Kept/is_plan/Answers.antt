use Rattle.std.proofs.Common.{◌≡◌, ℕ, List, length, get_or, sym, ap, ◌∙◌, arith}
use Rattle.std.proofs.lemmas.List.{get_or_past, get_or_default}
use Rattle.model.specs.Books.{begins}
use Rattle.books.proofs.Plans.{begins_next, begins_not}
use Rattle.format.specs.House.{counts_of}
use Rattle.layout.specs.Kept.{held, kept_layout}
use Rattle.layout.specs.Meant.{choices_in}
use Rattle.layout.specs.Places.{few_choices, counts_long, bays_is}
use Rattle.layout.specs.declared.kept.Kept.{Kept}
use Rattle.layout.proofs.kept.Kept.is_plan.Goals as goal

as_many : (x : Kept) (counts : List ℕ) → counts ≡ counts_of (kept_layout x) → length counts ≡ length (kept_layout x).own
as_many x counts same = ap (λ (l : List ℕ). length l) same ∙ counts_long (held x) x.index ∙ bays_is (held x) x.index

count : (x : Kept) (counts : List ℕ) → counts ≡ counts_of (kept_layout x) → (bay : ℕ) → get_or counts bay 0 ≡ choices_in (kept_layout x) bay
count x counts same bay = ap (λ (l : List ℕ). get_or l bay 0) same

pub returns-then-plan-counts : goal.returns-then-plan-counts
returns-then-plan-counts c =
    let x = c.args.self.now in
    let plan = c.args.plan.now in
    let past : get_or plan (length plan) 255 ≡ 255 = get_or_past plan (length plan) 255 (omega arith) in
    sym (begins_not (choices_in (kept_layout x)) (length (kept_layout x).own) (length plan) plan (omega (arith, as_many x _ c.counts-counts.ensures)) (omega (arith, few_choices (held x) x.index x.found (length plan))))

pub returns-then-plan-bay : goal.returns-then-plan-bay
returns-then-plan-bay c =
    let x = c.args.self.now in
    let bay = c.loop-bay.bay in
    sym (begins_not (choices_in (kept_layout x)) (length (kept_layout x).own) bay c.args.plan.now (omega (arith, as_many x _ c.counts-counts.ensures)) (omega (arith, get_or_default c.args.plan.now bay 255 0 (omega arith), count x _ c.counts-counts.ensures bay)))

pub loop-bay-preserved : goal.loop-bay-preserved
loop-bay-preserved c =
    let x = c.args.self.now in
    let bay = c.loop-bay.bay in
    begins_next (choices_in (kept_layout x)) bay c.args.plan.now c.loop-bay.invariant (omega (arith, get_or_default c.args.plan.now bay 255 0 (omega arith), count x _ c.counts-counts.ensures bay))

pub returns : goal.returns
returns c =
    let x = c.args.self.now in
    let e : c.loop-bay.bay ≡ length (kept_layout x).own = omega (arith, as_many x _ c.counts-counts.ensures) in
    sym c.loop-bay.invariant ∙ ap (λ (n : ℕ). begins (choices_in (kept_layout x)) n c.args.plan.now) e
