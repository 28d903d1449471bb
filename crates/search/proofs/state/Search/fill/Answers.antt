use Rattle.std.proofs.Common.{ℕ, ◌+◌, ◌<◌, ◌≢◌, List, length, get_or, take, sym, ap, ◌∙◌, subst, arith, below_more}
use Rattle.std.proofs.lemmas.List.{take-set-le, get_or-set_same, get_or-set_other}
use Rattle.model.specs.Lists.{product}
use Rattle.model.specs.Sets.{has}
use Rattle.model.specs.Terms.{least, cost, touching, put}
use Rattle.search.proofs.Tables.{decoded_ok, terms_frame}
use Rattle.search.specs.Force.{trial}
use Rattle.search.specs.Places.{byte_of, PlanOk, bays_from}
use Rattle.search.proofs.state.Search.fill.Goals as goal

pub invariant_of-pricing-clause-legal : goal.invariant_of-pricing-clause-legal
invariant_of-pricing-clause-legal g c =
    let cs = c.args.self.now.choices in
    let within : c.loop-place.place < product (byte_of cs) (bays_from c.args.table.near 0) = rw c.requires.whole at c.loop-place-test.true in
    subst (λ xs. PlanOk xs c.decoded.result) (sym c.terms-terms.ensures.choices) (subst (PlanOk cs) (sym c.decoded.ensures) (decoded_ok cs (has c.args.table.near) 0 24 c.loop-place.place c.args.plan.now (omega arith) c.requires.opened within c.requires.legal))

pub loop-place-preserved : goal.loop-place-preserved
loop-place-preserved g c =
    let K = g.P.Price.ops in
    let m = g.B.Book.meaning c.args.book.now in
    let cs = c.args.self.now.choices in
    let xs = c.loop-place.scratch in
    let u = c.args.left.now.used in
    let p = c.loop-place.place in
    let v = c.settle-cell.result.price in
    let room : u + p < length xs = omega arith in
    let is = c.add_cell.ensures in
    let t = c.terms-terms.ensures in
    let d = K.forbidden in
    let frame = terms_frame K m cs c.args.self.now.lines xs c.args.scratch.now c.args.left.now.force.now u 0 c.requires.under c.loop-place.invariant.0 in
    let n = get_or cs c.args.bay 0 in
    let b = c.args.bay in (
      ap (take u) is ∙ take-set-le u xs (u + p) v (omega arith) ∙ c.loop-place.invariant.0,
      below_more _ p
          (λ k h. ap (λ l. get_or l (u + k) d) is ∙ (let ne : u + k ≢ u + p = omega arith in get_or-set_other xs (u + p) (u + k) v d ne) ∙ c.loop-place.invariant.1 k h)
          (ap (λ l. get_or l (u + p) d) is ∙ get_or-set_same xs (u + p) v d room ∙ rw (t.book, t.choices, t.lines, t.cells) at c.settle-cell.ensures.price
          ∙ ap (λ ts. least K n (λ (x : ℕ). cost K (touching b ts) (put b x (byte_of c.decoded.result)))) frame
          ∙ ap (λ (l : List ℕ). least K n (trial K m cs c.args.self.now.lines c.args.scratch.now c.args.left.now.force.now b (byte_of l))) c.decoded.ensures),
    )
