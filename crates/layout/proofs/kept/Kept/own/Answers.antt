use Rattle.std.proofs.Common.{◌≡◌, ℕ, ◌<◌, ◌≤◌, List, length, get_or, drop, sym, ap, ◌∙◌, subst, arith}
use Rattle.reader.specs.Indexed.{items}
use Rattle.layout.specs.Kept.{held}
use Rattle.layout.specs.Places.{own_none, choices_past, row_read, row_starts}
use Rattle.layout.proofs.kept.Kept.own.Goals as goal
use Rattle.layout.proofs.kept.Kept.own.Goals.{In_ok-row, at-nth_price-requires, at-returns}

pub from_place-requires : goal.from_place-requires
from_place-requires c =
    let x = c.args.self.now in
    subst (λ (l : List ℕ). (i : ℕ) → i < length c.as_slice.result.now → get_or c.as_slice.result.now i 0 ≤ length l) (sym c.body.ensures)
    (subst (λ (l : List ℕ). (i : ℕ) → i < length l → get_or l i 0 ≤ length (held x)) (sym c.as_slice.ensures) (row_starts (held x) x.index x.found))

pub returns-in_err-row : goal.returns-in_err-row
returns-in_err-row c =
    let x = c.args.self.now in
    c.from_residual.ensures ∙ own_none (held x) x.index c.args.bay c.args.choice (omega (arith, choices_past (held x) x.index c.args.bay (omega (arith, c.in_err-row.ensures, ap (λ (l : List ℕ). length l) c.as_slice.ensures))))

row_is : (c : In_ok-row) → c.in_ok-row.row.now ≡ drop (get_or (items c.args.self.now.index.own_at) c.args.bay 0) (held c.args.self.now)
row_is c = c.in_ok-row.ensures.1 ∙ (λ i. drop (get_or (c.as_slice.ensures i) c.args.bay 0) (c.body.ensures i))

pub nth_price-requires : goal.nth_price-requires
nth_price-requires c =
    let x = c.args.self.now in
    (row_read (held x) x.index x.found c.args.bay c.args.choice c.from.result 0 c.in_ok-row.row.now (row_is (at-nth_price-requires c).In_ok-row) c.from.ensures (omega (arith, c.choices.ensures))).0

pub returns : goal.returns
returns c =
    let x = c.args.self.now in
    (row_read (held x) x.index x.found c.args.bay c.args.choice c.from.result c.nth_price.result c.in_ok-row.row.now (row_is (at-returns c).In_ok-row) c.from.ensures (omega (arith, c.choices.ensures))).1 c.nth_price.ensures

pub returns-then-choice-choices : goal.returns-then-choice-choices
returns-then-choice-choices c = own_none (held c.args.self.now) c.args.self.now.index c.args.bay c.args.choice (omega (arith, c.choices.ensures))
