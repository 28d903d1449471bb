use Rattle.std.proofs.Common.{ℕ, get_or, take, drop, sym, ap, ◌∙◌, arith}
use Rattle.search.proofs.Readings.{value_own, value_rule, value_table, value_past, table_price}
use Rattle.search.specs.Places.{byte_of}
use Rattle.search.proofs.pricing.Pricing.value.Goals as goal

pub returns-in-0-to-23 : goal.returns-in-0-to-23
returns-in-0-to-23 g c = c.own.ensures ∙ value_own g.B.Cost.Price.ops (g.B.Book.meaning c.args.self.now.terms.now.book.now) (g.met.B.Book.lawful c.args.self.now.terms.now.book.now) c.args.self.now.terms.now.choices.now c.args.self.now.terms.now.fits c.args.self.now.terms.now.lines.now c.args.self.now.terms.now.cells.now c.args.number c.args.self.now.plan (omega arith)

pub returns-in-24-to-87 : goal.returns-in-24-to-87
returns-in-24-to-87 g c = c.price.ensures ∙ value_rule g.B.Cost.Price.ops (g.B.Book.meaning c.args.self.now.terms.now.book.now) (g.met.B.Book.lawful c.args.self.now.terms.now.book.now) c.args.self.now.terms.now.choices.now c.args.self.now.terms.now.fits c.args.self.now.terms.now.lines.now c.args.self.now.terms.now.cells.now c.args.number c.args.self.now.plan (omega arith) (omega arith) (omega arith) c.args.self.now.legal

pub returns-in-Branched : goal.returns-in-Branched
returns-in-Branched g c =
    let K = g.B.Cost.Price.ops in
    let x = c.args.self.now.terms.now in
    c.forbidden.ensures ∙ sym (ap (table_price K x.choices.now x.cells.now (byte_of c.args.self.now.plan)) c.in-Branched.is)
    ∙ value_table K (g.B.Book.meaning x.book.now) (g.met.B.Book.lawful x.book.now) x.choices.now x.fits x.lines.now x.cells.now c.args.number c.args.self.now.plan (omega arith)

pub returns-in-Folded : goal.returns-in-Folded
returns-in-Folded g c =
    let K = g.B.Cost.Price.ops in
    let x = c.args.self.now.terms.now in
    c.cell_at.ensures
    ∙ ap (λ (n : ℕ). get_or (take c.in-Folded.table.size (drop c.in-Folded.offset x.cells.now)) n K.forbidden) c.place-at.ensures
    ∙ sym (ap (table_price K x.choices.now x.cells.now (byte_of c.args.self.now.plan)) c.in-Folded.is)
    ∙ value_table K (g.B.Book.meaning x.book.now) (g.met.B.Book.lawful x.book.now) x.choices.now x.fits x.lines.now x.cells.now c.args.number c.args.self.now.plan (omega arith)

pub returns-in_default : goal.returns-in_default
returns-in_default g c =
    let K = g.B.Cost.Price.ops in
    let x = c.args.self.now.terms.now in
    c.forbidden-in_default.ensures ∙ value_past K (g.B.Book.meaning x.book.now) (g.met.B.Book.lawful x.book.now) x.choices.now x.fits x.lines.now x.cells.now c.args.number c.args.self.now.plan (omega arith) x.long
