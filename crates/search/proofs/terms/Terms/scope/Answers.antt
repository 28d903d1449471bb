use Rattle.std.proofs.Common.{sym, ap, ◌∙◌, arith}
use Rattle.std.proofs.lemmas.Nat.{one_shl}
use Rattle.search.specs.Force.{scope_of}
use Rattle.search.proofs.Readings.{scope_own, scope_rule, scope_table, scope_past}
use Rattle.search.proofs.terms.Terms.scope.Goals as goal

pub returns-in-0-to-23 : goal.returns-in-0-to-23
returns-in-0-to-23 g c = one_shl c.args.number 32 (omega arith) ∙ sym (scope_own (g.B.Book.meaning c.args.self.now.book.now) c.args.self.now.lines.now c.args.number (omega arith))

pub returns-in-24-to-87 : goal.returns-in-24-to-87
returns-in-24-to-87 g c = c.scope.ensures ∙ sym (scope_rule (g.B.Book.meaning c.args.self.now.book.now) c.args.self.now.lines.now c.args.number (omega arith) (omega arith))

pub returns-in-Branched : goal.returns-in-Branched
returns-in-Branched g c = sym (scope_table (g.B.Book.meaning c.args.self.now.book.now) c.args.self.now.lines.now c.args.number (omega arith) ∙ ap scope_of c.in-Branched.is)

pub returns-in-Folded : goal.returns-in-Folded
returns-in-Folded g c = sym (scope_table (g.B.Book.meaning c.args.self.now.book.now) c.args.self.now.lines.now c.args.number (omega arith) ∙ ap scope_of c.in-Folded.is)

pub returns-in_default : goal.returns-in_default
returns-in_default g c = sym (scope_past (g.B.Book.meaning c.args.self.now.book.now) c.args.self.now.lines.now c.args.number (omega arith) c.args.self.now.long)
