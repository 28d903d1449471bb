use Rattle.std.proofs.Common.{length, subst, rules}
use Rattle.model.specs.Books.{Meaning}
use Rattle.runs.specs.Planning.{Sought}
use Rattle.runs.proofs.planning.plan.Goals as goal

-- the pile's book is the sheet's, so what the search promises of the one holds of the other
pub returns-clause-sheet : goal.returns-clause-sheet
returns-clause-sheet g c = λ h s f.
    let of : Meaning g.row.P.Denot → Type 0 = λ m. Sought g.P.Price.ops m (g.K.Picker.answer c.args.picker.now) c.args.k c.args.limit (length c.args.scratch.now) (g.P.Price.accepts c.args.ceiling) c.args.bytes.now c.plan.new.bytes c.plan.result in
    subst of (c.pile.ensures.sheet h s f) (search rules)
