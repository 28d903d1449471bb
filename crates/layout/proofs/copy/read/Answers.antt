use Rattle.std.proofs.Common.{◌≡◌, ℕ, List, drop, sym, ap, ◌∙◌, subst}
use Rattle.std.proofs.lemmas.List.{take_rest}
use Rattle.format.specs.House.{Layout, FitsBook, book_bytes}
use Rattle.reader.specs.Indexed.{layout_by}
use Rattle.layout.specs.Kept.{kept_layout}
use Rattle.layout.proofs.copy.read.Goals as goal

pub returns-clause-accepted : goal.returns-clause-accepted
returns-clause-accepted g c =
    let bs = c.args.bytes.now in
    let i = c.in_ok-index.index in
    let same : layout_by (drop 5 bs) i ≡ kept_layout c.kept.result = sym (c.kept.ensures ∙ ap (λ (l : List ℕ). layout_by l i) (take_rest bs 5)) in
    subst (λ (L : Layout). FitsBook g.P.Stored.letters g.P.Stored.top L × (bs ≡ book_bytes g.P.Stored.letters L)) same c.in_ok-index.ensures.means
