use Rattle.std.proofs.Common.{◌≡◌, ℕ, ◌+◌, Bool, false, not, ◌&&◌, arith, rules}
use Rattle.model.specs.Sets.{has}
use Rattle.bays.proofs.Filled.{all_made}
use Rattle.search.proofs.Flags.{flag_set}
use Rattle.search.specs.Force.{flag, scope_mask}
use Rattle.search.proofs.terms.Terms.folded_force.Goals as goal

pub returns : goal.returns
returns g c =
    let x = c.args.self.now in
    let force = c.args.force.now in
    let touch = λ (k : ℕ). has (scope_mask (g.B.Book.meaning x.book.now) x.lines.now k) c.args.bay in
    flag_set c.from_fn-after.result force touch c.from_fn-after.ensures.items.long c.told-force
    (all_made _ (λ (k : ℕ) (y : Bool). y ≡ (flag force k && not (touch k))) false 112 (λ k y q l r. (search rules, search rules)) _ c.from_fn-after.ensures.items)
    (88 + c.args.depth) (omega arith)
