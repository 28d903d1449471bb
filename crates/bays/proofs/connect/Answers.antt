use Rattle.std.proofs.Common.{get_or, rules}
use Rattle.bays.specs.Neighbours.{joined}
use Rattle.bays.proofs.Filled.{filled}
use Rattle.bays.proofs.connect.Goals as goal

pub returns : goal.returns
returns c =
    let ms = c.args.masks in
    let b = c.args.bay in
    filled _ (λ n. joined (get_or ms n 0) (get_or ms b 0) b n) 0 24 (λ k y q h r. search rules) _ c.from_fn.ensures.items
