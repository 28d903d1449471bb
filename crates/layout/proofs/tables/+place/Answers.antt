use Rattle.std.proofs.Common.{◌≡◌, ℕ, ◌+◌, ◌-◌, ◌*◌, ◌^◌, ◌<◌, ◌≤◌, length, get_or, arith, rules}
use Rattle.layout.specs.Masks.{rest_of, rest_length, rest_within}
use Rattle.layout.specs.Cells.{place_small, place_step}
use Rattle.layout.proofs.tables.+place.Goals as goal

pub next_place-requires : goal.next_place-requires
next_place-requires t c = place_small (length c.args.scope.now) c.args.so_far c.requires.small

pub place-requires : goal.place-requires
place-requires t c =
    let scope = c.args.scope.now in
    let n : ℕ = length scope in
    let bay = c.from-bay.result in
    let some : 1 ≤ n = search rules in
    let less : length (rest_of scope) ≡ n - 1 = rest_length scope in
    let count : get_or c.args.counts.now bay 0 ≤ 255 = omega (arith, c.type_inv.counts bay) in
    let choice : get_or c.args.plan.now bay 0 ≤ 255 = omega (arith, c.type_inv.plan bay) in
    let step : c.args.so_far * get_or c.args.counts.now bay 0 + get_or c.args.plan.now bay 0 < 256 ^ (4 - (n - 1)) = place_step n c.args.so_far _ _ some c.requires.few c.requires.small count choice in
    (search rules, (omega (arith, less), (rw (c.next_place.ensures, less) step, (rest_within scope (length c.args.counts.now) c.requires.within, c.requires.whole))))
