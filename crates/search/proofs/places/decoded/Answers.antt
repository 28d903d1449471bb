use Rattle.std.proofs.Common.{◌-◌, sym, arith}
use Rattle.search.proofs.Sizes.{no_digits, more_digits, same_digits, all_digits}
use Rattle.search.proofs.places.decoded.Goals as goal

pub loop-bay-init : goal.loop-bay-init
loop-bay-init c = no_digits c.args.choices.now c.args.set c.args.at c.args.plan

pub loop-bay-preserved-then-has : goal.loop-bay-preserved-then-has
loop-bay-preserved-then-has c =
    let l = c.loop-bay in
    rw (c.from-then-has.ensures, c.from-tries.ensures, c.from.ensures) (more_digits c.args.choices.now c.args.set (l.bay - 1) c.args.at c.args.plan l.picks l.left l.bay (omega arith) (omega arith) l.invariant c.requires.open (sym c.if-has.ensures))

pub loop-bay-preserved : goal.loop-bay-preserved
loop-bay-preserved c =
    let l = c.loop-bay in
    same_digits c.args.choices.now c.args.set (l.bay - 1) c.args.at c.args.plan l.picks l.left l.bay (omega arith) (omega arith) l.invariant (sym c.if-has.ensures)

pub returns : goal.returns
returns c = let l = c.loop-bay in all_digits c.args.choices.now c.args.set l.bay c.args.at c.args.plan l.picks l.left l.invariant (omega arith) c.requires.within
