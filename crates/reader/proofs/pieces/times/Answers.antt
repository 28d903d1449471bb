use Rattle.std.proofs.Common.{[], ◌∷◌, ◌++◌, ◌∙◌, arith, of_calls, Ok, Err}
use Rattle.std.proofs.lemmas.Result.{err_from_is_err_and}
use Rattle.reader.proofs.Chains.{after_start, after_more, after_bad, after_all}
use Rattle.reader.proofs.pieces.times.Goals as goal

pub loop-i-init : goal.loop-i-init
loop-i-init g c = (c.requires, λ R next at s here steps. (s, here, ([], after_start R next c.args.n s c.args.bytes.now)))

pub returns-in_err-rest : goal.returns-in_err-rest
returns-in_err-rest g c = λ R next at s here steps.
    let p = err_from_is_err_and c.from_residual.result c.from_residual.ensures.1 in
    let q = c.loop-i.invariant.1 R next at s here steps in
    let one = steps q.0 c.loop-i.rest (Err c.in_err-rest.field-0.0) c.piece.new.self (rw q.1 at c.in_err-rest.ensures) in
    rw (p.1, p.2) (q.2.1 ∙ after_bad R next q.2.0 c.args.n c.loop-i._i q.0 c.loop-i.rest.now _ (omega arith) one)

pub loop-i-preserved : goal.loop-i-preserved
loop-i-preserved g c = (
  search of_calls,
  λ R next at s here steps.
      let q = c.loop-i.invariant.1 R next at s here steps in
      let one = steps q.0 c.loop-i.rest (Ok c.in_ok-rest.rest) c.piece.new.self (rw q.1 at c.in_ok-rest.ensures) in
      (next q.0 one.0, one.2, (q.2.0 ++ one.0 ∷ [], q.2.1 ∙ after_more R next q.2.0 c.args.n c.loop-i._i q.0 c.loop-i.rest.now one.0 c.in_ok-rest.rest.now (omega arith) one.1)),
)

pub returns : goal.returns
returns g c = λ R next at s here steps.
    let q = c.loop-i.invariant.1 R next at s here steps in
    (q.2.0, q.2.1 ∙ after_all R next q.2.0 c.args.n c.loop-i._i q.0 c.loop-i.rest.now (omega arith))
