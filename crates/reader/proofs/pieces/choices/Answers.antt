use Rattle.std.proofs.Common.{ℕ, sym, refl, ◌∙◌, rules}
use Rattle.std.proofs.lemmas.Result.{err_from_is_err_and}
use Rattle.format.specs.Steps.{count_of}
use Rattle.format.specs.Pieces.{got}
use Rattle.reader.proofs.Spans.{bytes_read}
use Rattle.reader.proofs.pieces.choices.Goals as goal

pub returns-in_err-times : goal.returns-in_err-times
returns-in_err-times c =
    let p = err_from_is_err_and c.from_residual.result c.from_residual.ensures.1 in
    rw (p.1, p.2) (c.in_err-times.ensures (λ _. count_of 1 8) (λ s _. s) (λ _. tt) 0 refl (λ t x r f s. search rules))

pub split_at-requires : goal.split_at-requires
split_at-requires c =
    let all = c.in_ok-times.ensures (λ _. count_of 1 8) (λ s _. s) (λ _. tt) 0 refl (λ t x r f s. search rules) in
    (bytes_read {S = ℕ} (λ _. 1) (λ _. 8) (λ s _. s) c.args.n 0 c.args.bytes.now all.0 c.in_ok-times.field-0.now all.1).2

pub returns : goal.returns
returns c =
    let all = c.in_ok-times.ensures (λ _. count_of 1 8) (λ s _. s) (λ _. tt) 0 refl (λ t x r f s. search rules) in
    let p = bytes_read {S = ℕ} (λ _. 1) (λ _. 8) (λ s _. s) c.args.n 0 c.args.bytes.now all.0 c.in_ok-times.field-0.now all.1 in
    all.1 ∙ (λ i. got ((p.0 ∙ sym c.split_at.ensures.front) i) ((p.1 ∙ sym c.split_at.ensures.back) i))
