use Rattle.std.proofs.Common.{◌≡◌, ℕ, List, length, ap, ◌∙◌, rules}
use Rattle.std.proofs.lemmas.List.{take_at}
use Rattle.layout.proofs.copy.copied.Goals as goal

pub returns : goal.returns
returns c =
    let same : c.copy_from_slice.new.self ≡ c.args.body.now = search rules in
    take_at c.copy_from_slice.new.self _ (length c.args.body.now) (ap (λ (l : List ℕ). length l) same) ∙ same
