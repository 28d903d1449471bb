use Rattle.std.proofs.Common.{◌≡◌, ℕ, Option, unwrap_or, ap, sym, ◌∙◌, subst, rules}
use Rattle.std.proofs.lemmas.Int.{to_z-of_z}
use Rattle.fewest.specs.Leasts.{fewer, lighter, fewest, FewestPicked}
use Rattle.fewest.specs.Minima.{fewer_ranks, lighter_ranks, fewest_picked}
use Rattle.fewest.proofs.Picked.{picks_few, picks_light, picks_none}
use Rattle.fewest.proofs.FewestPicker.pick.Goals as goal
use Rattle.fewest.proofs.FewestPicker.pick.Goals.{in_default-via-in-Some+else-at_most, in_default-via-in_default}

pub returns-in-Some : goal.returns-in-Some
returns-in-Some c =
    let q = c.args.question.now in
    let few = c.least.ensures (fewer q) (record { answers = λ a b r p. search rules }) (fewer_ranks q) in
    let is : c.in-Some.bay ≡ fewest q = picks_few q c.in-Some.bay (sym c.in-Some.is ∙ few) (search (rules, to_z-of_z)) in
    record { is = is; picked = λ some small. subst (FewestPicked q) (sym is) (fewest_picked q some small) }

pub returns-in_default : goal.returns-in_default
returns-in_default c =
    let q = c.args.question.now in
    let few = c.least.ensures (fewer q) (record { answers = λ a b r p. search rules }) (fewer_ranks q) in
    let light = c.least-in_default.ensures (lighter q) (record { answers = λ a b r p. search rules }) (lighter_ranks q) in
    let is : c.unwrap_or.result ≡ fewest q =
    c.unwrap_or.ensures
    ∙ ap (λ (o : Option ℕ). unwrap_or o 24) light
    ∙ elim c.in_default.branch [
      | in_default-via-in-Some+else-at_most w ↦ picks_light q w.in-Some.bay (sym w.in-Some.is ∙ few) (search (rules, to_z-of_z))
      | in_default-via-in_default w ↦ picks_none q (sym w.in_default.is ∙ few)
    ] in
    record { is = is; picked = λ some small. subst (FewestPicked q) (sym is) (fewest_picked q some small) }
