use Rattle.std.proofs.Common.{ℕ, ◌≡◌, ◌+◌, false, List, length, set, subst, sym, ap, ◌∙◌, arith}
use Rattle.std.proofs.lemmas.List.{length-take}
use Rattle.search.specs.Force.{is_folded, choice_of, nth_line, line_at}
use Rattle.search.specs.Places.{byte_of}
use Rattle.search.specs.Visit.{set_in}
use Rattle.search.specs.declared.state.Line.{Line}
use Rattle.search.specs.declared.state.Passed.{Passed}
use Rattle.search.specs.declared.state.Passed.TheVariants.{Branched}
use Rattle.search.proofs.Settled.{sets_none, taken, sets_folded, sets_branched}
use Rattle.search.proofs.state.Search.choices_set.Goals.{in-Branched, in_default}
use Rattle.search.proofs.state.Search.choices_set.Goals as goal

pub loop-line-init : goal.loop-line-init
loop-line-init g c = sets_none c.args.self.now.lines

pub loop-line-preserved : goal.loop-line-preserved
loop-line-preserved g c =
    let l = c.loop-line in
    let lines = c.args.self.now.lines in
    let i = l.line-index in
    let here = taken lines c.args.self.now.depth i _ c.loop-line-test.true in
    elim c.match-line.branch [
      | in-Branched w ↦ (let branched : (nth_line lines i).passed ≡ Branched w.in-Branched.choice = sym (ap (λ (x : Line). x.passed) here) ∙ w.in-Branched.is in
          let off : (line_at lines i).folded ≡ false = ap is_folded branched in
          sets_branched lines i l.set l.invariant.0 l.invariant.1 c.match-line.set
          (w.set-is ∙ ap (λ (n : ℕ). set l.set n w.in-Branched.choice) w.from.ensures ∙ ap (λ (x : Line). set l.set x.bay w.in-Branched.choice) here ∙ sym (ap (λ (p : Passed). set l.set (nth_line lines i).bay (choice_of p)) branched))
          off (c.requires.inside i (omega (arith, length-take c.args.self.now.depth lines)) off))
      | in_default w ↦ subst (λ (xs : List ℕ). (length xs ≡ 24) × (byte_of xs ≡ set_in lines (i + 1))) (sym w.set-is)
          (sets_folded lines i l.set l.invariant.0 l.invariant.1 (ap is_folded (sym (ap (λ (x : Line). x.passed) here) ∙ w.in_default.is)))
    ]
