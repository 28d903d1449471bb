use Rattle.std.proofs.Common.{◌≡◌, ℕ, ◌<◌, true, List, length, get_or, take, sym, ap, ap₂, ◌∙◌, subst, arith, length-set}
use Rattle.std.proofs.lemmas.List.{length-take}
use Rattle.model.proofs.Ordered.{least_at_lt}
use Rattle.model.specs.Terms.{Fold, read, put, least_at}
use Rattle.search.proofs.Folds.{folds_none, folds_in, folds_out}
use Rattle.search.proofs.Settled.{newest_taken}
use Rattle.search.proofs.Steps.{bytes_put}
use Rattle.search.proofs.Tables.{set_ok}
use Rattle.search.specs.Force.{is_folded, force_of, no_line, nth_line, trial}
use Rattle.search.specs.Places.{byte_of}
use Rattle.search.specs.Visit.{folds_of}
use Rattle.search.specs.declared.state.Line.{Line}
use Rattle.search.specs.declared.state.Passed.{Passed}
use Rattle.search.proofs.pricing.Pricing.read_back.Goals as goal

pub loop-line-init : goal.loop-line-init
loop-line-init g c =
    let K = g.B.Cost.Price.ops in
    let x = c.args.self.now.terms.now in
    let lines = x.lines.now in
    let is : c.into_iter-line-iterator.result.iter.rest.now ≡ take c.args.depth lines = ap (λ i. i.iter.rest.now) c.into_iter-line-iterator.ensures.into_iter_gives ∙ ap (λ i. i.rest.now) c.rev-line-items.ensures.source ∙ c.iter.ensures.rest in
    let all : length c.into_iter-line-iterator.result.iter.rest.now ≡ c.args.depth = omega (arith, ap length is, length-take c.args.depth lines, x.long) in
    record {
      wide = c.args.self.now.wide;
      legal = c.args.self.now.legal;
      first = is ∙ ap (λ (n : ℕ). take n lines) (sym all);
      below = omega (arith, all);
      read = ap (λ (n : ℕ). read K (byte_of x.choices.now) (folds_of K (g.B.Book.meaning x.book.now) x.choices.now lines x.cells.now n) (byte_of c.args.self.now.plan)) (sym all);
    }

pub loop-line-preserved-in-Folded : goal.loop-line-preserved-in-Folded
loop-line-preserved-in-Folded g c =
    let K = g.B.Cost.Price.ops in
    let x = c.args.self.now.terms.now in
    let m = g.B.Book.meaning x.book.now in
    let cs = x.choices.now in
    let lines = x.lines.now in
    let e = c.loop-line.invariant in
    let d = length c.next.new.self.iter.rest.now in
    let t = newest_taken no_line lines c.loop-line.line-iterator.iter.rest.now c.next.new.self.iter.rest.now c.in-Some.line.now e.first c.in-Some.ensures.steps in
    let plan = c.loop-line.plan in
    let π = byte_of plan in
    let b = c.in-Some.line.now.bay in
    let v = c.settle.result.choice in
    let l = nth_line lines d in
    let folded : is_folded l.passed ≡ true = ap (λ (y : Line). is_folded y.passed) (sym t.1) ∙ ap is_folded c.in-Folded.is in
    let k = c.requires.bays d (omega (arith, t.0, e.below)) folded in
    let bay : c.from.result ≡ l.bay = c.from.ensures ∙ ap (λ (y : Line). y.bay) t.1 in
    let choice : v ≡ least_at K (get_or cs l.bay 0) (trial K m cs lines x.cells.now (force_of l.passed) l.bay π) =
    c.settle.ensures.choice
    ∙ sym (ap (λ (p : Passed). least_at K (get_or cs b 0) (trial K m cs lines x.cells.now (force_of p) b π)) c.in-Folded.is)
    ∙ ap (λ (y : Line). least_at K (get_or cs y.bay 0) (trial K m cs lines x.cells.now (force_of y.passed) y.bay π)) t.1 in
    let lt : v < get_or cs c.from.result 0 = subst (λ (z : ℕ). v < get_or cs z 0) (sym bay) (rw choice (least_at_lt K (get_or cs l.bay 0) (trial K m cs lines x.cells.now (force_of l.passed) l.bay π) k.1)) in
    record {
      wide = length-set plan c.from.result v ∙ e.wide;
      legal = set_ok cs plan c.from.result v (omega (arith, k.0, bay, e.wide)) lt e.legal;
      first = t.2;
      below = omega (arith, t.0, e.below);
      read = e.read
          ∙ ap (λ (fs : List (Fold _)). read K (byte_of cs) fs π) (ap (folds_of K m cs lines x.cells.now) t.0 ∙ folds_in K m cs lines x.cells.now d folded)
          ∙ sym (ap (read K (byte_of cs) (folds_of K m cs lines x.cells.now d)) (bytes_put plan c.from.result v (omega (arith, k.0, bay, e.wide)) ∙ ap₂ (λ (z n : ℕ). put z n π) bay choice));
    }

pub loop-line-preserved : goal.loop-line-preserved
loop-line-preserved g c =
    let K = g.B.Cost.Price.ops in
    let x = c.args.self.now.terms.now in
    let e = c.loop-line.invariant in
    let d = length c.next.new.self.iter.rest.now in
    let t = newest_taken no_line x.lines.now c.loop-line.line-iterator.iter.rest.now c.next.new.self.iter.rest.now c.in-Some.line.now e.first c.in-Some.ensures.steps in
    record {
      wide = e.wide;
      legal = e.legal;
      first = t.2;
      below = omega (arith, t.0, e.below);
      read = e.read
          ∙ ap (λ (fs : List (Fold _)). read K (byte_of x.choices.now) fs (byte_of c.loop-line.plan)) (ap (folds_of K (g.B.Book.meaning x.book.now) x.choices.now x.lines.now x.cells.now) t.0 ∙ folds_out K (g.B.Book.meaning x.book.now) x.choices.now x.lines.now x.cells.now d (ap (λ (y : Line). is_folded y.passed) (sym t.1) ∙ ap is_folded c.in_default.is));
    }

pub returns : goal.returns
returns g c =
    let K = g.B.Cost.Price.ops in
    let x = c.args.self.now.terms.now in
    let m = g.B.Book.meaning x.book.now in
    let cs = x.choices.now in
    let e = c.loop-line.invariant in
    sym (e.read ∙ ap (λ (fs : List (Fold _)). read K (byte_of cs) fs (byte_of c.loop-line.plan)) (ap (folds_of K m cs x.lines.now x.cells.now) (c.in-None.ensures.steps.0) ∙ folds_none K m cs x.lines.now x.cells.now))
