-- What an accepted call for a course answers.
use Rattle.std.proofs.Common.{◌≡◌, ℕ, ◌^◌, ◌<◌, ◌≤◌, Bool, true, cond, not, ◌&&◌, List, ◌++◌, map, length, drop, ℤ, pos, negsuc, Ok, Err, sym, ap, ◌∙◌, subst, ap₂}
use lib.Signed.{le_z}
use Rattle.std.proofs.lemmas.Bool.{le-ltb}
use Rattle.model.specs.Books.{Meaning, BookLaws}
use Rattle.model.specs.Course.{forecast, capped}
use Rattle.model.specs.Prices.{Ops}
use Rattle.model.specs.Sets.{has}
use Rattle.pickers.specs.declared.question.Question.{Question}
use Rattle.refusals.specs.declared.Refusal.TheVariants.{BadSetting}
use Rattle.course.specs.declared.line.Line.{Line}
use Rattle.course.specs.Replies.{lines_of, allowed, reply, after, Tells}
use Rattle.course.specs.Written.{written, forecast_of}
use Rattle.course.proofs.Starts.{forecast_is, told}

module _ {P : Type 0} (o : Ops P) (m : Meaning P) (laws : BookLaws o m) (pick : Question → ℕ)
    (remains : (q : Question) → 0 < q.remaining → q.remaining < 2 ^ 24 → has q.remaining (pick q) ≡ true)
    (k : ℤ) (cells : ℕ) (was : List Line) (small : (le_z (negsuc 0) k && le_z k (pos 4)) ≡ true) (room : m.bays ≤ length was) where
  allows : allowed m k (length was) ≡ true
  allows = ap₂ (λ (x y : Bool). x && not y) small (le-ltb (length was) m.bays room)

  pub answered : (lines : List Line) (n : ℕ) → lines ≡ map written (lines_of m pick k cells) → n ≡ capped (forecast_of lines) → n ≡ capped (forecast (lines_of m pick k cells))
  answered lines n lines_are n_is = n_is ∙ ap (λ (xs : List Line). capped (forecast_of xs)) lines_are ∙ ap capped (forecast_is (lines_of m pick k cells))

  pub replied : Ok (capped (forecast (lines_of m pick k cells))) ≡ reply m pick k cells (length was)
  replied = sym (ap (λ (t : Bool). cond t (Ok (capped (forecast (lines_of m pick k cells)))) (Err BadSetting)) allows)

  pub wrote : map written (lines_of m pick k cells) ++ drop m.bays was ≡ after m pick k cells was
  wrote = sym (ap (λ (t : Bool). cond t (map written (lines_of m pick k cells) ++ drop m.bays was) was) allows)

  pub tells : (lines : List Line) (n : ℕ) → lines ≡ map written (lines_of m pick k cells) ++ drop m.bays was → n ≡ capped (forecast (lines_of m pick k cells)) → Tells m lines n
  tells lines n lines_are n_is =
      subst (λ (x : ℕ). Tells m lines x) (sym n_is)
      (subst (λ (xs : List Line). Tells m xs (capped (forecast (lines_of m pick k cells)))) (sym lines_are) (told o m laws pick remains k cells (drop m.bays was)))
