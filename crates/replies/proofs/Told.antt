-- The text of a plan that was sought.
use Rattle.std.proofs.Common.{◌≡◌, ℕ, ◌-◌, ◌≤◌, min, Bool, true, false, not, ◌&&◌, cond, List, map, length, get_or, take, drop, ℤ, Option, sym, refl, ap, ◌∙◌, ap₂, arith}
use Rattle.std.specs.List.{range_with_len}
use Rattle.std.proofs.Math.Decide.{dec_le}
use Rattle.std.proofs.lemmas.Bool.{lt-ltb}
use Rattle.course.specs.Views.{answers_of}
use Rattle.model.specs.Searched.{search_in}
use Rattle.refusals.specs.declared.Refusal.TheVariants.{BadSetting}
use Rattle.search.specs.declared.answer.Planned.TheVariants.{Refused}
use Rattle.std.proofs.lemmas.List.FromFn.{fill_by_all}
use Rattle.std.proofs.lemmas.List.{length-take-le, get_or-take}
use Rattle.model.specs.Books.{Meaning}
use Rattle.model.specs.Prices.{Ops}
use Rattle.prices.specs.declared.upto.Upto.{Upto}
use Rattle.search.specs.Start as plan
use Rattle.search.specs.declared.answer.Planned.{Planned}
use Rattle.pickers.specs.declared.question.Question.{Question}
use Rattle.replies.specs.declared.reply.Sought.{Sought}
use Rattle.replies.specs.Answers.{plan_by}
use Rattle.replies.specs.Texts.{planned_text}

-- the front of plan bytes that are known one by one
front_bytes : (f : ℕ → ℕ) (bytes : List ℕ) (n : ℕ) → n ≤ length bytes → ((i : ℕ) → get_or bytes i 0 ≡ f i) → take (n - 0) (drop 0 bytes) ≡ map f (range_with_len 0 n)
front_bytes f bytes n room at =
    let whole : n - 0 ≡ n = omega arith in
    let long : length (take (n - 0) bytes) ≡ n = omega (arith, length-take-le (n - 0) bytes (omega arith)) in
    fill_by_all f (take (n - 0) bytes) n 0 long (λ i l. get_or-take (n - 0) bytes i 0 (omega arith) ∙ at i)

-- too little room is refused
denied : (a b short : Bool) → short ≡ true → (a && (b && not short)) ≡ false
denied true true short e = ap not e
denied true false short e = refl
denied false b short e = refl

module _ {TOP : ℕ} (o : Ops (Upto TOP)) (m : Meaning (Upto TOP)) (pick : Question → ℕ) (s : Sought) (offered : Option (Upto TOP)) (was : List ℕ) where
  pub told_plan : (k : ℤ) (cells : ℕ) (bytes : List ℕ) (planned : Planned (Upto TOP)) (b : ℕ) → k ≡ s.k → cells ≡ s.cells → b ≡ min m.bays (length was) → length bytes ≡ length was
      → planned ≡ plan.reply o m pick k s.limit cells (length was) offered
      → ((i : ℕ) → get_or bytes i 0 ≡ plan.bytes_after o m pick k s.limit cells (length was) offered was i)
      → planned_text (take (b - 0) (drop 0 bytes)) planned ≡ plan_by o m pick s offered was
  told_plan k cells bytes planned b k_is cells_is all room answers at =
      let f : ℤ → ℕ → ℕ → ℕ = λ z n. plan.bytes_after o m pick z s.limit n (length was) offered was in
      let asked : ℤ → ℕ → Planned (Upto TOP) = λ z n. plan.reply o m pick z s.limit n (length was) offered in
      elim (dec_le m.bays (length was)) [
        | yes h ↦
            ap₂ planned_text (front_bytes (f s.k s.cells) bytes b (omega arith) (λ i. at i ∙ ap₂ (λ (z : ℤ) (n : ℕ). f z n i) k_is cells_is) ∙ ap (λ (n : ℕ). map (f s.k s.cells) (range_with_len 0 n)) (omega arith))
            (answers ∙ ap₂ asked k_is cells_is)
        | no h ↦
            let refused : asked s.k s.cells ≡ Refused BadSetting =
            ap (λ (t : Bool). cond t (plan.by_offer offered (λ c. plan.outcome_of (search_in o m (answers_of pick) s.k s.limit s.cells c))) (Refused BadSetting))
            (denied _ _ _ (lt-ltb (length was) m.bays (omega arith))) in
            ap (planned_text (take (b - 0) (drop 0 bytes))) (answers ∙ ap₂ asked k_is cells_is ∙ refused) ∙ sym (ap (planned_text _) refused)
      ]
