-- What is answered of a search keeps what is promised.
use Rattle.std.proofs.Common.{◌≡◌, ℕ, ◌<◌, ◌≤◌, Bool, true, false, cond, not, ◌&&◌, ltb, List, length, get_or, ℤ, pos, negsuc, Some, None, Option as Maybe, sym, refl, ap, ◌∙◌, subst, ap₂, inl, inr, arith}
use mathlib.Core.Option.{Option, none, some}
use lib.Signed.{le_z}
use Rattle.std.proofs.lemmas.List.{get_or_default}
use Rattle.std.proofs.lemmas.Bool.{and_parts, lt-ltb, ltb-false, not-true}
use Rattle.course.specs.Views.{answers_of}
use Rattle.model.specs.Books.{Meaning, BookLaws, planned}
use Rattle.model.specs.Course.{course_in, forecast}
use Rattle.model.specs.Prices.{Ops, PriceLaws}
use Rattle.model.specs.Search.{Sofar}
use Rattle.model.specs.Searched.{bytes_in, search_in, Below, NoneBelow, Promise as KeptPromise}
use Rattle.model.specs.Terms.{Plan}
use Rattle.model.proofs.Costs.{begins_from, begins_at, bytes_at, plan_costs}
use Rattle.model.proofs.Searching.{search_keeps}
use Rattle.pickers.specs.declared.question.Question.{Question}
use Rattle.refusals.specs.declared.Refusal.TheVariants.{BadSetting}
use Rattle.search.specs.Promise.{Taken, Cheapest, Promise}
use Rattle.search.specs.Start.{by_plan, outcome_of, bytes_by, bytes_of, allowed, by_offer, bytes_by_offer, reply, bytes_after}
use Rattle.search.specs.declared.answer.Planned.{Planned}
use Rattle.search.specs.declared.answer.Planned.TheVariants.{Stopped, Refused}
use Rattle.search.proofs.Kits.{clash}

module _ {P : Type 0} (o : Ops P) (L : PriceLaws o) (m : Meaning P) (laws : BookLaws o m) where
  -- bytes that begin with the choices of a plan have its price
  begun_below : (π : Plan) (bytes : List ℕ) (ceiling price : P) → m.bays ≤ length bytes → ((i : ℕ) → i < m.bays → get_or bytes i 0 ≡ π i) → Below o m ceiling price (bytes_in m π) → Below o m ceiling price bytes
  begun_below π bytes ceiling price room same b = record {
    is_plan = plans;
    costs = sym (plan_costs L m laws bytes π plans (λ i l. sym (same i l))) ∙ plan_costs L m laws (bytes_in m π) π b.is_plan (λ i l. sym (bytes_at m laws π i 0 l)) ∙ b.costs;
    below = b.below;
  }
    where
      plans : planned m bytes ≡ true
      plans = begins_from m.choices m.bays bytes (λ i l.
          subst (λ (x : ℕ). x < m.choices i) (bytes_at m laws π i 255 l ∙ sym (same i l) ∙ get_or_default bytes i 0 255 (omega arith)) (begins_at m.choices m.bays (bytes_in m π) b.is_plan i l))

  cheapest : (bytes : List ℕ) (ceiling price : P) → Below o m ceiling price bytes → NoneBelow o m price → Cheapest o m ceiling price bytes
  cheapest bytes ceiling price b none_less = record {
    found = b;
    least = none_less;
    some = λ all. clash (all bytes b.is_plan) (ap (o.at_most ceiling) b.costs ∙ b.below);
  }

  module _ (pick : Question → ℕ) (k : ℤ) (limit cells : ℕ) (old bytes : List ℕ) (offered : Maybe P) (room : length bytes ≡ length old) where
    pub promised : (r : Planned P) → r ≡ reply o m pick k limit cells (length old) offered → ((i : ℕ) → get_or bytes i 0 ≡ bytes_after o m pick k limit cells (length old) offered old i)
        → Promise o m (allowed m k limit (length old)) offered (forecast (course_in m (answers_of pick) k cells)) limit bytes r
    promised r is at =
        subst (Promise o m (allowed m k limit (length old)) offered (forecast (course_in m (answers_of pick) k cells)) limit bytes) (sym is) (go (allowed m k limit (length old)) refl offered refl at)
      where
        roomy : allowed m k limit (length old) ≡ true → m.bays ≤ length bytes
        roomy e = omega (arith, room, ltb-false (length old) m.bays (not-true (ltb (length old) m.bays) (and_parts (ltb 0 limit) (not (ltb (length old) m.bays)) (and_parts (le_z (negsuc 0) k && le_z k (pos 4)) _ e).1).1))

        ended : (c : P) → Taken (allowed m k limit (length old)) offered c → (s : Sofar P) → KeptPromise o m (forecast (course_in m (answers_of pick) k cells)) limit c s
            → (t : Bool) → s.stopped ≡ t → (p : Option Plan) → s.plan ≡ p → ((i : ℕ) → get_or bytes i 0 ≡ cond t (get_or old i 0) (bytes_by p m.bays old i))
            → Promise o m (allowed m k limit (length old)) offered (forecast (course_in m (answers_of pick) k cells)) limit bytes (cond t (Stopped s.count) (by_plan p s.best s.count))
        ended c taken s keeps true e p q at = (c, taken, keeps.counts.at_limit e, keeps.counts.stops e)
        ended c taken s keeps false e none q at = (c, taken, keeps.ended e q, record { foreseen = keeps.counts.visits; limited = keeps.counts.limited })
        ended c taken s keeps false e (some π) q at = (
          c,
          taken,
          cheapest bytes c s.best (begun_below π bytes c s.best (roomy taken.settles) (λ i l. at i ∙ ap (λ (x : Bool). cond x (π i) (get_or old i 0)) (lt-ltb i m.bays l)) (keeps.found π q)) (keeps.cheapest e),
          record { foreseen = keeps.counts.visits; limited = keeps.counts.limited },
        )

        go : (ok : Bool) → allowed m k limit (length old) ≡ ok → (off : Maybe P) → offered ≡ off
            → ((i : ℕ) → get_or bytes i 0 ≡ cond ok (bytes_by_offer off (λ c. bytes_of (search_in o m (answers_of pick) k limit cells c) m.bays old i) (get_or old i 0)) (get_or old i 0))
            → Promise o m (allowed m k limit (length old)) offered (forecast (course_in m (answers_of pick) k cells)) limit bytes (cond ok (by_offer off (λ c. outcome_of (search_in o m (answers_of pick) k limit cells c))) (Refused BadSetting))
        go false e off q at = inl (e, refl)
        go true e None q at = inr (e, q, refl)
        go true e (Some c) q at =
            let keeps = search_keeps o L m laws (answers_of pick) k limit cells c in
            ended c (record { settles = e; offers = q }) (search_in o m (answers_of pick) k limit cells c) keeps (search_in o m (answers_of pick) k limit cells c).stopped refl (search_in o m (answers_of pick) k limit cells c).plan refl at

    -- the answer and the bytes, where the settings are taken and a ceiling is offered
    module _ (ceiling : P) (settles : allowed m k limit (length old) ≡ true) (offers : offered ≡ Some ceiling) where
      pub replied : outcome_of (search_in o m (answers_of pick) k limit cells ceiling) ≡ reply o m pick k limit cells (length old) offered
      replied = sym (ap₂ (λ (ok : Bool) (off : Maybe P). cond ok (by_offer off (λ c. outcome_of (search_in o m (answers_of pick) k limit cells c))) (Refused BadSetting)) settles offers)

      pub wrote : (i : ℕ) → bytes_of (search_in o m (answers_of pick) k limit cells ceiling) m.bays old i ≡ bytes_after o m pick k limit cells (length old) offered old i
      wrote i = sym (ap₂ (λ (ok : Bool) (off : Maybe P). cond ok (bytes_by_offer off (λ c. bytes_of (search_in o m (answers_of pick) k limit cells c) m.bays old i) (get_or old i 0)) (get_or old i 0)) settles offers)
