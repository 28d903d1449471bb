-- Laws of the tickets at hand.
use Rattle.std.proofs.Common.{◌≡◌, ℕ, ◌<◌, Bool, true, false, cond, length, get_or, set, Some, None, Ok, Err, Option, Result, sym, refl, ap, ◌∙◌, subst, lt-ltb}
use lib.Seq.{set-get_or}
use Rattle.model.specs.Books.{Meaning}
use Rattle.refusals.specs.Numbers.{number_of}
use Rattle.refusals.specs.declared.Refusal.TheVariants.{WrongTicket}
use Rattle.trials.specs.declared.evening.Evening.{Evening}
use Rattle.trials.specs.declared.ticket.Ticket.{Ticket}
use Rattle.trials.specs.declared.ticket.Returned.{Returned}
use Rattle.trials.specs.declared.rack.Action.{Action}
use Rattle.trials.specs.declared.rack.Ending.{Ending}
use Rattle.trials.specs.declared.rack.Ending.TheVariants as end
use Rattle.trials.specs.declared.rack.Outcome.{Outcome}
use Rattle.trials.specs.Sheet.{Sheet, Call, Ground, Reply, done, returned, openings, newest, reply}
use Rattle.trials.specs.Follows.{Follows, Answered, of_close}
use Rattle.trials.specs.Racks.{Rack, ticket, close, made, emptied, racked, said, reply_by, sheet_by, rack_by, Acted, refilled, closing_at}

-- an action by the call that it makes, if any
pub acted : {B P : Type 0} {m : B → Meaning P} {g : Ground P} {s : Sheet} {k : Rack} (c : Action) (x : Option Call) {a : Outcome} {e : Evening B} {k' : Rack}
    → made k c ≡ x → said a ≡ reply_by g s x → Follows m g e (sheet_by g s x) → k' ≡ rack_by g s k c x → Acted m g s k c a e k'
acted {B} {P} {m} {g} {s} {k} c x {a} {e} {k'} y p f q = record {
  reply = p ∙ ap (reply_by g s) (sym y);
  follows = subst (λ (o : Option Call). Follows m g e (sheet_by g s o)) (sym y) f;
  rack = q ∙ ap (rack_by g s k c) (sym y);
}

made_at : (k : Rack) (ending : Ending) (i : ℕ) (t : Ticket) → i < length k → get_or k i None ≡ Some t → made k (closing_at ending i) ≡ Some (close ending t.number t.depth)
made_at k end.Keep i t inside at = rw (lt-ltb i (length k) inside, at)
made_at k end.Drop i t inside at = rw (lt-ltb i (length k) inside, at)

closing_racked : (k : Rack) (ending : Ending) (i : ℕ) (r : Reply) → racked k (closing_at ending i) r ≡ emptied k i r
closing_racked k end.Keep i r = refl
closing_racked k end.Drop i r = refl

-- what a sheet answers to a ticket, whether its trial is kept or dropped
abbrev taken : Bool → ℕ → ℕ → Reply
taken newest n d = cond newest done (returned (number_of WrongTicket) n d)

close_reply : {P : Type 0} (g : Ground P) (s : Sheet) (ending : Ending) (n d : ℕ) → reply g s (close ending n d) ≡ taken (newest g.number (openings s) n d) n d
close_reply g s end.Keep n d = refl
close_reply g s end.Drop n d = refl

-- a ticket that was presented is gone or back, as the reply says
back : (k : Rack) (i : ℕ) (t : Ticket) (b : Bool) (r : Result Unit Returned) → get_or k i None ≡ Some t → of_close r ≡ taken b t.number t.depth
    → set k i (refilled None r) ≡ emptied k i (taken b t.number t.depth)
back k i t true (Ok x) p q = refl
back k i t false (Ok x) p q = cc
back k i t true (Err e) p q = cc
back k i t false (Err e) p q =
    let n : e.ticket.number ≡ t.number = cc in
    let d : e.ticket.depth ≡ t.depth = cc in
    let same : e.ticket ≡ t = ap (λ (m : ℕ). ticket m e.ticket.depth) n ∙ ap (λ (m : ℕ). ticket t.number m) d in
    ap (λ (x : Option Ticket). set k i x) (ap (λ (y : Ticket). Some y) same ∙ sym p) ∙ set-get_or k i None

-- an ending whose ticket was there, and is gone or back
pub presented : {B P : Type 0} {m : B → Meaning P} {g : Ground P} {s : Sheet} {k : Rack} (ending : Ending) (i : ℕ) {e : Evening B} (t : Ticket) (r : Result Unit Returned) {a : Outcome}
    → i < length k → get_or k i None ≡ Some t → Answered m g s (close ending t.number t.depth) (of_close r) e → said a ≡ Some (of_close r)
    → Acted m g s k (closing_at ending i) a e (set k i (refilled None r))
presented {g = g} {s = s} {k = k} ending i t r inside at answered says =
    let call = close ending t.number t.depth in
    let newest_is = newest g.number (openings s) t.number t.depth in
    let told : of_close r ≡ taken newest_is t.number t.depth = answered.reply ∙ close_reply g s ending t.number t.depth in
    acted (closing_at ending i) (Some call) (made_at k ending i t inside at)
    (says ∙ ap (λ (x : Reply). Some x) answered.reply) answered.follows
    (back k i t newest_is r at told ∙ ap (emptied k i) (sym (close_reply g s ending t.number t.depth)) ∙ sym (closing_racked k ending i (reply g s call)))
