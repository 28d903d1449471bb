-- Calls with the tickets in a rack, by the call sheet.
use Rattle.std.specs.Prelude.{◌≡◌, ℕ, cond, List, length, Some, None, Ok, Err, Option, Result, nat_lt, slice_index_or, slice_set}
use Rattle.model.specs.Books.{Meaning}
use Rattle.refusals.specs.Numbers.{number_of}
use Rattle.trials.specs.declared.evening.Evening.{Evening}
use Rattle.trials.specs.declared.ticket.Ticket.{Ticket}
use Rattle.trials.specs.declared.ticket.Returned.{Returned}
use Rattle.trials.specs.declared.rack.Action.{Action}
use Rattle.trials.specs.declared.rack.Action.TheVariants as act
use Rattle.trials.specs.declared.rack.Ending.{Ending}
use Rattle.trials.specs.declared.rack.Ending.TheVariants as end
use Rattle.trials.specs.declared.rack.Outcome.{Outcome}
use Rattle.trials.specs.declared.rack.Outcome.TheVariants as out
use Rattle.trials.specs.Sheet.{Sheet, Call, Pin, Unpin, Suspend, Resume, Open, Keep, Drop, Ground, Reply, done, handed, refused, returned, reply, after}
use Rattle.trials.specs.Follows.{EachSheet, Follows}

-- the tickets at hand, by place
abbrev pub Rack : Type 0
Rack = List (Option Ticket)

abbrev pub ticket : ℕ → ℕ → Ticket
ticket n d = record { number = n; depth = d }

-- the end of a trial: a keep or a drop
abbrev pub close : Ending → ℕ → ℕ → Call
close end.Keep n d = Keep n d
close end.Drop n d = Drop n d

-- a trial is opened where there is a place for its ticket, and closed where there is a ticket
abbrev pub opens : Option Ticket → Option Call
opens None = Some Open
opens (Some t) = None

abbrev pub closes : Ending → Option Ticket → Option Call
closes ending None = None
closes ending (Some t) = Some (close ending t.number t.depth)

-- the call that an action makes with the tickets at hand, if any
abbrev pub made : Rack → Action → Option Call
made k (act.Pin b c) = Some (Pin b c)
made k (act.Unpin b) = Some (Unpin b)
made k (act.Suspend r) = Some (Suspend r)
made k (act.Resume r) = Some (Resume r)
made k (act.Open i) = cond (nat_lt i (length k)) (opens (slice_index_or k i None)) None
made k (act.Keep i) = cond (nat_lt i (length k)) (closes end.Keep (slice_index_or k i None)) None
made k (act.Drop i) = cond (nat_lt i (length k)) (closes end.Drop (slice_index_or k i None)) None

-- the ticket of an opening is put into its place
abbrev pub filled : Rack → ℕ → Reply → Rack
filled k i done = k
filled k i (handed n d) = slice_set k i (Some (ticket n d))
filled k i (refused m) = k
filled k i (returned m n d) = k

-- a ticket that is taken leaves its place; one that is refused stays
abbrev pub emptied : Rack → ℕ → Reply → Rack
emptied k i done = slice_set k i None
emptied k i (handed n d) = k
emptied k i (refused m) = k
emptied k i (returned m n d) = k

abbrev pub racked : Rack → Action → Reply → Rack
racked k (act.Pin b c) a = k
racked k (act.Unpin b) a = k
racked k (act.Suspend r) a = k
racked k (act.Resume r) a = k
racked k (act.Open i) a = filled k i a
racked k (act.Keep i) a = emptied k i a
racked k (act.Drop i) a = emptied k i a

-- the reply that an outcome gives, if a call was made
abbrev pub said : Outcome → Option Reply
said out.NoCall = None
said out.Done = Some done
said (out.Handed n d) = Some (handed n d)
said (out.Refused e) = Some (refused (number_of e))
said (out.Returned e n d) = Some (returned (number_of e) n d)

-- the reply, the sheet and the tickets at hand after an action, by the call that it makes
abbrev pub reply_by : {P : Type 0} → Ground P → Sheet → Option Call → Option Reply
reply_by g s None = None
reply_by g s (Some x) = Some (reply g s x)

abbrev pub sheet_by : {P : Type 0} → Ground P → Sheet → Option Call → Sheet
sheet_by g s None = s
sheet_by g s (Some x) = after g s x

abbrev pub rack_by : {P : Type 0} → Ground P → Sheet → Rack → Action → Option Call → Rack
rack_by g s k c None = k
rack_by g s k c (Some x) = racked k c (reply g s x)

-- the outcome, the evening and the rack after an action are those that the sheet says
pub record Acted {B P : Type 0} (meaning : B → Meaning P) (g : Ground P) (s : Sheet) (k : Rack) (c : Action) (a : Outcome) (e : Evening B) (k' : Rack) : Type 0 where
  pub reply : said a ≡ reply_by g s (made k c)
  pub follows : Follows meaning g e (sheet_by g s (made k c))
  pub rack : k' ≡ rack_by g s k c (made k c)

abbrev pub ByRack : {B P : Type 0} → (B → Meaning P) → Evening B → Rack → Action → Outcome → Evening B → Rack → Type 0
ByRack meaning e k c a e' k' = EachSheet meaning e (λ g s. Acted meaning g s k c a e' k')

-- a place after its ticket was presented: a refused one is there again
abbrev pub refilled : Option Ticket → Result Unit Returned → Option Ticket
refilled o (Ok x) = o
refilled o (Err e) = Some e.ticket

abbrev pub closing_at : Ending → ℕ → Action
closing_at end.Keep i = act.Keep i
closing_at end.Drop i = act.Drop i
