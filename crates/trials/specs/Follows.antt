-- When an evening stands as a call sheet says.
use Rattle.std.specs.Prelude.{◌≡◌, ℕ, ◌<◌, false, cond, [], ◌∷◌, None, Ok, Err, Result, ◌==◌, slice_index_or}
use Rattle.refusals.specs.declared.Refusal.{Refusal}
use Rattle.refusals.specs.Numbers.{number_of}
use Rattle.model.specs.Books.{Meaning}
use Rattle.model.specs.Prices.{Ops}
use Rattle.layers.specs.Layers.{pinned as pinned_at, suspended as suspended_at}
use Rattle.layers.specs.declared.pins.Pins.{Pins}
use Rattle.layers.specs.declared.suspensions.Suspensions.{Suspensions}
use Rattle.trials.specs.declared.evening.Evening.{Evening}
use Rattle.trials.specs.declared.evening.Marks.{Marks}
use Rattle.trials.specs.declared.ticket.Ticket.{Ticket}
use Rattle.trials.specs.declared.ticket.Returned.{Returned}
use Rattle.trials.specs.Changes.{below_of, marks_of, depth_of, blank}
use Rattle.trials.specs.Sheet.{Call, Sheet, pinned, unpinned, suspended, resumed, opened, pin_of, off_of, openings, Ground, Reply, done, handed, refused, returned, reply, after}

-- the pins and suspensions are the sheet's
pub record Marked (m : Marks) (s : Sheet) : Type 0 where
  pub pins : (b : ℕ) → slice_index_or m.pins b None ≡ pin_of s b
  pub off : (r : ℕ) → slice_index_or m.off r false ≡ off_of s r

-- the sheet as it stood when the opening that has j openings below it was written
abbrev pub before : Sheet → ℕ → Sheet
before [] j = []
before (pinned a c ∷ s) j = before s j
before (unpinned a ∷ s) j = before s j
before (suspended a ∷ s) j = before s j
before (resumed a ∷ s) j = before s j
before (opened ∷ s) j = cond (openings s == j) s (before s j)

-- an evening on this ground, with the pins, suspensions and open trials of the sheet, and of each open trial those that
-- stood when it was opened
pub record Follows {B P : Type 0} (meaning : B → Meaning P) (g : Ground P) (e : Evening B) (s : Sheet) : Type 0 where
  pub number : e.number ≡ g.number
  pub book : meaning (below_of e) ≡ g.book
  pub marks : Marked (marks_of e) s
  pub depth : depth_of e ≡ openings s
  pub saved : (j : ℕ) → j < openings s → Marked (slice_index_or e.saved.items j blank) (before s j)

-- this holds of every ground and sheet that the evening follows
abbrev pub EachSheet : {B P : Type 0} → (B → Meaning P) → Evening B → (Ground P → Sheet → Type 0) → Type 0
EachSheet {B} {P} meaning e Holds = (g : Ground P) (s : Sheet) → Follows meaning g e s → Holds g s

-- the answer of a call as a reply
abbrev pub of_mark : Result Unit Refusal → Reply
of_mark (Ok x) = done
of_mark (Err e) = refused (number_of e)

abbrev pub of_open : Result Ticket Refusal → Reply
of_open (Ok t) = handed t.number t.depth
of_open (Err e) = refused (number_of e)

abbrev pub of_close : {T : Type 0} → Result T Returned → Reply
of_close (Ok x) = done
of_close (Err e) = returned (number_of e.refusal) e.ticket.number e.ticket.depth

-- the call was answered as the sheet says, and the evening follows the sheet after the call
pub record Answered {B P : Type 0} (meaning : B → Meaning P) (g : Ground P) (s : Sheet) (c : Call) (said : Reply) (e : Evening B) : Type 0 where
  pub reply : said ≡ reply g s c
  pub follows : Follows meaning g e (after g s c)

-- so it is for every ground and sheet that the evening followed before
abbrev pub BySheet : {B P : Type 0} → (B → Meaning P) → Call → Reply → Evening B → Evening B → Type 0
BySheet meaning c said e e' = EachSheet meaning e (λ g s. Answered meaning g s c said e')

-- what pins over suspensions over a book mean
abbrev pub pile_book : {B P : Type 0} → Ops P → (B → Meaning P) → Pins (Suspensions B) → Meaning P
pile_book o meaning p = pinned_at o p.pins (suspended_at o p.below.off (meaning p.below.below))
