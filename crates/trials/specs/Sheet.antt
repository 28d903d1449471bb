-- The call sheet of an evening: what stands of the calls made since it was opened.
use Rattle.std.specs.Prelude.{ℕ, suc, Bool, true, false, cond, ◌&&◌, List, [], ◌∷◌, Some, None, Option, ◌==◌, nat_lt}
use Rattle.refusals.specs.declared.Refusal.TheVariants.{UnknownNumber, NothingToDo, TrialsFull, WrongTicket}
use Rattle.refusals.specs.Numbers.{number_of}
use Rattle.model.specs.Books.{Meaning}
use Rattle.model.specs.Prices.{Ops}
use Rattle.layers.specs.Layers.{pinned_by, suspended_by}

-- a call with its arguments; of keep and drop, the number and the depth of the ticket
pub data Call : Type 0 where
  Pin : ℕ → ℕ → Call
  Unpin : ℕ → Call
  Suspend : ℕ → Call
  Resume : ℕ → Call
  Open : Call
  Keep : ℕ → ℕ → Call
  Drop : ℕ → ℕ → Call

-- what is written of an accepted call
pub data Entry : Type 0 where
  pinned : ℕ → ℕ → Entry
  unpinned : ℕ → Entry
  suspended : ℕ → Entry
  resumed : ℕ → Entry
  opened : Entry

-- the entries that stand, the newest first: the end of the sheet is the head of the list
abbrev pub Sheet : Type 0
Sheet = List Entry

-- the choice of a bay's last pin, if no unpin of the bay is written after it
abbrev pub pin_of : Sheet → ℕ → Option ℕ
pin_of [] b = None
pin_of (pinned a c ∷ s) b = cond (a == b) (Some c) (pin_of s b)
pin_of (unpinned a ∷ s) b = cond (a == b) None (pin_of s b)
pin_of (suspended a ∷ s) b = pin_of s b
pin_of (resumed a ∷ s) b = pin_of s b
pin_of (opened ∷ s) b = pin_of s b

-- whether what is written last of a rule is a suspension
abbrev pub off_of : Sheet → ℕ → Bool
off_of [] r = false
off_of (pinned a c ∷ s) r = off_of s r
off_of (unpinned a ∷ s) r = off_of s r
off_of (suspended a ∷ s) r = cond (a == r) true (off_of s r)
off_of (resumed a ∷ s) r = cond (a == r) false (off_of s r)
off_of (opened ∷ s) r = off_of s r

-- how many openings stand: the open trials
abbrev pub openings : Sheet → ℕ
openings [] = 0
openings (pinned a c ∷ s) = openings s
openings (unpinned a ∷ s) = openings s
openings (suspended a ∷ s) = openings s
openings (resumed a ∷ s) = openings s
openings (opened ∷ s) = suc (openings s)

-- the sheet with its newest opening struck
abbrev pub kept : Sheet → Sheet
kept [] = []
kept (pinned a c ∷ s) = pinned a c ∷ kept s
kept (unpinned a ∷ s) = unpinned a ∷ kept s
kept (suspended a ∷ s) = suspended a ∷ kept s
kept (resumed a ∷ s) = resumed a ∷ kept s
kept (opened ∷ s) = s

-- the sheet with its newest opening struck, and all that is written after it
abbrev pub dropped : Sheet → Sheet
dropped [] = []
dropped (pinned a c ∷ s) = dropped s
dropped (unpinned a ∷ s) = dropped s
dropped (suspended a ∷ s) = dropped s
dropped (resumed a ∷ s) = dropped s
dropped (opened ∷ s) = s

-- what an evening is opened on: its number, and what the book below means
pub record Ground (P : Type 0) : Type 0 where
  pub number : ℕ
  pub book : Meaning P

abbrev pub ground : {P : Type 0} → ℕ → Meaning P → Ground P
ground n m = record { number = n; book = m }

-- the sheet's book: its pins over its suspensions over the book below
abbrev pub sheet_book : {P : Type 0} → Ops P → Ground P → Sheet → Meaning P
sheet_book o g s = pinned_by o (pin_of s) (suspended_by o (off_of s) g.book)

-- what a call is answered: done; a ticket, by its number and depth; a refusal, by its number; or a refusal with the
-- ticket handed back
pub data Reply : Type 0 where
  done : Reply
  handed : ℕ → ℕ → Reply
  refused : ℕ → Reply
  returned : ℕ → ℕ → ℕ → Reply

-- The reply to each call, by the book below and what stands: the bay's pin, whether the rule is suspended, the evening's
-- number and its open trials.
abbrev pub pinning : {P : Type 0} → Meaning P → ℕ → ℕ → Reply
pinning m b c = cond (nat_lt b m.bays && nat_lt c (m.choices b)) done (refused (number_of UnknownNumber))

abbrev pub pin_lifted : Option ℕ → Reply
pin_lifted None = refused (number_of NothingToDo)
pin_lifted (Some c) = done

abbrev pub unpinning : {P : Type 0} → Meaning P → Option ℕ → ℕ → Reply
unpinning m pin b = cond (nat_lt b m.bays) (pin_lifted pin) (refused (number_of UnknownNumber))

abbrev pub suspending : {P : Type 0} → Meaning P → Bool → ℕ → Reply
suspending m off r = cond (nat_lt r m.rules) (cond off (refused (number_of NothingToDo)) done) (refused (number_of UnknownNumber))

abbrev pub resuming : {P : Type 0} → Meaning P → Bool → ℕ → Reply
resuming m off r = cond (nat_lt r m.rules) (cond off done (refused (number_of NothingToDo))) (refused (number_of UnknownNumber))

-- a suspension of a rule, or a resumption, and its reply
abbrev pub turn_of : Bool → ℕ → Call
turn_of true r = Suspend r
turn_of false r = Resume r

abbrev pub turning : {P : Type 0} → Bool → Meaning P → Bool → ℕ → Reply
turning true = suspending
turning false = resuming

abbrev pub opening : ℕ → ℕ → Reply
opening number trials = cond (nat_lt trials 4) (handed number (suc trials)) (refused (number_of TrialsFull))

-- whether a ticket, by its number and depth, is that of the newest open trial
abbrev pub newest : ℕ → ℕ → ℕ → ℕ → Bool
newest number trials n d = n == number && (d == trials && nat_lt 0 d)

abbrev pub closing : ℕ → ℕ → ℕ → ℕ → Reply
closing number trials n d = cond (newest number trials n d) done (returned (number_of WrongTicket) n d)

-- what the sheet answers to a call
abbrev pub reply : {P : Type 0} → Ground P → Sheet → Call → Reply
reply g s (Pin b c) = pinning g.book b c
reply g s (Unpin b) = unpinning g.book (pin_of s b) b
reply g s (Suspend r) = suspending g.book (off_of s r) r
reply g s (Resume r) = resuming g.book (off_of s r) r
reply g s Open = opening g.number (openings s)
reply g s (Keep n d) = closing g.number (openings s) n d
reply g s (Drop n d) = closing g.number (openings s) n d

-- the sheet after an accepted call
abbrev pub written : Sheet → Call → Sheet
written s (Pin b c) = pinned b c ∷ s
written s (Unpin b) = unpinned b ∷ s
written s (Suspend r) = suspended r ∷ s
written s (Resume r) = resumed r ∷ s
written s Open = opened ∷ s
written s (Keep n d) = kept s
written s (Drop n d) = dropped s

-- a refused call changes nothing
abbrev pub heeded : Reply → Sheet → Call → Sheet
heeded done s c = written s c
heeded (handed n d) s c = written s c
heeded (refused n) s c = s
heeded (returned k n d) s c = s

abbrev pub after : {P : Type 0} → Ground P → Sheet → Call → Sheet
after g s c = heeded (reply g s c) s c

-- the sheet after a list of calls, and the replies to them
abbrev pub after_all : {P : Type 0} → Ground P → Sheet → List Call → Sheet
after_all g s [] = s
after_all g s (c ∷ cs) = after_all g (after g s c) cs

abbrev pub replies : {P : Type 0} → Ground P → Sheet → List Call → List Reply
replies g s [] = []
replies g s (c ∷ cs) = reply g s c ∷ replies g (after g s c) cs
