-- What a call changes of an evening, and what it leaves.
use Rattle.std.specs.Prelude.{◌≡◌, ℕ, ◌+◌, ◌-◌, Bool, false, cond, [], ◌∷◌, ◌++◌, take, None, Option, ◌==◌, slice_index_or}
use Rattle.arrayvec.specs.ArrayVec.{array_vec_len}
use Rattle.trials.specs.declared.evening.Evening.{Evening}
use Rattle.trials.specs.declared.evening.Marks.{Marks}
use Rattle.trials.specs.declared.ticket.Ticket.{Ticket}
use Rattle.trials.specs.declared.ticket.Returned.{Returned}

-- the book that the evening was opened on
abbrev pub below_of : {B : Type 0} → Evening B → B
below_of e = e.book.below.below

-- the pin of a bay, and whether a rule is suspended
abbrev pub pin_at : {B : Type 0} → Evening B → ℕ → Option ℕ
pin_at e b = slice_index_or e.book.pins b None

abbrev pub off_at : {B : Type 0} → Evening B → ℕ → Bool
off_at e r = slice_index_or e.book.below.off r false

-- all pins and suspensions
abbrev pub marks_of : {B : Type 0} → Evening B → Marks
marks_of e = record { pins = e.book.pins; off = e.book.below.off }

-- how many trials are open
abbrev pub depth_of : {B : Type 0} → Evening B → ℕ
depth_of e = array_vec_len e.saved

-- what stands past the end of the saved marks
abbrev pub blank : Marks
blank = record { pins = []; off = [] }

-- the evening with these marks; all else is as it was
abbrev pub with_marks : {B : Type 0} → Evening B → Marks → Evening B
with_marks e m = record e { book = record e.book { pins = m.pins; below = record e.book.below { off = m.off } } }

-- the number and the book below are as they were
pub record SameGround {B : Type 0} (e e' : Evening B) : Type 0 where
  pub number : e'.number ≡ e.number
  pub below : below_of e' ≡ below_of e

-- one bay has this pin; all else is as it was
pub record Repinned {B : Type 0} (e : Evening B) (bay : ℕ) (pin : Option ℕ) (e' : Evening B) : Type 0 where
  pub ground : SameGround e e'
  pub pins : (b : ℕ) → pin_at e' b ≡ cond (bay == b) pin (pin_at e b)
  pub off : e'.book.below.off ≡ e.book.below.off
  pub saved : e'.saved ≡ e.saved

-- one rule is suspended, or in force; all else is as it was
pub record Turned {B : Type 0} (e : Evening B) (rule : ℕ) (on : Bool) (e' : Evening B) : Type 0 where
  pub ground : SameGround e e'
  pub pins : e'.book.pins ≡ e.book.pins
  pub off : (r : ℕ) → off_at e' r ≡ cond (rule == r) on (off_at e r)
  pub saved : e'.saved ≡ e.saved

-- one more trial is open, with the pins and suspensions saved beneath it; all else is as it was
pub record Opened {B : Type 0} (e e' : Evening B) : Type 0 where
  pub ground : SameGround e e'
  pub marks : marks_of e' ≡ marks_of e
  pub saved : e'.saved.items ≡ e.saved.items ++ marks_of e ∷ []
  pub depth : depth_of e' ≡ depth_of e + 1

-- one trial fewer is open, and the pins and suspensions are these; all else is as it was
pub record Closed {B : Type 0} (e : Evening B) (m : Marks) (e' : Evening B) : Type 0 where
  pub ground : SameGround e e'
  pub marks : marks_of e' ≡ m
  pub saved : e'.saved.items ≡ take (depth_of e - 1) e.saved.items
  pub depth : depth_of e' + 1 ≡ depth_of e

-- the marks that were saved when the newest open trial was opened
abbrev pub saved_last : {B : Type 0} → Evening B → Marks
saved_last e = slice_index_or e.saved.items (depth_of e - 1) blank

-- the ticket is handed back as it was, and the evening is as it was
abbrev pub HandsBack : {B : Type 0} → Ticket → Evening B → Evening B → Returned → Type 0
HandsBack t e e' back = (back.ticket ≡ t) × (e' ≡ e)
