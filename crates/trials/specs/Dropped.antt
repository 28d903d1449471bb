-- What a dropped or a kept trial leaves: theorems about every call sheet.
use Rattle.std.specs.Prelude.{◌≡◌, ℕ, suc, ◌-◌, ◌<◌, ◌≤◌, List, [], ◌∷◌, ◌++◌, map}
use Rattle.model.specs.Prices.{Ops}
use Rattle.trials.specs.Sheet.{Call, Pin, Unpin, Suspend, Resume, Open, Keep, Drop, Sheet, opened, pin_of, off_of, openings, Ground, sheet_book, handed, done, reply, after, after_all, replies}

-- after each of the calls at least d openings stand
abbrev pub StaysOpen : {P : Type 0} → Ground P → ℕ → Sheet → List Call → Type 0
StaysOpen g d s [] = Unit {0}
StaysOpen g d s (c ∷ cs) = (d ≤ openings (after g s c)) × StaysOpen g d (after g s c) cs

-- a trial opened at a sheet, with calls inside it: it stays open throughout, and those opened inside it are closed again
pub record Trial {P : Type 0} (g : Ground P) (s : Sheet) (inside : List Call) : Type 0 where
  pub room : openings s < 4
  pub stays : StaysOpen g (suc (openings s)) (opened ∷ s) inside
  pub inner : openings (after_all g (opened ∷ s) inside) ≡ suc (openings s)

-- all its calls, from the opening to its end with the ticket that the opening handed out
abbrev pub dropping : {P : Type 0} → Ground P → Sheet → List Call → List Call
dropping g s inside = Open ∷ (inside ++ (Drop g.number (suc (openings s)) ∷ []))

abbrev pub keeping : {P : Type 0} → Ground P → Sheet → List Call → List Call
keeping g s inside = Open ∷ (inside ++ (Keep g.number (suc (openings s)) ∷ []))

-- a dropped trial: the drop is accepted, the sheet is what it was, and all that comes later is as if none of it had been
pub record Undone {P : Type 0} (o : Ops P) (g : Ground P) (s : Sheet) (inside : List Call) : Type 0 where
  pub ticket : reply g s Open ≡ handed g.number (suc (openings s))
  pub accepted : reply g (after_all g (opened ∷ s) inside) (Drop g.number (suc (openings s))) ≡ done
  pub sheet : after_all g s (dropping g s inside) ≡ s
  pub later : (calls : List Call) → replies g (after_all g s (dropping g s inside)) calls ≡ replies g s calls
  pub book : (calls : List Call) → sheet_book o g (after_all g (after_all g s (dropping g s inside)) calls) ≡ sheet_book o g (after_all g s calls)

abbrev pub DroppedTrials : Type 0 → Type 0
DroppedTrials P = (o : Ops P) (g : Ground P) (s : Sheet) (inside : List Call) → Trial g s inside → Undone o g s inside

-- the same call where one trial fewer is open around it
abbrev pub shallower : Call → Call
shallower (Pin b c) = Pin b c
shallower (Unpin b) = Unpin b
shallower (Suspend r) = Suspend r
shallower (Resume r) = Resume r
shallower Open = Open
shallower (Keep n d) = Keep n (d - 1)
shallower (Drop n d) = Drop n (d - 1)

-- each opening among the calls is accepted
abbrev pub Roomy : {P : Type 0} → Ground P → Sheet → List Call → Type 0
Roomy g s [] = Unit {0}
Roomy g s (c ∷ cs) = (c ≡ Open → openings s < 4) × Roomy g (after g s c) cs

-- a kept trial: the keep is accepted, pins and suspensions stay, and the sheet is that of the same calls made without the
-- trial
pub record Lasting {P : Type 0} (g : Ground P) (s : Sheet) (inside : List Call) : Type 0 where
  pub ticket : reply g s Open ≡ handed g.number (suc (openings s))
  pub accepted : reply g (after_all g (opened ∷ s) inside) (Keep g.number (suc (openings s))) ≡ done
  pub pins : (b : ℕ) → pin_of (after_all g s (keeping g s inside)) b ≡ pin_of (after_all g (opened ∷ s) inside) b
  pub off : (r : ℕ) → off_of (after_all g s (keeping g s inside)) r ≡ off_of (after_all g (opened ∷ s) inside) r
  pub sheet : Roomy g (opened ∷ s) inside → after_all g s (keeping g s inside) ≡ after_all g s (map shallower inside)

abbrev pub KeptTrials : Type 0 → Type 0
KeptTrials P = (g : Ground P) (s : Sheet) (inside : List Call) → Trial g s inside → Lasting g s inside
