-- An evening that follows a call sheet: the book that it plans with, and the end of a trial.
use Rattle.std.proofs.Common.{◌≡◌, ℕ, suc, ◌-◌, ◌<◌, get_or-take, sym, ap, ◌∙◌, subst, ap₂, arith}
use mathlib.Core.Path.{fun_ext}
use Rattle.model.specs.Books.{Meaning}
use Rattle.model.specs.Prices.{Ops}
use Rattle.layers.specs.Layers.{pinned_by, suspended_by}
use Rattle.trials.specs.declared.evening.Evening.{Evening}
use Rattle.trials.specs.declared.evening.Marks.{Marks}
use Rattle.trials.specs.Changes.{marks_of, depth_of, blank, saved_last, pin_at, off_at, Closed}
use Rattle.trials.specs.Follows.{Marked, Follows, Answered, pile_book}
use Rattle.trials.specs.Sheet.{Call, Keep, Drop, Sheet, pin_of, off_of, openings, kept, dropped, Ground, sheet_book, Reply, done, closing, reply, heeded}
use Rattle.trials.proofs.Laws.{Struck, kept_pin, kept_off, kept_struck, dropped_struck, dropped_is}

module _ {B P : Type 0} {meaning : B → Meaning P} {g : Ground P} {s : Sheet} where
  -- enough to show: the reply is the sheet's, and the evening follows what that reply leaves
  pub answered : {c : Call} {said : Reply} {e : Evening B} → said ≡ reply g s c → Follows meaning g e (heeded said s c) → Answered meaning g s c said e
  answered {c} {said} {e} p f = record { reply = p; follows = subst (λ (x : Reply). Follows meaning g e (heeded x s c)) p f }

  -- the book of the evening's pile is the sheet's
  pub pile_is : (o : Ops P) (e : Evening B) → Follows meaning g e s → pile_book o meaning e.book ≡ sheet_book o g s
  pile_is o e f =
      let p : (λ (b : ℕ). pin_at e b) ≡ pin_of s = fun_ext (λ b. f.marks.pins b) in
      let q : (λ (r : ℕ). off_at e r) ≡ off_of s = fun_ext (λ r. f.marks.off r) in
      λ i. pinned_by o (p i) (suspended_by o (q i) (f.book i))

  -- a ticket that the evening accepts is accepted by the sheet
  accepted_here : (e : Evening B) (n d : ℕ) → Follows meaning g e s → done ≡ closing e.number (depth_of e) n d → done ≡ closing g.number (openings s) n d
  accepted_here e n d f h = h ∙ ap₂ (λ (x y : ℕ). closing x y n d) f.number f.depth

  -- closed with marks that are those of a sheet with the newest opening struck
  closed : (e e' : Evening B) (m : Marks) (s' : Sheet) → Follows meaning g e s → Closed e m e' → Marked m s' → Struck s s' → Follows meaning g e' s'
  closed e e' m s' f w marked struck = record {
    number = w.ground.number ∙ f.number;
    book = ap meaning w.ground.below ∙ f.book;
    marks = rw w.marks marked;
    depth = omega (arith, f.depth, w.depth, struck.fewer);
    saved = λ j h.
        let k : j < openings s - 1 = omega (arith, struck.fewer) in
        let l : j < openings s = omega arith in
        let i : j < depth_of e - 1 = omega (arith, f.depth) in
        rw (struck.older j k, w.saved, get_or-take (depth_of e - 1) e.saved.items j blank i) (f.saved j l);
  }

  pub keeps : (e e' : Evening B) (n d : ℕ) → Follows meaning g e s → Closed e (marks_of e) e' → done ≡ closing e.number (depth_of e) n d → Answered meaning g s (Keep n d) done e'
  keeps e e' n d f w new =
      answered
      (accepted_here e n d f new)
      (closed e e' (marks_of e) (kept s) f w record { pins = λ b. f.marks.pins b ∙ sym (kept_pin s b); off = λ r. f.marks.off r ∙ sym (kept_off s r) } (kept_struck s))

  pub drops : (e e' : Evening B) (n d : ℕ) → Follows meaning g e s → Closed e (saved_last e) e' → done ≡ closing e.number (depth_of e) n d → Answered meaning g s (Drop n d) done e'
  drops e e' n d f w new =
      let top : openings s ≡ suc (depth_of e - 1) = omega (arith, f.depth, w.depth) in
      let under : depth_of e - 1 < openings s = omega (arith, f.depth, w.depth) in
      answered
      (accepted_here e n d f new)
      (closed e e' (saved_last e) (dropped s) f w (rw (← dropped_is s (depth_of e - 1) top) (f.saved (depth_of e - 1) under)) (dropped_struck s))
