-- The parts of the calls that look at what is lent, read a frame or write the book.
use Rattle.std.specs.Prelude.{◌≡◌, ℕ, true, false, not, List, length, Some, None, Ok, Err, Option, Result, ◌==◌}
use Rattle.ends.specs.Stops.{where_so}
use Rattle.path.specs.Bars.{first_of, arrive_bar, hear_bar, past_book, far_end, near_end, frame_at, admitted}
use Rattle.path.specs.States.{Ends}
use Rattle.path.specs.Steps.{booked}
use Rattle.path.specs.declared.entry.Entry.{Entry}
use Rattle.wire.specs.Ends.{taken_of}
use Rattle.wire.specs.declared.content.Content.{Content}
use Rattle.wire.specs.declared.content.Head.{Head}
use Rattle.refusal.specs.declared.fault.Fault.{Fault}
use Rattle.refusal.specs.declared.refusals.Refusal.{Refusal}
use Rattle.refusal.specs.declared.refusals.Refusal.TheVariants.{BookFull}
use Rattle.wire.specs.declared.words.Words.{Words as Pair}

-- why a call cannot use what it is lent: the making was refused, or the store is not as long as the window
abbrev pub lend_bar : Option Refusal → ℕ → ℕ → Refusal → Option Refusal
lend_bar refused places window r = first_of refused (where_so (not (places == window)) r None)

-- the acknowledgement at a place of the back carrier, or why a hear is refused
abbrev pub ReadBack : ℕ → Ends → Result Head Refusal → Type 0
ReadBack place e (Ok h) = (hear_bar place e ≡ None) × (admitted (near_end e) (frame_at e.back place) ≡ Ok h)
ReadBack place e (Err r) = hear_bar place e ≡ Some r

module _ {B : Type 0} where
  -- the content of the frame at a place of the outward carrier, or why an arrive is refused
  abbrev pub ReadOut : (Pair → Result B Fault) → ℕ → Ends → List (Option (Entry B)) → Result (Content B) Refusal → Type 0
  ReadOut reads place e got (Ok c) = (arrive_bar reads place e got ≡ None) × (taken_of (far_end e) reads (frame_at e.out place) ≡ Ok c)
  ReadOut reads place e got (Err r) = arrive_bar reads place e got ≡ Some r

  -- what lay under nd is written into the book, where that has a place for it
  abbrev pub Booked : Option (Entry B) → ℕ → List B → Result (Unit {0}) Refusal → List B → Type 0
  Booked due nd book (Ok u) book' = (past_book due nd (length book) ≡ false) × (book' ≡ booked due nd book)
  Booked due nd book (Err r) book' = (past_book due nd (length book) ≡ true) × (r ≡ BookFull) × (book' ≡ book)
