-- What each call does: its answer and the state after it, or a refusal and everything as found.
use Rattle.std.specs.Prelude.{◌≡◌, ℕ, ◌+◌, ◌-◌, ◌*◌, ◌%◌, ◌^◌, ◌<◌, ◌≤◌, min, true, false, cond, List, length, replicate, is_some, Some, None, Ok, Err, Option, Result, ◌==◌, slice_set}
use Rattle.std.specs.List.{remove}
use Rattle.carrier.specs.Carriers.{Aged, Joined, ticked}
use Rattle.path.specs.Bars.{frame_at, far_end, near_end, admitted, offer_bar, seal_bar, send_bar, resend_bar, arrive_bar, deliver_bar, hear_bar, acknowledge_bar, lose_bar, tick_bar}
use Rattle.ends.specs.Numbers.{Sends, Gets, one_accepted, one_sent, rested, one_delivered, ahead, hearing, rise}
use Rattle.path.specs.States.{Ends}
use Rattle.store.specs.Stores.{at_number, set-number}
use Rattle.path.specs.declared.entry.Entry.{Entry}
use Rattle.path.specs.declared.entry.Entry.TheVariants.{Block, EndMark}
use Rattle.ends.specs.declared.outcome.Outcome.{Outcome}
use Rattle.ends.specs.declared.outcome.Outcome.TheVariants.{Complete, Unsure}
use Rattle.wire.specs.Ends.{taken_of}
use Rattle.wire.specs.Frames.{word_of}
use Rattle.wire.specs.Words.{zeros}
use Rattle.wire.specs.declared.content.Content.{Content}
use Rattle.wire.specs.declared.content.Content.TheVariants as content
use Rattle.wire.specs.declared.content.Head.{Head}
use Rattle.wire.specs.declared.content.Head.TheVariants as head
use Rattle.refusal.specs.declared.fault.Fault.{Fault}
use Rattle.wire.specs.declared.frame.Frame.{Frame}
use Rattle.refusal.specs.declared.refusals.Refusal.{Refusal}
use Rattle.wire.specs.declared.words.Words.{Words as Pair}

-- the same ends with another sender, another receiver, another list outward or back
abbrev pub with_sender : Ends → Sends → Ends
with_sender e s = record { setting = e.setting; sender = s; receiver = e.receiver; out = e.out; back = e.back }

abbrev pub with_receiver : Ends → Gets → Ends
with_receiver e g = record { setting = e.setting; sender = e.sender; receiver = g; out = e.out; back = e.back }

abbrev pub with_out : Ends → List Aged → Ends
with_out e l = record { setting = e.setting; sender = e.sender; receiver = e.receiver; out = l; back = e.back }

abbrev pub with_back : Ends → List Aged → Ends
with_back e l = record { setting = e.setting; sender = e.sender; receiver = e.receiver; out = e.out; back = l }

-- rw, how many entries past nr the receiver has room for
abbrev pub room_left : Ends → ℕ
room_left e = e.setting.terms.receive_window + e.receiver.nd - e.receiver.nr

-- the frame of an entry under a whole number
abbrev pub entry_frame : {B : Type 0} → (B → Pair) → ℕ → ℕ → Entry B → Frame
entry_frame written n j (Block b) = record { head = word_of (head.Data (j % n)); words = written b }
entry_frame written n j EndMark = record { head = word_of (head.EndMark (j % n)); words = zeros }

-- the acknowledgement of a whole number with a window: kind 10, the window above the cyclic number
abbrev pub acknowledgement : ℕ → ℕ → ℕ → Frame
acknowledgement n nr window = record { head = 2 * 2 ^ 30 + window * 2 ^ 16 + nr % n; words = zeros }

-- the cyclic number and the window that a head carries
abbrev pub cyclic_in : Head → ℕ
cyclic_in (head.Data number) = number
cyclic_in (head.Acknowledgement number window) = number
cyclic_in (head.EndMark number) = number

abbrev pub window_in : Head → ℕ
window_in (head.Data number) = 0
window_in (head.Acknowledgement number window) = window.size
window_in (head.EndMark number) = 0

module _ {B : Type 0} where
  -- the cyclic number and the entry that a content carries; the receiver's end never takes an acknowledgement
  abbrev pub number_in : Content B → ℕ
  number_in (content.Data number block) = number
  number_in (content.Acknowledgement number window) = number
  number_in (content.EndMark number) = number

  abbrev pub entry_in : Content B → Entry B
  entry_in (content.Data number block) = Block block
  entry_in (content.Acknowledgement number window) = EndMark
  entry_in (content.EndMark number) = EndMark

module _ {B : Type 0} where
  -- an entry is stored under ng and numbered
  abbrev pub Offered : B → Ends → List (Entry B) → Result ℕ Refusal → Ends → List (Entry B) → Type 0
  Offered b e kept (Ok n) e' kept' =
      (offer_bar e kept ≡ None) × (n ≡ e.sender.ng) × (e' ≡ with_sender e (one_accepted false e.sender)) × (kept' ≡ set-number kept e.sender.ng (Block b))
  Offered b e kept (Err r) e' kept' = (offer_bar e kept ≡ Some r) × (e' ≡ e) × (kept' ≡ kept)

  abbrev pub Sealed : Ends → List (Entry B) → Result ℕ Refusal → Ends → List (Entry B) → Type 0
  Sealed e kept (Ok n) e' kept' =
      (seal_bar e kept ≡ None) × (n ≡ e.sender.ng) × (e' ≡ with_sender e (one_accepted true e.sender)) × (kept' ≡ set-number kept e.sender.ng EndMark)
  Sealed e kept (Err r) e' kept' = (seal_bar e kept ≡ Some r) × (e' ≡ e) × (kept' ≡ kept)

  -- entry j of the sender's store joins the outward carrier; its place there is left open
  abbrev pub GoesOut : (B → Pair) → ℕ → Ends → List (Entry B) → List Aged → Type 0
  GoesOut written j e kept out = Joined (entry_frame written e.setting.terms.numbers j (at_number EndMark kept j)) e.out out

  abbrev pub Sent : (B → Pair) → Ends → List (Entry B) → Result ℕ Refusal → Ends → Type 0
  Sent written e kept (Ok n) e' =
      (send_bar e kept ≡ None) × (n ≡ e.sender.ns) × GoesOut written e.sender.ns e kept e'.out × (e' ≡ with_out (with_sender e (one_sent e.sender)) e'.out)
  Sent written e kept (Err r) e' = (send_bar e kept ≡ Some r) × (e' ≡ e)

  abbrev pub Resent : (B → Pair) → ℕ → Ends → List (Entry B) → Result ℕ Refusal → Ends → Type 0
  Resent written j e kept (Ok n) e' =
      (resend_bar j e kept ≡ None) × (n ≡ e.sender.na + j) × GoesOut written (e.sender.na + j) e kept e'.out × (e' ≡ with_out e e'.out)
  Resent written j e kept (Err r) e' = (resend_bar j e kept ≡ Some r) × (e' ≡ e)

-- nr goes up over filled places, at most to a limit
pub record Risen {B : Type 0} (got : List (Option (Entry B))) (from limit nr : ℕ) : Type 0 where
  pub low : from ≤ nr
  pub high : nr ≤ limit
  pub filled : (j : ℕ) → from ≤ j → j < nr → is_some (at_number None got j) ≡ true
  pub stops : nr < limit → at_number None got nr ≡ None

module _ {B : Type 0} where
  -- what the receiver does with the content of a frame that it takes: t is how far its number lies past nr
  abbrev pub Taken : Content B → ℕ → Ends → List (Option (Entry B)) → Option ℕ → Ends → List (Option (Entry B)) → Type 0
  Taken c t e got None e' got' = (room_left e ≤ t) × (e' ≡ e) × (got' ≡ got)
  Taken c t e got (Some j) e' got' =
      (t < room_left e) × (j ≡ e.receiver.nr + t) × (got' ≡ set-number got j (Some (entry_in c)))
      × Risen got' e.receiver.nr (min (e.receiver.nd + e.setting.terms.receive_window) 1000001) e'.receiver.nr
      × (e' ≡ with_receiver e (record { nr = e'.receiver.nr; nd = e.receiver.nd }))

  abbrev pub Arrived : (Pair → Result B Fault) → ℕ → Ends → List (Option (Entry B)) → Result (Option ℕ) Refusal → Ends → List (Option (Entry B)) → Type 0
  Arrived reads place e got (Ok a) e' got' =
      (arrive_bar reads place e got ≡ None)
      × ((c : Content B) × (taken_of (far_end e) reads (frame_at e.out place) ≡ Ok c) × Taken c (ahead e.setting.terms.numbers (number_in c) e.receiver.nr) e got a e' got')
  Arrived reads place e got (Err r) e' got' = (arrive_bar reads place e got ≡ Some r) × (e' ≡ e) × (got' ≡ got)

  -- the book with the block that is delivered
  abbrev pub booked : Option (Entry B) → ℕ → List B → List B
  booked (Some (Block b)) nd book = slice_set book nd b
  booked (Some EndMark) nd book = book
  booked None nd book = book

  abbrev pub Delivered : Ends → List (Option (Entry B)) → List B → Result ℕ Refusal → Ends → List (Option (Entry B)) → List B → Type 0
  Delivered e got book (Ok n) e' got' book' =
      (deliver_bar e got book ≡ None) × (n ≡ e.receiver.nd) × (e' ≡ with_receiver e (one_delivered e.receiver))
      × (got' ≡ set-number got e.receiver.nd None) × (book' ≡ booked (at_number None got e.receiver.nd) e.receiver.nd book)
  Delivered e got book (Err r) e' got' book' = (deliver_bar e got book ≡ Some r) × (e' ≡ e) × (got' ≡ got) × (book' ≡ book)

abbrev pub Acknowledged : Ends → Result ℕ Refusal → Ends → Type 0
Acknowledged e (Ok n) e' =
    (acknowledge_bar e ≡ None) × (n ≡ e.receiver.nr) × Joined (acknowledgement e.setting.terms.numbers e.receiver.nr (room_left e)) e.back e'.back
    × (e' ≡ with_back e e'.back)
Acknowledged e (Err r) e' = (acknowledge_bar e ≡ Some r) × (e' ≡ e)

abbrev pub Heard : ℕ → Ends → Result ℕ Refusal → Ends → Type 0
Heard place e (Ok n) e' =
    (hear_bar place e ≡ None)
    × ((h : Head) × (admitted (near_end e) (frame_at e.back place) ≡ Ok h)
    × (n ≡ rise (ahead e.setting.terms.numbers (cyclic_in h) e.sender.na) e.sender)
    × (e' ≡ with_sender e (hearing e.setting.terms.send_window (ahead e.setting.terms.numbers (cyclic_in h) e.sender.na) (window_in h) e.sender)))
Heard place e (Err r) e' = (hear_bar place e ≡ Some r) × (e' ≡ e)

abbrev pub LostOut : ℕ → Ends → Result (Unit {0}) Refusal → Ends → Type 0
LostOut place e (Ok u) e' = (lose_bar place e e.out ≡ None) × (e' ≡ with_out e (remove e.out place))
LostOut place e (Err r) e' = (lose_bar place e e.out ≡ Some r) × (e' ≡ e)

abbrev pub LostBack : ℕ → Ends → Result (Unit {0}) Refusal → Ends → Type 0
LostBack place e (Ok u) e' = (lose_bar place e e.back ≡ None) × (e' ≡ with_back e (remove e.back place))
LostBack place e (Err r) e' = (lose_bar place e e.back ≡ Some r) × (e' ≡ e)

-- both carriers tick, and the rest grows up to the gap
abbrev pub Ticked : Ends → Result (Unit {0}) Refusal → Ends → Type 0
Ticked e (Ok u) e' =
    (tick_bar e ≡ None)
    × (e' ≡ with_back (with_out (with_sender e (rested e.setting.terms.gap e.sender)) (ticked e.setting.out_life e.out)) (ticked e.setting.back_life e.back))
Ticked e (Err r) e' = (tick_bar e ≡ Some r) × (e' ≡ e)

-- complete exactly if a seal was accepted and every accepted entry was heard of
abbrev pub outcome_of : Ends → Outcome
outcome_of e = cond e.sender.sealed (cond (e.sender.na == e.sender.ng) Complete (Unsure e.sender.na e.sender.ns e.sender.ng)) (Unsure e.sender.na e.sender.ns e.sender.ng)

-- the receiver's store after the making of a path: emptied, or as found where the making was refused
abbrev pub emptied : {B : Type 0} → Option Refusal → List (Option (Entry B)) → List (Option (Entry B))
emptied None got = replicate (length got) None
emptied (Some r) got = got
