-- When each call is refused: the smallest number wins, and none means that the call is accepted.
use Rattle.std.specs.Prelude.{ℕ, ◌+◌, ◌-◌, Bool, false, not, ◌||◌, List, length, Some, None, Ok, Err, Option, Result, ◌==◌, nat_le, nat_lt, slice_index_or}
use Rattle.carrier.specs.Carriers.{Aged, no_frame}
use Rattle.ends.specs.Stops.{where_so}
use Rattle.path.specs.States.{Ends}
use Rattle.store.specs.Stores.{at_number}
use Rattle.path.specs.declared.entry.Entry.{Entry}
use Rattle.path.specs.declared.entry.Entry.TheVariants.{Block, EndMark}
use Rattle.wire.specs.Ends.{checked_of, taken_of}
use Rattle.wire.specs.Frames.{head_of}
use Rattle.wire.specs.declared.content.Head.{Head}
use Rattle.wire.specs.declared.end.End.{End}
use Rattle.wire.specs.declared.end.Side.TheVariants.{Sender, Receiver}
use Rattle.refusal.specs.declared.fault.Fault.{Fault}
use Rattle.wire.specs.declared.frame.Frame.{Frame}
use Rattle.refusal.specs.declared.refusals.Refusal.{Refusal}
use Rattle.refusal.specs.declared.refusals.Refusal.TheVariants.{LifetimeTooLong, CarrierNotEmpty, SenderStoreLength, ReceiverStoreLength, SenderStoreFull, AlreadySealed, PathFull, NothingToSend, WindowClosed, TooSoon, NotOutstanding, CarrierFull, NoSuchPlace, NothingToDeliver, BookFull, Malformed, NoCapacity}
use Rattle.terms.specs.declared.agreed.Terms.{Terms}
use Rattle.wire.specs.declared.words.Words.{Words as Pair}

-- a path made against a refusal gives that to every call, before any other
abbrev pub first_of : Option Refusal → Option Refusal → Option Refusal
first_of (Some r) next = Some r
first_of None next = next

-- why a path cannot be made of terms, two carriers and a receiver's store
abbrev pub make_bar : Terms → ℕ → ℕ → ℕ → ℕ → List Aged → List Aged → ℕ → Option Refusal
make_bar t out_life out_room back_life back_room out back places =
    where_so (nat_lt t.lifetime out_life || nat_lt t.lifetime back_life) LifetimeTooLong
    (where_so (nat_lt 0 (length out) || nat_lt 0 (length back)) CarrierNotEmpty
    (where_so (not (places == t.receive_window)) ReceiverStoreLength
    (where_so (out_room == 0 || back_room == 0) NoCapacity None)))

-- the frame at a place of a carrier
abbrev pub frame_at : List Aged → ℕ → Frame
frame_at l place = (slice_index_or l place no_frame).0

-- the end that reads acknowledgements, and the end that reads data and end marks
abbrev pub near_end : Ends → End
near_end e = record { side = Sender; numbers = e.setting.terms.numbers }

abbrev pub far_end : Ends → End
far_end e = record { side = Receiver; numbers = e.setting.terms.numbers }

abbrev pub passed : Result (Unit {0}) Fault → Head → Result Head Fault
passed (Ok u) h = Ok h
passed (Err x) h = Err x

abbrev pub admit : End → Result Head Fault → Result Head Fault
admit n (Ok h) = passed (checked_of n h) h
admit n (Err x) = Err x

-- the head of a frame that an end takes
abbrev pub admitted : End → Frame → Result Head Fault
admitted n f = admit n (head_of f)

-- a malformed frame is refused with its fault unchanged
abbrev pub fault_in : {R : Type 0} → Result R Fault → Option Refusal
fault_in (Ok r) = None
fault_in (Err x) = Some (Malformed x)

module _ {B : Type 0} where
  abbrev pub offer_bar : Ends → List (Entry B) → Option Refusal
  offer_bar e kept =
      first_of e.setting.refused
      (where_so (not (length kept == e.setting.terms.send_window)) SenderStoreLength
      (where_so (e.sender.ng - e.sender.na == e.setting.terms.send_window) SenderStoreFull
      (where_so e.sender.sealed AlreadySealed
      (where_so (nat_le 1000000 e.sender.ng) PathFull None))))

  abbrev pub seal_bar : Ends → List (Entry B) → Option Refusal
  seal_bar e kept =
      first_of e.setting.refused
      (where_so (not (length kept == e.setting.terms.send_window)) SenderStoreLength
      (where_so (e.sender.ng - e.sender.na == e.setting.terms.send_window) SenderStoreFull
      (where_so e.sender.sealed AlreadySealed None)))

  abbrev pub send_bar : Ends → List (Entry B) → Option Refusal
  send_bar e kept =
      first_of e.setting.refused
      (where_so (not (length kept == e.setting.terms.send_window)) SenderStoreLength
      (where_so (e.sender.ns == e.sender.ng) NothingToSend
      (where_so (nat_le (e.sender.na + e.sender.sw) e.sender.ns) WindowClosed
      (where_so (nat_lt e.sender.rest e.setting.terms.gap) TooSoon
      (where_so (nat_le e.setting.out_room (length e.out)) CarrierFull None)))))

  abbrev pub resend_bar : ℕ → Ends → List (Entry B) → Option Refusal
  resend_bar j e kept =
      first_of e.setting.refused
      (where_so (not (length kept == e.setting.terms.send_window)) SenderStoreLength
      (where_so (nat_le (e.sender.ns - e.sender.na) j) NotOutstanding
      (where_so (nat_le e.setting.out_room (length e.out)) CarrierFull None)))

  abbrev pub arrive_bar : (Pair → Result B Fault) → ℕ → Ends → List (Option (Entry B)) → Option Refusal
  arrive_bar reads place e got =
      first_of e.setting.refused
      (where_so (not (length got == e.setting.terms.receive_window)) ReceiverStoreLength
      (where_so (nat_le (length e.out) place) NoSuchPlace (fault_in (taken_of (far_end e) reads (frame_at e.out place)))))

  -- a block is due, and the book has no place for it
  abbrev pub past_book : Option (Entry B) → ℕ → ℕ → Bool
  past_book (Some (Block b)) nd places = nat_le places nd
  past_book (Some EndMark) nd places = false
  past_book None nd places = false

  abbrev pub deliver_bar : Ends → List (Option (Entry B)) → List B → Option Refusal
  deliver_bar e got book =
      first_of e.setting.refused
      (where_so (not (length got == e.setting.terms.receive_window)) ReceiverStoreLength
      (where_so (e.receiver.nd == e.receiver.nr) NothingToDeliver
      (where_so (past_book (at_number None got e.receiver.nd) e.receiver.nd (length book)) BookFull None)))

abbrev pub hear_bar : ℕ → Ends → Option Refusal
hear_bar place e =
    first_of e.setting.refused (where_so (nat_le (length e.back) place) NoSuchPlace (fault_in (admitted (near_end e) (frame_at e.back place))))

abbrev pub acknowledge_bar : Ends → Option Refusal
acknowledge_bar e = first_of e.setting.refused (where_so (nat_le e.setting.back_room (length e.back)) CarrierFull None)

-- striking a frame of one carrier's list
abbrev pub lose_bar : ℕ → Ends → List Aged → Option Refusal
lose_bar place e l = first_of e.setting.refused (where_so (nat_le (length l) place) NoSuchPlace None)

abbrev pub tick_bar : Ends → Option Refusal
tick_bar e = e.setting.refused
