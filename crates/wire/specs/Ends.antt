-- What each end takes.
use Rattle.std.specs.Prelude.{ℕ, ◌<◌, Bool, true, false, cond, Ok, Err, Result, nat_lt}
use Rattle.refusal.specs.Faults.{end_fault}
use Rattle.wire.specs.Frames.{head_of, content_of}
use Rattle.refusal.specs.declared.fault.Cause.TheVariants.{KindNotTaken, NumberTooLarge}
use Rattle.refusal.specs.declared.fault.Fault.{Fault}
use Rattle.wire.specs.declared.frame.Frame.{Frame}
use Rattle.wire.specs.declared.content.Content.{Content}
use Rattle.wire.specs.declared.content.Content.TheVariants as content
use Rattle.wire.specs.declared.content.Head.{Head}
use Rattle.wire.specs.declared.content.Head.TheVariants.{Data, Acknowledgement, EndMark}
use Rattle.wire.specs.declared.end.End.{End}
use Rattle.wire.specs.declared.end.Side.{Side}
use Rattle.wire.specs.declared.end.Side.TheVariants.{Sender, Receiver}
use Rattle.wire.specs.declared.words.Words.{Words as Pair}

-- the sender takes acknowledgements, the receiver data and end marks
abbrev pub takes : Side → Head → Bool
takes Sender (Data number) = false
takes Sender (Acknowledgement number window) = true
takes Sender (EndMark number) = false
takes Receiver (Data number) = true
takes Receiver (Acknowledgement number window) = false
takes Receiver (EndMark number) = true

abbrev pub number_in : Head → ℕ
number_in (Data number) = number
number_in (Acknowledgement number window) = number
number_in (EndMark number) = number

abbrev pub checked_of : End → Head → Result (Unit {0}) Fault
checked_of e h =
    cond (takes e.side h) (cond (nat_lt (number_in h) e.numbers) (Ok tt) (Err (end_fault NumberTooLarge))) (Err (end_fault KindNotTaken))

module _ {B : Type 0} where
  -- a content of a kind that an end takes, with a number below N
  abbrev pub TakenAt : Side → ℕ → Content B → Type 0
  TakenAt Sender n (content.Data number block) = ⊥
  TakenAt Sender n (content.Acknowledgement number window) = number < n
  TakenAt Sender n (content.EndMark number) = ⊥
  TakenAt Receiver n (content.Data number block) = number < n
  TakenAt Receiver n (content.Acknowledgement number window) = ⊥
  TakenAt Receiver n (content.EndMark number) = number < n

  abbrev pub Takes : End → Content B → Type 0
  Takes e c = TakenAt e.side e.numbers c

  abbrev pub onward : Result (Unit {0}) Fault → Result (Content B) Fault → Result (Content B) Fault
  onward (Ok u) r = r
  onward (Err e) r = Err e

  abbrev pub after_head : End → Result Head Fault → Result (Content B) Fault → Result (Content B) Fault
  after_head e (Ok h) r = onward (checked_of e h) r
  after_head e (Err x) r = Err x

  -- what an end makes of a frame: the head first, then the end's own checks, then the block
  abbrev pub taken_of : End → (Pair → Result B Fault) → Frame → Result (Content B) Fault
  taken_of e reads f = after_head e (head_of f) (content_of reads f)
