-- A frame as words, and what it says.
use Rattle.std.specs.Prelude.{ℕ, ◌+◌, ◌*◌, ◌/◌, ◌%◌, ◌^◌, cond, Ok, Err, Result, ◌==◌}
use Rattle.refusal.specs.Faults.{no_kind, not_zero}
use Rattle.wire.specs.Windows.{middle_of, window_of}
use Rattle.wire.specs.Words.{zeros}
use Rattle.refusal.specs.declared.fault.Fault.{Fault}
use Rattle.wire.specs.declared.frame.Frame.{Frame}
use Rattle.wire.specs.declared.content.Content.{Content}
use Rattle.wire.specs.declared.content.Content.TheVariants as content
use Rattle.wire.specs.declared.content.Head.{Head}
use Rattle.wire.specs.declared.content.Head.TheVariants as head
use Rattle.wire.specs.declared.words.Words.{Words as Pair}

-- bits 31 and 30 of a head
abbrev pub kind_of : ℕ → ℕ
kind_of w = w / 2 ^ 30

-- bits 15 to 0 of a head
abbrev pub number_of : ℕ → ℕ
number_of w = w % 2 ^ 16

-- r where a value is zero, and else the fault at a word
abbrev pub zero_then : {R : Type 0} → ℕ → ℕ → Result R Fault → Result R Fault
zero_then x word r = cond (x == 0) r (Err (not_zero word))

abbrev pub empty_of : {R : Type 0} → Pair → Result R Fault → Result R Fault
empty_of w r = zero_then w.first 1 (zero_then w.second 2 r)

-- kind 01 data, 10 acknowledgement, 11 end mark, 00 none
abbrev pub head_of : Frame → Result Head Fault
head_of f =
    cond (kind_of f.head == 0) (Err no_kind)
    (cond (kind_of f.head == 1) (zero_then (middle_of f.head) 0 (Ok (head.Data (number_of f.head))))
    (cond (kind_of f.head == 2)
    (empty_of f.words (Ok (head.Acknowledgement (number_of f.head) (window_of f.head))))
    (zero_then (middle_of f.head) 0 (empty_of f.words (Ok (head.EndMark (number_of f.head)))))))

-- the word that says a head
abbrev pub word_of : Head → ℕ
word_of (head.Data number) = 1 * 2 ^ 30 + number
word_of (head.Acknowledgement number window) = 2 * 2 ^ 30 + window.size * 2 ^ 16 + number
word_of (head.EndMark number) = 3 * 2 ^ 30 + number

module _ {B : Type 0} (written : B → Pair) where
  -- the frame that says a content
  abbrev pub frame_of : Content B → Frame
  frame_of (content.Data number block) = record { head = word_of (head.Data number); words = written block }
  frame_of (content.Acknowledgement number window) = record { head = word_of (head.Acknowledgement number window); words = zeros }
  frame_of (content.EndMark number) = record { head = word_of (head.EndMark number); words = zeros }

module _ {B : Type 0} where
  abbrev pub data_of : ℕ → Result B Fault → Result (Content B) Fault
  data_of number (Ok block) = Ok (content.Data number block)
  data_of number (Err e) = Err e

  -- what a head says, with what its words are read as
  abbrev pub filled : Result Head Fault → Result B Fault → Result (Content B) Fault
  filled (Ok (head.Data number)) r = data_of number r
  filled (Ok (head.Acknowledgement number window)) r = Ok (content.Acknowledgement number window)
  filled (Ok (head.EndMark number)) r = Ok (content.EndMark number)
  filled (Err e) r = Err e

  abbrev pub content_of : (Pair → Result B Fault) → Frame → Result (Content B) Fault
  content_of reads f = filled (head_of f) (reads f.words)
