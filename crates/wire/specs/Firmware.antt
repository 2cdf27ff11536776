-- What C firmware is answered.
use Rattle.std.specs.Prelude.{◌≡◌, ℕ, ◌+◌, ◌*◌, ◌^◌, cond, List, length, Ok, Err, Result, ◌==◌, slice_index}
use Rattle.refusal.specs.Faults.{cause_number}
use Rattle.wire.specs.Frames.{head_of}
use Rattle.terms.specs.Rules.{InRange, Least}
use Rattle.wire.specs.declared.content.Head.{Head}
use Rattle.refusal.specs.declared.fault.Fault.{Fault}
use Rattle.wire.specs.declared.frame.Frame.{Frame}

-- four bytes as a word, most significant first
abbrev pub word_at : List ℕ → ℕ → ℕ
word_at bs i = slice_index bs i * 2 ^ 24 + slice_index bs (i + 1) * 2 ^ 16 + slice_index bs (i + 2) * 2 ^ 8 + slice_index bs (i + 3)

abbrev pub frame_at : List ℕ → Frame
frame_at bs = record { head = word_at bs 0; words = record { first = word_at bs 4; second = word_at bs 8 } }

abbrev pub cause_in : Result Head Fault → ℕ
cause_in (Ok h) = 0
cause_in (Err fault) = cause_number fault.cause

abbrev pub fault_of : List ℕ → ℕ
fault_of bs = cond (length bs == 12) (cause_in (head_of (frame_at bs))) 255

-- the least count of numbers for terms in range, and else 0
abbrev pub LeastOr0 : ℕ → ℕ → ℕ → ℕ → ℕ → Type 0
LeastOr0 sw rv life gap n = (InRange sw rv life gap → Least sw rv life gap n) × ((InRange sw rv life gap → ⊥) → n ≡ 0)
