-- The faults of a malformed frame.
use Rattle.std.specs.Prelude.{ℕ}
use Rattle.refusal.specs.declared.fault.Layer.TheVariants.{Frame, End, Block}
use Rattle.refusal.specs.declared.fault.Cause.{Cause}
use Rattle.refusal.specs.declared.fault.Cause.TheVariants.{NoKind, NotZero, KindNotTaken, NumberTooLarge, BlockRefused}
use Rattle.refusal.specs.declared.fault.Fault.{Fault}

-- the causes in the order of check
abbrev pub cause_number : Cause → ℕ
cause_number NoKind = 1
cause_number NotZero = 2
cause_number KindNotTaken = 3
cause_number NumberTooLarge = 4
cause_number BlockRefused = 5

abbrev pub no_kind : Fault
no_kind = record { layer = Frame; cause = NoKind; word = 0 }

abbrev pub not_zero : ℕ → Fault
not_zero w = record { layer = Frame; cause = NotZero; word = w }

-- the end looks at the head only
abbrev pub end_fault : Cause → Fault
end_fault cause = record { layer = End; cause = cause; word = 0 }

abbrev pub block_fault : ℕ → Fault
block_fault w = record { layer = Block; cause = BlockRefused; word = w }
