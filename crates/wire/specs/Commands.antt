-- A command as two words: 01, 10 or 11 above a 16-bit channel, and the level.
use Rattle.std.specs.Prelude.{ℕ, ◌+◌, ◌*◌, ◌/◌, ◌%◌, ◌^◌, ◌<◌, cond, Ok, Err, Result, ◌==◌, nat_lt}
use Rattle.refusal.specs.Faults.{block_fault}
use Rattle.refusal.specs.declared.fault.Fault.{Fault}
use Rattle.wire.specs.declared.command.Command.{Command}
use Rattle.wire.specs.declared.command.Command.TheVariants.{Stop, Start, Set}
use Rattle.wire.specs.declared.words.Words.{Words as Pair}

abbrev pub Fits : Command → Type 0
Fits Stop = Unit {0}
Fits (Start channel) = channel < 2 ^ 16
Fits (Set channel level) = (channel < 2 ^ 16) × (level < 2 ^ 32)

abbrev pub words_of : Command → Pair
words_of Stop = record { first = 1 * 2 ^ 30; second = 0 }
words_of (Start channel) = record { first = 2 * 2 ^ 30 + channel; second = 0 }
words_of (Set channel level) = record { first = 3 * 2 ^ 30 + channel; second = level }

-- the command of one kind, by what stands below the kind and by the second word
abbrev pub stop_of : ℕ → ℕ → Result Command Fault
stop_of low q = cond (low == 0) (cond (q == 0) (Ok Stop) (Err (block_fault 2))) (Err (block_fault 1))

abbrev pub start_of : ℕ → ℕ → Result Command Fault
start_of low q = cond (q == 0) (Ok (Start low)) (Err (block_fault 2))

abbrev pub set_of : ℕ → ℕ → Result Command Fault
set_of low q = Ok (Set low q)

abbrev pub by_kind : ℕ → ℕ → ℕ → Result Command Fault
by_kind kind low q =
    cond (kind == 1) (stop_of low q) (cond (kind == 2) (start_of low q) (cond (kind == 3) (set_of low q) (Err (block_fault 1))))

-- bits 29 to 16 are zero, and the channel stands below
abbrev pub command_of : Pair → Result Command Fault
command_of w =
    cond (nat_lt (w.first % 2 ^ 30) (2 ^ 16)) (by_kind (w.first / 2 ^ 30) (w.first % 2 ^ 30) w.second) (Err (block_fault 1))
