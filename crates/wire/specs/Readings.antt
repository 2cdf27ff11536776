-- A reading as two words: the time, and the value in two's complement.
use Rattle.std.specs.Prelude.{◌^◌, ◌<◌, Ok, Result, FitsSigned}
use Rattle.std.specs.Int.{w32}
use Rattle.std.proofs.Common.{to_z, of_z}
use Rattle.refusal.specs.declared.fault.Fault.{Fault}
use Rattle.wire.specs.declared.reading.Reading.{Reading}
use Rattle.wire.specs.declared.words.Words.{Words as Pair}

abbrev pub Fits : Reading → Type 0
Fits r = (r.time < 2 ^ 32) × FitsSigned w32 r.value

abbrev pub words_of : Reading → Pair
words_of r = record { first = r.time; second = of_z w32 r.value }

abbrev pub reading_of : Pair → Result Reading Fault
reading_of w = Ok record { time = w.first; value = to_z w32 w.second }
