-- The words below a head.
use Rattle.std.specs.Prelude.{◌^◌, ◌<◌}
use Rattle.wire.specs.declared.words.Words.{Words as Pair}

-- each word has 32 bits
abbrev pub Held : Pair → Type 0
Held w = (w.first < 2 ^ 32) × (w.second < 2 ^ 32)

abbrev pub zeros : Pair
zeros = record { first = 0; second = 0 }
