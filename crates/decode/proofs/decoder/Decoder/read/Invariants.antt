use Rattle.std.proofs.Common.{◌≡◌}
use Rattle.decode.specs.Decoding.{script_of, read_to}
use Rattle.decode.proofs.decoder.Decoder.read.Given as goal

abbrev pub invariant-loop-word : goal.invariant-loop-word
invariant-loop-word l = (script_of l.script ≡ read_to l.bytes l.word-index) × (l.script.place ≡ l.word-index)
