use Rattle.std.proofs.Common.{◌≡◌, ◌^◌, ◌<◌, drop}
use Rattle.explain.specs.Lines.{digits_on}
use Rattle.explain.proofs.hex.word.Given as goal

abbrev pub invariant-loop-byte : goal.invariant-loop-byte
invariant-loop-byte l = (digits_on (drop l.byte-index l.digits) l.word ≡ digits_on l.digits 0) × (l.word < 16 ^ l.byte-index)
