-- What a captured frame says to a listener.
use Rattle.std.specs.Prelude.{ℕ, Some, None, Ok, Err, Option, Result}
use Rattle.wire.specs.Commands.{command_of}
use Rattle.wire.specs.Ends.{taken_of}
use Rattle.wire.specs.Frames.{content_of}
use Rattle.wire.specs.Readings.{reading_of}
use Rattle.wire.specs.declared.content.Content.{Content}
use Rattle.wire.specs.declared.content.Content.TheVariants as content
use Rattle.wire.specs.declared.end.End.{End}
use Rattle.refusal.specs.declared.fault.Fault.{Fault}
use Rattle.wire.specs.declared.frame.Frame.{Frame}
use Rattle.wire.specs.declared.words.Words.{Words as Pair}
use Rattle.explain.specs.declared.meaning.Blocks.{Blocks}
use Rattle.explain.specs.declared.meaning.Blocks.TheVariants.{Commands, Readings}
use Rattle.explain.specs.declared.meaning.Listener.{Listener}
use Rattle.explain.specs.declared.meaning.Meaning.{Meaning}
use Rattle.explain.specs.declared.meaning.Meaning.TheVariants.{Command, Reading, Acknowledgement, EndMark}

-- what was read, by what is said of a data frame's number and block
abbrev pub meant : {B : Type 0} → (ℕ → B → Meaning) → Content B → Meaning
meant said (content.Data number block) = said number block
meant said (content.Acknowledgement number window) = Acknowledgement number window.size
meant said (content.EndMark number) = EndMark number

-- a fault is passed on as it is
abbrev pub heard : {B : Type 0} → (ℕ → B → Meaning) → Result (Content B) Fault → Result Meaning Fault
heard said (Ok content) = Ok (meant said content)
heard said (Err fault) = Err fault

-- read as one end would, or as a frame alone
abbrev pub read_by : {B : Type 0} → Option End → (Pair → Result B Fault) → Frame → Result (Content B) Fault
read_by None reads f = content_of reads f
read_by (Some e) reads f = taken_of e reads f

abbrev pub by_blocks : Blocks → Option End → Frame → Result Meaning Fault
by_blocks Commands e f = heard Command (read_by e command_of f)
by_blocks Readings e f = heard Reading (read_by e reading_of f)

abbrev pub meaning_of : Listener → Frame → Result Meaning Fault
meaning_of l f = by_blocks l.blocks l.end f
