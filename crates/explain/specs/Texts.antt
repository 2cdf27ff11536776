-- The words that a frame is explained in.
use Rattle.std.specs.Prelude.{ℕ, List, ◌++◌, Some, None, codes, decimal, Option, Ok, Err, Result}
use Rattle.std.specs.Fmt.{signed_decimal}
use Rattle.refusal.specs.Faults.{cause_number}
use Rattle.wire.specs.declared.command.Command.{Command as Order}
use Rattle.wire.specs.declared.command.Command.TheVariants.{Stop, Start, Set}
use Rattle.refusal.specs.declared.fault.Cause.{Cause}
use Rattle.refusal.specs.declared.fault.Cause.TheVariants.{NoKind, NotZero, KindNotTaken, NumberTooLarge, BlockRefused}
use Rattle.refusal.specs.declared.fault.Fault.{Fault}
use Rattle.refusal.specs.declared.fault.Layer.{Layer}
use Rattle.refusal.specs.declared.fault.Layer.TheVariants.{Frame as InFrame, End as AtEnd, Block as InBlock}
use Rattle.wire.specs.declared.frame.Frame.{Frame}
use Rattle.explain.specs.Lines.{frame_on}
use Rattle.explain.specs.Meanings.{meaning_of}
use Rattle.explain.specs.declared.line.Explained.{Explained}
use Rattle.explain.specs.declared.line.Unread.{Unread}
use Rattle.explain.specs.declared.line.Unread.TheVariants.{Malformed, NoFrame}
use Rattle.explain.specs.declared.meaning.Listener.{Listener}
use Rattle.explain.specs.declared.meaning.Meaning.{Meaning}
use Rattle.explain.specs.declared.meaning.Meaning.TheVariants.{Command, Reading, Acknowledgement, EndMark}

abbrev pub command_text : Order → List ℕ
command_text Stop = codes "stop"
command_text (Start channel) = codes "start channel " ++ decimal channel
command_text (Set channel level) = codes "set channel " ++ (decimal channel ++ (codes " to level " ++ decimal level))

abbrev pub layer_text : Layer → List ℕ
layer_text InFrame = codes "frame"
layer_text AtEnd = codes "end"
layer_text InBlock = codes "block"

abbrev pub cause_text : Cause → List ℕ
cause_text NoKind = codes "kind 00"
cause_text NotZero = codes "a bit that must be zero is not"
cause_text KindNotTaken = codes "a kind that this end does not take"
cause_text NumberTooLarge = codes "a number not below N"
cause_text BlockRefused = codes "words that the block type refuses"

abbrev pub fault_text : Fault → List ℕ
fault_text fault =
    codes "layer " ++ (layer_text fault.layer ++ (codes ", cause " ++ (decimal (cause_number fault.cause) ++ (codes " (" ++ (cause_text fault.cause ++ (codes "), word " ++ decimal fault.word))))))

abbrev pub meaning_text : Meaning → List ℕ
meaning_text (Command number command) = codes "data " ++ (decimal number ++ (codes ": " ++ command_text command))
meaning_text (Reading number reading) = codes "data " ++ (decimal number ++ (codes ": reading at time " ++ (decimal reading.time ++ (codes ", value " ++ signed_decimal reading.value))))
meaning_text (Acknowledgement number window) = codes "acknowledgement " ++ (decimal number ++ (codes ": window " ++ decimal window))
meaning_text (EndMark number) = codes "end mark " ++ decimal number

-- a line that is no frame is named by its number
abbrev pub unread_text : Unread → List ℕ
unread_text (Malformed fault) = codes "malformed: " ++ fault_text fault
unread_text (NoFrame place) = codes "line " ++ (decimal place ++ codes ": no frame (three words of eight hexadecimal digits)")

abbrev pub either_text : Result Meaning Unread → List ℕ
either_text (Ok meaning) = meaning_text meaning
either_text (Err unread) = unread_text unread

-- what is printed for a line: what it says, or why it says nothing
abbrev pub explained_text : Explained → List ℕ
explained_text explained = either_text explained.0

abbrev pub told_of : Result Meaning Fault → Result Meaning Unread
told_of (Ok meaning) = Ok meaning
told_of (Err fault) = Err (Malformed fault)

abbrev pub explained_as : Listener → ℕ → Option Frame → Result Meaning Unread
explained_as l place (Some frame) = told_of (meaning_of l frame)
explained_as l place None = Err (NoFrame place)

abbrev pub explained_of : Listener → ℕ → List ℕ → Result Meaning Unread
explained_of l place line = explained_as l place (frame_on line)
