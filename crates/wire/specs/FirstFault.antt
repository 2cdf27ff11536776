-- What can be wrong with a frame at an end, and which fault is named: the first in the order of check.
use Rattle.std.specs.Prelude.{◌≡◌, ℕ, ◌<◌, ◌≤◌, Bool, false, cond, ◌||◌, ◌⊎◌, Err, Result, ◌==◌}
use Rattle.refusal.specs.Faults.{cause_number, block_fault}
use Rattle.wire.specs.Frames.{kind_of, number_of}
use Rattle.wire.specs.Windows.{middle_of}
use Rattle.wire.specs.declared.end.End.{End}
use Rattle.wire.specs.declared.end.Side.{Side}
use Rattle.wire.specs.declared.end.Side.TheVariants.{Sender, Receiver}
use Rattle.refusal.specs.declared.fault.Cause.{Cause}
use Rattle.refusal.specs.declared.fault.Cause.TheVariants.{NoKind, NotZero, KindNotTaken, NumberTooLarge, BlockRefused}
use Rattle.refusal.specs.declared.fault.Fault.{Fault}
use Rattle.refusal.specs.declared.fault.Layer.{Layer}
use Rattle.refusal.specs.declared.fault.Layer.TheVariants.{Frame as InFrame, End as AtEnd, Block as InBlock}
use Rattle.wire.specs.declared.frame.Frame.{Frame}
use Rattle.wire.specs.declared.words.Words.{Words as Pair}

-- the layer that finds a cause
abbrev pub layer_of : Cause → Layer
layer_of NoKind = InFrame
layer_of NotZero = InFrame
layer_of KindNotTaken = AtEnd
layer_of NumberTooLarge = AtEnd
layer_of BlockRefused = InBlock

-- the sender takes kind 10, the receiver kinds 01 and 11
abbrev pub takes_kind : Side → ℕ → Bool
takes_kind Sender kind = kind == 2
takes_kind Receiver kind = kind == 1 || kind == 3

-- the bits of a word that must be zero: of the head those of the window, but in an acknowledgement; of the others all, but in data
abbrev pub stray_of : Frame → ℕ → ℕ
stray_of f word =
    cond (word == 0) (cond (kind_of f.head == 2) 0 (middle_of f.head))
    (cond (kind_of f.head == 1) 0 (cond (word == 1) f.words.first (cond (word == 2) f.words.second 0)))

module _ {B : Type 0} (e : End) (reads : Pair → Result B Fault) (f : Frame) where
  -- a cause holds of a word
  abbrev pub Wrong : Cause → ℕ → Type 0
  Wrong NoKind word = (word ≡ 0) × (kind_of f.head ≡ 0)
  Wrong NotZero word = (0 < kind_of f.head) × (0 < stray_of f word)
  Wrong KindNotTaken word = (word ≡ 0) × (takes_kind e.side (kind_of f.head) ≡ false)
  Wrong NumberTooLarge word = (word ≡ 0) × (e.numbers ≤ number_of f.head)
  Wrong BlockRefused word = (kind_of f.head ≡ 1) × (reads f.words ≡ Err (block_fault word))

  -- one cause at one word comes no later than another
  abbrev pub NotAfter : Cause → ℕ → Cause → ℕ → Type 0
  NotAfter c w d v = (cause_number c < cause_number d) ⊎ ((cause_number c ≡ cause_number d) × (w ≤ v))

  -- a fault that holds, named with its layer, and none that holds comes before it
  pub record First (x : Fault) : Type 0 where
    pub holds : Wrong x.cause x.word
    pub layer : x.layer ≡ layer_of x.cause
    pub first : (d : Cause) (v : ℕ) → Wrong d v → NotAfter x.cause x.word d v
