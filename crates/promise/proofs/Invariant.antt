-- What every call keeps, in parts: each over just what it speaks of.
use Rattle.std.proofs.Common.{◌≡◌, ℕ, ◌+◌, ◌<◌, ◌≤◌, Bool, cond, List, length, get_or, Some, None, Option}
use Rattle.std.specs.List.{AllByRecursion}
use Rattle.carrier.specs.Carriers.{Aged}
use Rattle.path.specs.Events.{Event}
use Rattle.promise.specs.Vocabulary.{Accepted, Sent, Delivered, AtReceiver, heard, ExactlyBelow}
use Rattle.promise.proofs.Timing.{Timed}
use Rattle.path.specs.States.{Setting, Ends, State}
use Rattle.path.specs.Steps.{entry_frame, acknowledgement}
use Rattle.store.specs.Stores.{at_number}
use Rattle.path.specs.declared.entry.Entry.{Entry}
use Rattle.path.specs.declared.entry.Entry.TheVariants.{Block, EndMark}
use Rattle.wire.specs.declared.block.Block.{Ghosts}
use Rattle.wire.specs.declared.frame.Frame.{Frame}

-- what a making that was accepted leaves for good
pub record Made (z : Setting) : Type 0 where
  pub made : z.refused ≡ None
  pub out_short : z.out_life ≤ z.terms.lifetime
  pub back_short : z.back_life ≤ z.terms.lifetime
  pub out_some : 1 ≤ z.out_room
  pub back_some : 1 ≤ z.back_room

pub record Nums (e : Ends) : Type 0 where
  pub dr : e.receiver.nd ≤ e.receiver.nr
  pub room : e.receiver.nr ≤ e.receiver.nd + e.setting.terms.receive_window
  pub ar : e.sender.na ≤ e.receiver.nr
  pub rs : e.receiver.nr ≤ e.sender.ns
  pub sg : e.sender.ns ≤ e.sender.ng
  pub ga : e.sender.ng ≤ e.sender.na + e.setting.terms.send_window
  pub ws : e.sender.sw ≤ e.setting.terms.send_window
  pub rd : e.sender.rest ≤ e.setting.terms.gap

-- at most a million blocks, and the end mark
abbrev pub Few : Bool → ℕ → Type 0
Few sealed ng = ng ≤ cond sealed 1000001 1000000

-- a frame in a carrier was put as many ticks ago as its age
pub record Traced (P : Frame → ℕ → ℕ → Type 0) (life : ℕ) (a : Aged) : Type 0 where
  pub num : ℕ
  pub put : P a.0 a.1 num
  pub young : a.1 < life

pub record AckPut (N SW gap ns rest nr : ℕ) (f : Frame) (age n : ℕ) : Type 0 where
  pub window : ℕ
  pub narrow : window < 16384
  pub words : f ≡ acknowledgement N n window
  pub below : n ≤ nr
  pub timed : Timed gap ns rest (n + SW) age

module _ {B : Type 0} where
  pub record Held (es : List (Event B)) (SW na ng : ℕ) (kept : List (Entry B)) : Type 0 where
    pub size : 0 < ng → length kept ≡ SW
    pub entry : (j : ℕ) → na ≤ j → j < ng → Accepted es j (at_number EndMark kept j)

  pub record Stored (es : List (Event B)) (RW ns nr nd : ℕ) (got : List (Option (Entry B))) : Type 0 where
    pub size : length got ≡ RW
    pub sound : (j : ℕ) (x : Entry B) → nd ≤ j → j < nd + RW → at_number None got j ≡ Some x → (j < ns) × Accepted es j x × AtReceiver es j
    pub full : (j : ℕ) → nd ≤ j → j < nr → (x : Entry B) × (at_number None got j ≡ Some x)
    pub ends : nr < nd + RW → at_number None got nr ≡ None
    pub held : (j : ℕ) → AtReceiver es j → nd ≤ j → (j < nd + RW) × ((x : Entry B) × (at_number None got j ≡ Some x))

  -- a delivered entry, if it is a block, stands in the book
  abbrev pub AtBook : Entry B → ℕ → List B → Type 0
  AtBook (Block x) j book = (j < length book) × ((d : B) → get_or book j d ≡ x)
  AtBook EndMark j book = Unit {0}

  abbrev pub Booked : List (Event B) → ℕ → List B → Type 0
  Booked es nd book = (j : ℕ) → j < nd → (x : Entry B) × Accepted es j x × AtBook x j book

  -- what was taken into the receiver's store
  pub record There (es : List (Event B)) (ns nr : ℕ) : Type 0 where
    pub low : (j : ℕ) → j < nr → AtReceiver es j
    pub sent : (j : ℕ) → AtReceiver es j → j < ns

module _ {B : Type 0} (b : Ghosts B) where
  pub record Acc (es : List (Event B)) (ng : ℕ) : Type 0 where
    pub all : (j : ℕ) → j < ng → (x : Entry B) × Accepted es j x
    pub only : (j : ℕ) (x : Entry B) → Accepted es j x → j < ng
    pub once : (j : ℕ) (x y : Entry B) → Accepted es j x → Accepted es j y → x ≡ y
    pub fits : (j : ℕ) (x : B) → Accepted es j (Block x) → b.fits x

  pub record DataPut (es : List (Event B)) (N SW gap ns rest : ℕ) (f : Frame) (age n : ℕ) : Type 0 where
    pub entry : Entry B
    pub is : Accepted es n entry
    pub words : f ≡ entry_frame b.written N n entry
    pub below : n < ns
    pub timed : Timed gap ns rest (n + SW) age

  pub record Inv (P Q : Frame → ℕ → ℕ → Type 0) (es : List (Event B)) (s : State B) : Type 0 where
    pub made : Made s.ends.setting
    pub nums : Nums s.ends
    pub few : Few s.ends.sender.sealed s.ends.sender.ng
    pub acc : Acc es s.ends.sender.ng
    pub sent : ExactlyBelow s.ends.sender.ns (Sent es)
    pub delivered : ExactlyBelow s.ends.receiver.nd (Delivered es)
    pub hears : heard es ≡ s.ends.sender.na
    pub there : There es s.ends.sender.ns s.ends.receiver.nr
    pub held : Held es s.ends.setting.terms.send_window s.ends.sender.na s.ends.sender.ng s.kept
    pub stored : Stored es s.ends.setting.terms.receive_window s.ends.sender.ns s.ends.receiver.nr s.ends.receiver.nd s.got
    pub booked : Booked es s.ends.receiver.nd s.book
    pub data_puts : (f : Frame) (age n : ℕ) → P f age n → DataPut es s.ends.setting.terms.numbers s.ends.setting.terms.send_window s.ends.setting.terms.gap s.ends.sender.ns s.ends.sender.rest f age n
    pub ack_puts : (f : Frame) (age n : ℕ) → Q f age n → AckPut s.ends.setting.terms.numbers s.ends.setting.terms.send_window s.ends.setting.terms.gap s.ends.sender.ns s.ends.sender.rest s.ends.receiver.nr f age n
    pub outward : AllByRecursion (Traced P s.ends.setting.terms.lifetime) s.ends.out
    pub backward : AllByRecursion (Traced Q s.ends.setting.terms.lifetime) s.ends.back
