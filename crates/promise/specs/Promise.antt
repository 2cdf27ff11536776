-- What holds of every history of a path.
use Rattle.std.specs.Prelude.{◌≡◌, ℕ, ◌+◌, ◌-◌, ◌<◌, ◌≤◌, List, [], ◌++◌, length, get_or, Some, None, Ok, ◌≢◌, slice_index_or}
use mathlib.Core.List.{Memᴰ}
use Rattle.carrier.specs.Carriers.{no_frame}
use Rattle.path.specs.Events.{Event, Step, History, Fresh, arrive, hear}
use Rattle.path.specs.Rounds.{Ticks, Round, Rounds, round_events}
use Rattle.promise.specs.Vocabulary.{refused, Accepted, Sent, Delivered, AtReceiver, InSequence, heard, ExactlyBelow, PutsOut, PutsBack, Under}
use Rattle.path.specs.Bars.{frame_at, near_end, admitted}
use Rattle.path.specs.States.{State}
use Rattle.ends.specs.Numbers.{ahead}
use Rattle.path.specs.Steps.{cyclic_in, outcome_of}
use Rattle.store.specs.Stores.{at_number}
use Rattle.path.specs.declared.entry.Entry.{Entry}
use Rattle.path.specs.declared.entry.Entry.TheVariants.{Block}
use Rattle.ends.specs.declared.outcome.Outcome.TheVariants.{Complete, Unsure}
use Rattle.wire.specs.declared.block.Block.{Ghosts}
use Rattle.wire.specs.declared.content.Head.{Head}
use Rattle.refusal.specs.declared.fault.Fault.{Fault}
use Rattle.refusal.specs.declared.refusals.Refusal.{Refusal}
use Rattle.refusal.specs.declared.refusals.Refusal.TheVariants.{Malformed}

module _ {B : Type 0} where
  -- the numbers of both ends in their order, and in their rooms
  pub record NumbersInOrder (s : State B) : Type 0 where
    pub heard_in_sequence : s.ends.sender.na ≤ s.ends.receiver.nr
    pub in_sequence_sent : s.ends.receiver.nr ≤ s.ends.sender.ns
    pub sent_accepted : s.ends.sender.ns ≤ s.ends.sender.ng
    pub accepted_kept : s.ends.sender.ng ≤ s.ends.sender.na + s.ends.setting.terms.send_window
    pub delivered_in_sequence : s.ends.receiver.nd ≤ s.ends.receiver.nr
    pub in_sequence_stored : s.ends.receiver.nr ≤ s.ends.receiver.nd + s.ends.setting.terms.receive_window
    pub window_kept : s.ends.sender.sw ≤ s.ends.setting.terms.send_window

  -- each number counts what the calls have answered
  pub record NumbersCount (es : List (Event B)) (s : State B) : Type 0 where
    pub accepted : ExactlyBelow s.ends.sender.ng (λ j. (x : Entry B) × Accepted es j x)
    pub accepted_once : (j : ℕ) (x y : Entry B) → Accepted es j x → Accepted es j y → x ≡ y
    pub sent : ExactlyBelow s.ends.sender.ns (Sent es)
    pub heard_of : heard es ≡ s.ends.sender.na
    pub in_sequence : ExactlyBelow s.ends.receiver.nr (InSequence es)
    pub delivered : ExactlyBelow s.ends.receiver.nd (Delivered es)

  -- every block among the entries below n stands in the book under its number
  abbrev pub InBook : List (Event B) → ℕ → List B → Type 0
  InBook es n book = (j : ℕ) (x : B) → j < n → Accepted es j (Block x) → (j < length book) × ((d : B) → slice_index_or book j d ≡ x)

  -- what the end says is so
  pub record OutcomeTrue (es : List (Event B)) (s : State B) : Type 0 where
    pub complete : outcome_of s.ends ≡ Complete → (j : ℕ) (x : Entry B) → Accepted es j x → InSequence es j
    pub unsure : (na ns ng : ℕ) → outcome_of s.ends ≡ Unsure na ns ng
        → (na ≡ heard es) × ExactlyBelow ns (Sent es) × ExactlyBelow ng (λ j. (x : Entry B) × Accepted es j x)
    pub heard_in_sequence : (j : ℕ) → j < heard es → InSequence es j
    pub in_sequence_sent : (j : ℕ) → InSequence es j → Sent es j
    pub undelivered_stored : (j : ℕ) → AtReceiver es j → (Delivered es j → ⊥) → (x : Entry B) × Accepted es j x × (at_number None s.got j ≡ Some x)

  pub record BothEmpty (s : State B) : Type 0 where
    pub out : s.ends.out ≡ []
    pub back : s.ends.back ≡ []

  -- a place in the book for every accepted block
  abbrev pub BookLong : List (Event B) → State B → Type 0
  BookLong es s = (j : ℕ) (x : B) → Accepted es j (Block x) → j < length s.book

  -- every accepted entry is delivered and heard of
  pub record AllThrough (es : List (Event B)) (s s' : State B) : Type 0 where
    pub delivered : s'.ends.receiver.nd ≡ s.ends.sender.ng
    pub heard_of : s'.ends.sender.na ≡ s.ends.sender.ng
    pub in_book : InBook es s.ends.sender.ng s'.book

module _ {B : Type 0} (b : Ghosts B) where
  -- every frame that an arrive takes, and every acknowledgement that a hear heeds, is read under the number it was put with
  pub record ReadRight {es : List (Event B)} {s : State B} (h : History b es s) : Type 0 where
    pub taken : (place m : ℕ) (s' : State B) → Step b s (arrive place (Ok (Some m))) s'
        → Under b (PutsOut b (frame_at s.ends.out place)) (get_or s.ends.out place no_frame).1 m h
    pub heeded : (place n : ℕ) (s' : State B) → Step b s (hear place (Ok n)) s'
        → (w : Head) → admitted (near_end s.ends) (frame_at s.ends.back place) ≡ Ok w
        → (t : ℕ) → t ≡ ahead s.ends.setting.terms.numbers (cyclic_in w) s.ends.sender.na → t ≤ s.ends.sender.ns - s.ends.sender.na
        → Under b (PutsBack b (frame_at s.ends.back place)) (get_or s.ends.back place no_frame).1 (s.ends.sender.na + t) h

  pub record Progress (es : List (Event B)) (s : State B) : Type 0 where
    -- a lifetime of ticks empties both carriers
    pub quiet : (s' : State B) → Ticks b s.ends.setting.terms.lifetime s s' → BothEmpty s'
    -- and then one round more than there are entries not heard of brings all through
    pub completes : BookLong es s → (m s' : State B) → Ticks b s.ends.setting.terms.lifetime s m
        → Rounds b (s.ends.sender.ng - s.ends.sender.na + 1) m s' → AllThrough es s s'

  pub record Promised {es : List (Event B)} {s : State B} (h : History b es s) : Type 0 where
    pub numbers_in_order : NumbersInOrder s
    pub numbers_count : NumbersCount es s
    pub delivered_in_order : InBook es s.ends.receiver.nd s.book
    pub read_right : ReadRight h
    pub outcome_true : OutcomeTrue es s
    pub never_malformed : (e : Event B) (s' : State B) (x : Fault) → Step b s e s' → refused e ≢ Some (Malformed x)
    pub progress : Progress es s

  -- where the making was refused, every call gives that refusal, and the end is unsure with zeros
  pub record AllRefused (r : Refusal) (es : List (Event B)) (s : State B) : Type 0 where
    pub each : (e : Event B) → Memᴰ e es → refused e ≡ Some r
    pub end : outcome_of s.ends ≡ Unsure 0 0 0

  pub record Promise : Type 0 where
    pub of_fresh_paths : (es : List (Event B)) (s : State B) (h : History b es s) → Fresh b s → Promised h
    pub of_refused_makings : (es : List (Event B)) (s : State B) (h : History b es s) (r : Refusal) → s.ends.setting.refused ≡ Some r → AllRefused r es s
    -- a refused call changes nothing
    pub refused_unchanged : (s s' : State B) (e : Event B) (r : Refusal) → Step b s e s' → refused e ≡ Some r → s' ≡ s
    -- a round counts as the calls it makes
    pub round_as_calls : (es : List (Event B)) (s s' : State B) (n : ℕ) → History b es s → (r : Round b n s s') → History b (round_events r ++ es) s'
