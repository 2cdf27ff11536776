-- A round, as the calls that it makes, each with whatever answer, and when it is refused.
use Rattle.std.specs.Prelude.{◌≡◌, ℕ, zero, suc, ◌<◌, ◌≤◌, not, ◌||◌, List, [], ◌∷◌, ◌++◌, length, Some, None, Ok, Err, Option, Result, ◌==◌, nat_lt}
use Rattle.path.specs.Events.{Event, Step, send, resend, arrive, hear, deliver, acknowledge, lose_out, lose_back, tick}
use Rattle.ends.specs.Stops.{where_so}
use Rattle.path.specs.Bars.{first_of, deliver_bar}
use Rattle.path.specs.States.{State, Ends}
use Rattle.wire.specs.declared.block.Block.{Ghosts}
use Rattle.refusal.specs.declared.refusals.Refusal.{Refusal}
use Rattle.refusal.specs.declared.refusals.Refusal.TheVariants.{SenderStoreLength, ReceiverStoreLength, FrameInTheAir}

-- why a round is refused: a store of the wrong length, or a frame in the air
abbrev pub bar_with : Ends → ℕ → ℕ → Option Refusal
bar_with e kept got =
    first_of e.setting.refused
    (where_so (not (kept == e.setting.terms.send_window)) SenderStoreLength
    (where_so (not (got == e.setting.terms.receive_window)) ReceiverStoreLength
    (where_so (nat_lt 0 (length e.out) || nat_lt 0 (length e.back)) FrameInTheAir None)))

module _ {B : Type 0} (b : Ghosts B) where
  pub data Ticks : ℕ → State B → State B → Type 0 where
    none : {s : State B} → Ticks zero s s
    more : {n : ℕ} {r : Result (Unit {0}) Refusal} {s m s' : State B} → Step b s (tick r) m → Ticks n m s' → Ticks (suc n) s s'

  -- n deliveries, until none more is accepted
  pub data Delivers : ℕ → State B → State B → Type 0 where
    none : {r : Refusal} {s : State B} → deliver_bar s.ends s.got s.book ≡ Some r → Delivers zero s s
    more : {n j : ℕ} {s m s' : State B} → Step b s (deliver (Ok j)) m → Delivers n m s' → Delivers (suc n) s s'

  -- the first half: entries are delivered, and the sender hears how far the receiver is
  pub record Opens (n : ℕ) (s s' : State B) : Type 0 where
    pub stored : State B
    pub told : State B
    pub known : State B
    pub delivers : Delivers n s stored
    pub acknowledges : (r : Result ℕ Refusal) × Step b stored (acknowledge r) told
    pub hears : (r : Result ℕ Refusal) × Step b told (hear 0 r) known
    pub strikes : (r : Result (Unit {0}) Refusal) × Step b known (lose_back 0 r) s'

  -- what went out arrives
  pub record Lands (s s' : State B) : Type 0 where
    pub there : State B
    pub arrives : (r : Result (Option ℕ) Refusal) × Step b s (arrive 0 r) there
    pub strikes : (r : Result (Unit {0}) Refusal) × Step b there (lose_out 0 r) s'

  -- the second half: the lowest entry not heard of goes out, again or first after a gap, if there is one
  pub data Closes : State B → State B → Type 0 where
    again : {s m s' : State B} → s.ends.sender.na < s.ends.sender.ns → (r : Result ℕ Refusal) × Step b s (resend 0 r) m → Lands m s' → Closes s s'
    first : {s t m s' : State B} → s.ends.sender.ns ≡ s.ends.sender.na → s.ends.sender.ns < s.ends.sender.ng → 1 ≤ s.ends.sender.sw
        → Ticks s.ends.setting.terms.gap s t → (r : Result ℕ Refusal) × Step b t (send r) m → Lands m s' → Closes s s'
    stop : {s : State B} → s.ends.sender.ns ≡ s.ends.sender.na → (s.ends.sender.ns < s.ends.sender.ng → 1 ≤ s.ends.sender.sw → ⊥) → Closes s s

  -- a round that answers n
  pub record Round (n : ℕ) (s s' : State B) : Type 0 where
    pub half : State B
    pub opens : Opens n s half
    pub closes : Closes half s'

  abbrev pub round_bar : State B → Option Refusal
  round_bar s = bar_with s.ends (length s.kept) (length s.got)

  abbrev pub Rounded : State B → Result ℕ Refusal → State B → Type 0
  Rounded s (Ok n) s' = (round_bar s ≡ None) × Round n s s'
  Rounded s (Err r) s' = (round_bar s ≡ Some r) × (s' ≡ s)

  -- so many rounds, each with whatever answer
  pub data Rounds : ℕ → State B → State B → Type 0 where
    none : {s : State B} → Rounds zero s s
    more : {k : ℕ} {s m s' : State B} → (r : Result ℕ Refusal) × Rounded s r m → Rounds k m s' → Rounds (suc k) s s'

module _ {B : Type 0} {b : Ghosts B} where
  -- the events of a round, the latest first
  abbrev pub tick_events : {n : ℕ} {s s' : State B} → Ticks b n s s' → List (Event B)
  tick_events none = []
  tick_events (more {r = r} d ts) = tick_events ts ++ tick r ∷ []

  abbrev pub deliver_events : {n : ℕ} {s s' : State B} → Delivers b n s s' → List (Event B)
  deliver_events (none h) = []
  deliver_events (more {j = j} d ds) = deliver_events ds ++ deliver (Ok j) ∷ []

  abbrev pub close_events : {s s' : State B} → Closes b s s' → List (Event B)
  close_events (again h k l) = lose_out 0 l.strikes.0 ∷ arrive 0 l.arrives.0 ∷ resend 0 k.0 ∷ []
  close_events (first g h w ts k l) = lose_out 0 l.strikes.0 ∷ arrive 0 l.arrives.0 ∷ send k.0 ∷ tick_events ts
  close_events (stop g h) = []

  abbrev pub round_events : {n : ℕ} {s s' : State B} → Round b n s s' → List (Event B)
  round_events r = close_events r.closes ++ lose_back 0 r.opens.strikes.0 ∷ hear 0 r.opens.hears.0 ∷ acknowledge r.opens.acknowledges.0 ∷ deliver_events r.opens.delivers
