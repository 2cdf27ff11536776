-- Calls as values with their answers, and the events that they are.
use Rattle.std.specs.Prelude.{◌≡◌, ℕ, zero, suc, ◌+◌, ◌-◌, List, [], ◌∷◌, ◌++◌, Some, None, Ok, Err, Option, Result}
use Rattle.path.specs.Events as event
use Rattle.path.specs.Events.{Event, Step, JustMade, History, Fresh}
use Rattle.promise.specs.Promise.{Promised, AllRefused, BookLong, AllThrough}
use Rattle.path.specs.Rounds.{Rounded, round_events}
use Rattle.promise.specs.Vocabulary.{AtEveryMoment}
use Rattle.promise.specs.declared.call.Reply.{Reply}
use Rattle.promise.specs.declared.call.Reply.TheVariants.{Number, Ignored, Done}
use Rattle.promise.specs.declared.call.Call.{Call}
use Rattle.promise.specs.declared.call.Call.TheVariants.{Offer, Seal, Send, Resend, Arrive, Hear, Deliver, Acknowledge, LoseOutward, LoseBack, Tick, Round}
use Rattle.promise.specs.declared.call.Turn.{Turn}
use Rattle.path.specs.States.{State}
use Rattle.wire.specs.declared.block.Block.{Ghosts}
use Rattle.refusal.specs.declared.refusals.Refusal.{Refusal}

-- what a call answers: a reply where it is accepted, else why it is refused
abbrev pub Answer : Type 0
Answer = Result Reply Refusal

abbrev pub numbered : Result ℕ Refusal → Answer
numbered (Ok n) = Ok (Number n)
numbered (Err r) = Err r

abbrev pub taken : Result (Option ℕ) Refusal → Answer
taken (Ok (Some n)) = Ok (Number n)
taken (Ok None) = Ok Ignored
taken (Err r) = Err r

abbrev pub finished : Result (Unit {0}) Refusal → Answer
finished (Ok u) = Ok Done
finished (Err r) = Err r

-- the calls of some turns, without their answers
abbrev pub calls_of : {B : Type 0} → List (Turn B) → List (Call B)
calls_of [] = []
calls_of (t ∷ ts) = t.call ∷ calls_of ts

module _ {B : Type 0} (b : Ghosts B) where
  abbrev pub rounded_events : (s : State B) (r : Result ℕ Refusal) (s' : State B) → Rounded b s r s' → List (Event B)
  rounded_events s (Ok n) s' d = round_events d.1
  rounded_events s (Err r) s' d = []

  -- one event, from state to state
  abbrev pub Alone : State B → Event B → List (Event B) → State B → Type 0
  Alone s e es s' = (es ≡ e ∷ []) × Step b s e s'

  -- a call with its answer and its events, the latest first, from state to state
  abbrev pub Turned : State B → Call B → Answer → List (Event B) → State B → Type 0
  Turned s (Offer x) a es s' = (r : Result ℕ Refusal) × (a ≡ numbered r) × Alone s (event.offer x r) es s'
  Turned s Seal a es s' = (r : Result ℕ Refusal) × (a ≡ numbered r) × Alone s (event.seal r) es s'
  Turned s Send a es s' = (r : Result ℕ Refusal) × (a ≡ numbered r) × Alone s (event.send r) es s'
  Turned s (Resend j) a es s' = (r : Result ℕ Refusal) × (a ≡ numbered r) × Alone s (event.resend j r) es s'
  Turned s (Arrive place) a es s' = (r : Result (Option ℕ) Refusal) × (a ≡ taken r) × Alone s (event.arrive place r) es s'
  Turned s (Hear place) a es s' = (r : Result ℕ Refusal) × (a ≡ numbered r) × Alone s (event.hear place r) es s'
  Turned s Deliver a es s' = (r : Result ℕ Refusal) × (a ≡ numbered r) × Alone s (event.deliver r) es s'
  Turned s Acknowledge a es s' = (r : Result ℕ Refusal) × (a ≡ numbered r) × Alone s (event.acknowledge r) es s'
  Turned s (LoseOutward place) a es s' = (r : Result (Unit {0}) Refusal) × (a ≡ finished r) × Alone s (event.lose_out place r) es s'
  Turned s (LoseBack place) a es s' = (r : Result (Unit {0}) Refusal) × (a ≡ finished r) × Alone s (event.lose_back place r) es s'
  Turned s Tick a es s' = (r : Result (Unit {0}) Refusal) × (a ≡ finished r) × Alone s (event.tick r) es s'
  Turned s Round a es s' = (r : Result ℕ Refusal) × (a ≡ numbered r) × ((d : Rounded b s r s') × (es ≡ rounded_events s r s' d))

  pub record Turning (s : State B) (t : Turn B) (es : List (Event B)) (s' : State B) : Type 0 where
    pub turned : Turned s t.call t.answer es s'

  -- turns in their order, with their events, the latest first
  pub data Played : State B → List (Turn B) → List (Event B) → State B → Type 0 where
    none : {s : State B} → Played s [] [] s
    more : {t : Turn B} {ts : List (Turn B)} {es later : List (Event B)} {s m s' : State B} → Turning s t es m → Played m ts later s' → Played s (t ∷ ts) (later ++ es) s'

  -- turns of one call, so many
  pub data Only (c : Call B) : ℕ → List (Turn B) → Type 0 where
    none : Only c zero []
    more : {n : ℕ} {t : Turn B} {ts : List (Turn B)} → t.call ≡ c → Only c n ts → Only c (suc n) (t ∷ ts)

  -- a state on the way, with the turns and the events before it and after it
  pub record OnTheWay (first : State B) (before after : List (Turn B)) (events : List (Event B)) (last : State B) : Type 0 where
    pub state : State B
    pub early : List (Event B)
    pub late : List (Event B)
    pub so_far : Played first before early state
    pub from_there : Played state after late last
    pub joined : events ≡ late ++ early

  -- what holds of the turns played on a path just made
  pub record Replayed (first : State B) (ts : List (Turn B)) (last : State B) : Type 0 where
    pub events : List (Event B)
    pub played : Played first ts events last
    pub history : History b events last
    pub promised : Fresh b first → AtEveryMoment b (λ es s h. Promised b h) events last history
    pub all_refused : (r : Refusal) → first.ends.setting.refused ≡ Some r → AllRefused b r events last
    pub passes : (before after : List (Turn B)) → ts ≡ before ++ after → OnTheWay first before after events last
    -- where a lifetime of ticks and then one round more than there are entries not heard of is left, all comes through
    pub all_through : Fresh b first → (before ticks rounds : List (Turn B)) (w : OnTheWay first before (ticks ++ rounds) events last)
        → Only Tick w.state.ends.setting.terms.lifetime ticks → Only Round (w.state.ends.sender.ng - w.state.ends.sender.na + 1) rounds
        → BookLong w.early w.state → AllThrough w.early w.state last

  abbrev pub TurnsPromised : Type 0
  TurnsPromised = (first last : State B) (ts : List (Turn B)) (es : List (Event B)) → JustMade b first → Played first ts es last → Replayed first ts last
