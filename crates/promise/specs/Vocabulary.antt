-- What a history says of an entry and of a frame, by the answers of its calls alone.
use Rattle.std.specs.Prelude.{◌≡◌, ℕ, ◌+◌, ◌<◌, ◌≤◌, ◌⊎◌, List, [], ◌∷◌, Some, None, Ok, Err, Option, Result}
use mathlib.Core.List.{Memᴰ}
use Rattle.path.specs.Events.{Event, History, offer, seal, send, resend, arrive, hear, deliver, acknowledge, lose_out, lose_back, tick, made, then}
use Rattle.path.specs.States.{State}
use Rattle.path.specs.Steps.{entry_frame, acknowledgement, room_left}
use Rattle.store.specs.Stores.{at_number}
use Rattle.path.specs.declared.entry.Entry.{Entry}
use Rattle.path.specs.declared.entry.Entry.TheVariants.{Block, EndMark}
use Rattle.wire.specs.declared.block.Block.{Ghosts}
use Rattle.wire.specs.declared.frame.Frame.{Frame}
use Rattle.refusal.specs.declared.refusals.Refusal.{Refusal}

-- the refusal that an answer gives, if it gives one
abbrev pub refusal : {R : Type 0} → Result R Refusal → Option Refusal
refusal (Ok r) = None
refusal (Err x) = Some x

abbrev pub number : Result ℕ Refusal → ℕ
number (Ok n) = n
number (Err x) = 0

abbrev pub one_if_done : Result (Unit {0}) Refusal → ℕ
one_if_done (Ok u) = 1
one_if_done (Err x) = 0

module _ {B : Type 0} where
  abbrev pub refused : Event B → Option Refusal
  refused (offer x r) = refusal r
  refused (seal r) = refusal r
  refused (send r) = refusal r
  refused (resend j r) = refusal r
  refused (arrive place r) = refusal r
  refused (hear place r) = refusal r
  refused (deliver r) = refusal r
  refused (acknowledge r) = refusal r
  refused (lose_out place r) = refusal r
  refused (lose_back place r) = refusal r
  refused (tick r) = refusal r

  -- how far a call lets the sender hear, and how many ticks it takes
  abbrev pub rises : Event B → ℕ
  rises (offer x r) = 0
  rises (seal r) = 0
  rises (send r) = 0
  rises (resend j r) = 0
  rises (arrive place r) = 0
  rises (hear place r) = number r
  rises (deliver r) = 0
  rises (acknowledge r) = 0
  rises (lose_out place r) = 0
  rises (lose_back place r) = 0
  rises (tick r) = 0

  abbrev pub takes_ticks : Event B → ℕ
  takes_ticks (offer x r) = 0
  takes_ticks (seal r) = 0
  takes_ticks (send r) = 0
  takes_ticks (resend j r) = 0
  takes_ticks (arrive place r) = 0
  takes_ticks (hear place r) = 0
  takes_ticks (deliver r) = 0
  takes_ticks (acknowledge r) = 0
  takes_ticks (lose_out place r) = 0
  takes_ticks (lose_back place r) = 0
  takes_ticks (tick r) = one_if_done r

  -- entry j, which is x, is accepted when an offer or a seal has answered its number
  pub data Accepted (es : List (Event B)) : ℕ → Entry B → Type 0 where
    by_offer : {x : B} {j : ℕ} → Memᴰ (offer x (Ok j)) es → Accepted es j (Block x)
    by_seal : {j : ℕ} → Memᴰ (seal (Ok j)) es → Accepted es j EndMark

  -- sent when a send has, delivered when a deliver has, at the receiver when an arrive has
  abbrev pub Sent : List (Event B) → ℕ → Type 0
  Sent es j = Memᴰ (send (Ok j)) es

  abbrev pub Delivered : List (Event B) → ℕ → Type 0
  Delivered es j = Memᴰ (deliver (Ok j)) es

  abbrev pub AtReceiver : List (Event B) → ℕ → Type 0
  AtReceiver es j = (place : ℕ) × Memᴰ (arrive place (Ok (Some j))) es

  -- with every lower one
  abbrev pub InSequence : List (Event B) → ℕ → Type 0
  InSequence es j = (k : ℕ) → k ≤ j → AtReceiver es k

  -- how many entries, the lowest, were heard of
  abbrev pub heard : List (Event B) → ℕ
  heard [] = 0
  heard (e ∷ es) = heard es + rises e

-- exactly the numbers below n
abbrev pub ExactlyBelow : ℕ → (ℕ → Type 0) → Type 0
ExactlyBelow n P = ((j : ℕ) → j < n → P j) × ((j : ℕ) → P j → j < n)

module _ {B : Type 0} (b : Ghosts B) where
  -- a send or a resend that was answered n put these words into the outward carrier
  pub data PutsOut (f : Frame) (n : ℕ) (s : State B) : Event B → Type 0 where
    by_send : f ≡ entry_frame b.written s.ends.setting.terms.numbers n (at_number EndMark s.kept n) → PutsOut f n s (send (Ok n))
    by_resend : {j : ℕ} → f ≡ entry_frame b.written s.ends.setting.terms.numbers n (at_number EndMark s.kept n) → PutsOut f n s (resend j (Ok n))

  -- an acknowledge that was answered n put these words into the carrier back
  pub data PutsBack (f : Frame) (n : ℕ) (s : State B) : Event B → Type 0 where
    by_acknowledge : f ≡ acknowledgement s.ends.setting.terms.numbers n (room_left s.ends) → PutsBack f n s (acknowledge (Ok n))

  -- so many ticks ago there was such an event
  abbrev pub Ago : (State B → Event B → Type 0) → ℕ → {es : List (Event B)} {s : State B} → History b es s → Type 0
  Ago P age (made f) = ⊥
  Ago P age (then {e = e} {s = s} h d) = ((age ≡ 0) × P s e) ⊎ ((old : ℕ) × (old + takes_ticks e ≡ age) × Ago P old h)

  -- there was one, and any two such answered alike: n
  pub record Under (P : ℕ → State B → Event B → Type 0) (age n : ℕ) {es : List (Event B)} {s : State B} (h : History b es s) : Type 0 where
    pub was : Ago (P n) age h
    pub alike : (m : ℕ) → Ago (P m) age h → m ≡ n

  -- at the end of a history, and before each of its calls
  abbrev pub AtEveryMoment : ((es : List (Event B)) (s : State B) → History b es s → Type 0) → (es : List (Event B)) (s : State B) → History b es s → Type 0
  AtEveryMoment P es s (made f) = P es s (made f)
  AtEveryMoment P es s (then {es = past} {s = m} h d) = P es s (then h d) × AtEveryMoment P past m h
