-- What a call puts into the air.
use Rattle.std.specs.Prelude.{◌≡◌, ℕ, ◌<◌, ◌≤◌, List, length, Ok, Err, Result}
use Rattle.carrier.specs.Carriers.{Joined}
use Rattle.path.specs.States.{Ends}
use Rattle.path.specs.Steps.{GoesOut, with_out, with_back, acknowledgement, room_left}
use Rattle.path.specs.declared.entry.Entry.{Entry}
use Rattle.refusal.specs.declared.refusals.Refusal.{Refusal}
use Rattle.refusal.specs.declared.refusals.Refusal.TheVariants.{CarrierFull}
use Rattle.wire.specs.declared.words.Words.{Words as Pair}

-- entry j of the sender's store goes out, and nothing else changes
abbrev pub PutOut : {B : Type 0} → (B → Pair) → ℕ → Ends → List (Entry B) → Result (Unit {0}) Refusal → Ends → Type 0
PutOut written j e kept (Ok u) e' = (length e.out < e.setting.out_room) × GoesOut written j e kept e'.out × (e' ≡ with_out e e'.out)
PutOut written j e kept (Err r) e' = (e.setting.out_room ≤ length e.out) × (r ≡ CarrierFull) × (e' ≡ e)

-- an acknowledgement of nr goes back, and nothing else changes
abbrev pub PutBack : Ends → Result (Unit {0}) Refusal → Ends → Type 0
PutBack e (Ok u) e' =
    (length e.back < e.setting.back_room)
    × Joined (acknowledgement e.setting.terms.numbers e.receiver.nr (room_left e)) e.back e'.back
    × (e' ≡ with_back e e'.back)
PutBack e (Err r) e' = (e.setting.back_room ≤ length e.back) × (r ≡ CarrierFull) × (e' ≡ e)
