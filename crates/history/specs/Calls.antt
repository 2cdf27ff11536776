-- One call of a list, made by its own rule.
use Rattle.std.specs.Prelude.{◌≡◌, ℕ, Option, Result}
use Rattle.path.specs.Events.{Step, offer, seal, send, resend, arrive, hear, deliver, acknowledge, lose_out, lose_back, tick}
use Rattle.path.specs.Rounds.{Rounded}
use Rattle.path.specs.States.{State}
use Rattle.promise.specs.Turns.{Answer, numbered, taken, finished}
use Rattle.promise.specs.declared.call.Call.{Call}
use Rattle.promise.specs.declared.call.Call.TheVariants.{Offer, Seal, Send, Resend, Arrive, Hear, Deliver, Acknowledge, LoseOutward, LoseBack, Tick, Round}
use Rattle.wire.specs.declared.block.Block.{Ghosts}
use Rattle.refusal.specs.declared.refusals.Refusal.{Refusal}

module _ {B : Type 0} (b : Ghosts B) where
  -- a call, its answer, and the states before and after it
  abbrev pub Makes : State B → Call B → Answer → State B → Type 0
  Makes s (Offer x) a s' = (r : Result ℕ Refusal) × (a ≡ numbered r) × Step b s (offer x r) s'
  Makes s Seal a s' = (r : Result ℕ Refusal) × (a ≡ numbered r) × Step b s (seal r) s'
  Makes s Send a s' = (r : Result ℕ Refusal) × (a ≡ numbered r) × Step b s (send r) s'
  Makes s (Resend j) a s' = (r : Result ℕ Refusal) × (a ≡ numbered r) × Step b s (resend j r) s'
  Makes s (Arrive place) a s' = (r : Result (Option ℕ) Refusal) × (a ≡ taken r) × Step b s (arrive place r) s'
  Makes s (Hear place) a s' = (r : Result ℕ Refusal) × (a ≡ numbered r) × Step b s (hear place r) s'
  Makes s Deliver a s' = (r : Result ℕ Refusal) × (a ≡ numbered r) × Step b s (deliver r) s'
  Makes s Acknowledge a s' = (r : Result ℕ Refusal) × (a ≡ numbered r) × Step b s (acknowledge r) s'
  Makes s (LoseOutward place) a s' = (r : Result (Unit {0}) Refusal) × (a ≡ finished r) × Step b s (lose_out place r) s'
  Makes s (LoseBack place) a s' = (r : Result (Unit {0}) Refusal) × (a ≡ finished r) × Step b s (lose_back place r) s'
  Makes s Tick a s' = (r : Result (Unit {0}) Refusal) × (a ≡ finished r) × Step b s (tick r) s'
  Makes s Round a s' = (r : Result ℕ Refusal) × (a ≡ numbered r) × Rounded b s r s'
