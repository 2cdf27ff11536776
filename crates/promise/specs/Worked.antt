-- One history worked out: a block goes through, with a send that is refused and a frame that is ignored on the way.
use Rattle.std.specs.Prelude.{◌≡◌, [], ◌∷◌, Some, None, Ok, Err}
use Rattle.path.specs.Events.{History, offer, send, arrive, hear, deliver, acknowledge}
use Rattle.path.specs.States.{State}
use Rattle.path.specs.Steps.{outcome_of}
use Rattle.ends.specs.declared.outcome.Outcome.TheVariants.{Unsure}
use Rattle.wire.specs.declared.block.Block.{Ghosts}
use Rattle.refusal.specs.declared.refusals.Refusal.TheVariants.{NothingToSend}

-- both windows 2, lifetime 3, gap 2, six numbers, and a book of one place that held y
pub record Worked {B : Type 0} (b : Ghosts B) (x y : B) : Type 0 where
  pub last : State B
  pub history : History b (hear 0 (Ok 1) ∷ acknowledge (Ok 1) ∷ deliver (Ok 0) ∷ arrive 0 (Ok None) ∷ arrive 0 (Ok (Some 0)) ∷ send (Err NothingToSend) ∷ send (Ok 0) ∷ offer x (Ok 0) ∷ []) last
  pub book : last.book ≡ x ∷ []
  pub outcome : outcome_of last.ends ≡ Unsure 1 1 1

abbrev pub Works : {B : Type 0} → Ghosts B → Type 0
Works {B} b = (x y : B) → b.fits x → Worked b x y
