-- One run of a list of calls on a path, from its making to its end.
use Rattle.std.specs.Prelude.{◌≡◌, List, length, Option}
use Rattle.carrier.specs.Carriers.{Aged}
use Rattle.carrier.specs.declared.carrier.Carrier.{Ghosts as Carries}
use Rattle.path.specs.Events.{Event}
use Rattle.path.specs.Makings.{bar_of}
use Rattle.path.specs.States.{State, Ends, state_with, setting_with, new_ends}
use Rattle.path.specs.Steps.{emptied, outcome_of}
use Rattle.path.specs.declared.entry.Entry.{Entry}
use Rattle.ends.specs.declared.outcome.Outcome.{Outcome}
use Rattle.promise.specs.Promise.{Promise}
use Rattle.promise.specs.Turns.{Played, Replayed, calls_of}
use Rattle.promise.specs.declared.call.Turn.{Turn}
use Rattle.wire.specs.declared.block.Block.{Ghosts}
use Rattle.terms.specs.declared.agreed.Terms.{Terms}

module _ {O K B : Type 0} (o : Carries O) (k : Carries K) where
  -- a path just made of terms, two carriers and what is lent to it; accepted or refused
  abbrev pub first_state : Terms → O → K → List (Entry B) → List (Option (Entry B)) → List B → State B
  first_state t out back kept got book =
      state_with (new_ends (setting_with o k t (bar_of o k t out back (length got)) out back) (o.list out) (k.list back)) kept (emptied (bar_of o k t out back (length got)) got) book

module _ {B : Type 0} (b : Ghosts B) where
  -- calls made one after the other
  pub record Plays (s : State B) (ts : List (Turn B)) (s' : State B) : Type 0 where
    pub events : List (Event B)
    pub played : Played b s ts events s'

  -- the calls of the list with their answers lead from the path's making to its end, and keep the whole promise
  pub record Run (first : State B) (asked turns : List (Turn B)) (outcome : Outcome) (out back : List Aged) (kept : List (Entry B)) (got : List (Option (Entry B))) (book : List B) : Type 0 where
    pub ends : Ends
    pub same_calls : calls_of turns ≡ calls_of asked
    -- the promise for every history, and for this one at every moment
    pub promise : Promise b
    pub replayed : Replayed b first turns (state_with ends kept got book)
    -- the outcome and what is given back are the last state's
    pub outcome_told : outcome ≡ outcome_of ends
    pub out_given : out ≡ ends.out
    pub back_given : back ≡ ends.back
