-- Whether a path can be made.
use Rattle.std.specs.Prelude.{ℕ, Option}
use Rattle.carrier.specs.declared.carrier.Carrier.{Ghosts}
use Rattle.path.specs.Bars.{make_bar}
use Rattle.refusal.specs.declared.refusals.Refusal.{Refusal}
use Rattle.terms.specs.declared.agreed.Terms.{Terms}

module _ {O K : Type 0} (o : Ghosts O) (k : Ghosts K) where
  -- why a path cannot be made of these carriers and a receiver's store of so many places
  abbrev pub bar_of : Terms → O → K → ℕ → Option Refusal
  bar_of t out back places = make_bar t (o.life out) (o.room out) (k.life back) (k.room back) (o.list out) (k.list back) places
