-- What a short means, from what the carrier below means.
use Rattle.std.specs.Prelude.{ℕ, min, max, List, filter}
use Rattle.std.proofs.Common.{arith}
use Rattle.lists.proofs.Kept.{length-kept}
use Rattle.carrier.specs.declared.carrier.Carrier.{Ghosts}
use Rattle.carrier.specs.Carriers.{Aged, Lawful, under}
use Rattle.carrier.proofs.Calls.{all_under}
use Rattle.short.specs.declared.Short.{Short}

module _ {C : Type 0} (c : Ghosts C) where
  -- the lower of its own lifetime, at least 1, and that below
  abbrev pub short_life : Short C → ℕ
  short_life s = min (max 1 s.own) (c.life s.below)

  -- the frames below that are younger than that
  abbrev pub short_list : Short C → List Aged
  short_list s = filter (under (short_life s)) (c.list s.below)

  -- the capacity below
  abbrev pub short_room : Short C → ℕ
  short_room s = c.room s.below

  pub short_laws : Lawful (Short C) short_list short_life short_room
  short_laws = record {
    young = λ s. all_under (short_life s) (c.list s.below);
    fits = λ s. omega (arith, c.laws.fits s.below, length-kept (under (short_life s)) (c.list s.below));
    alive = λ s. omega (arith, c.laws.alive s.below);
    brief = λ s. omega (arith, c.laws.brief s.below);
    small = λ s. c.laws.small s.below;
  }
