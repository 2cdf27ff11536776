-- What a quota means, from what the carrier below means.
use Rattle.std.specs.Prelude.{ℕ, ◌<◌, min, List, take}
use Rattle.std.proofs.Common.{arith, length-take}
use Rattle.std.proofs.ByRecursion.{All-take}
use Rattle.carrier.specs.declared.carrier.Carrier.{Ghosts}
use Rattle.carrier.specs.Carriers.{Aged, Lawful}
use Rattle.quota.specs.declared.Quota.{Quota}

module _ {C : Type 0} (c : Ghosts C) where
  -- the first frames below, as many as the limit lets stand
  abbrev pub quota_list : Quota C → List Aged
  quota_list q = take q.limit (c.list q.below)

  -- the lifetime below
  abbrev pub quota_life : Quota C → ℕ
  quota_life q = c.life q.below

  -- the lower of the limit and the capacity below
  abbrev pub quota_room : Quota C → ℕ
  quota_room q = min q.limit (c.room q.below)

  pub quota_laws : Lawful (Quota C) quota_list quota_life quota_room
  quota_laws = record {
    young = λ q. All-take (λ a. a.1 < c.life q.below) q.limit (c.list q.below) (c.laws.young q.below);
    fits = λ q. simp length-take (omega (arith, c.laws.fits q.below));
    alive = λ q. c.laws.alive q.below;
    brief = λ q. c.laws.brief q.below;
    small = λ q. omega (arith, c.laws.small q.below);
  }
