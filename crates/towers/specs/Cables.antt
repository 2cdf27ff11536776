-- What a cable means: one frame at age 0, or none.
use Rattle.std.specs.Prelude.{ℕ, ◌<◌, ◌≤◌, List, [], ◌∷◌, length, Some, None, Option}
use Rattle.std.proofs.Common.{arith}
use Rattle.std.specs.List.{AllByRecursion}
use Rattle.wire.specs.declared.frame.Frame.{Frame}
use Rattle.carrier.specs.Carriers.{Aged, Lawful}
use Rattle.towers.specs.declared.cable.Cable.{Cable}

-- a frame, if there is one, at age 0
abbrev pub alone : Option Frame → List Aged
alone None = []
alone (Some f) = (f, 0) ∷ []

-- what the cable holds
abbrev pub cable_list : Cable → List Aged
cable_list c = alone c.held

-- a frame is gone at the next tick
abbrev pub cable_life : Cable → ℕ
cable_life c = 1

-- no second frame joins the first
abbrev pub cable_room : Cable → ℕ
cable_room c = 1

young : (o : Option Frame) → AllByRecursion (λ a. a.1 < 1) (alone o)
young None = tt
young (Some f) = (omega arith, tt)

fits : (o : Option Frame) → length (alone o) ≤ 1
fits None = omega arith
fits (Some f) = omega arith

pub cable_laws : Lawful Cable cable_list cable_life cable_room
cable_laws = record {
  young = λ c. young c.held;
  fits = λ c. fits c.held;
  alive = λ c. omega arith;
  brief = λ c. omega arith;
  small = λ c. omega arith;
}
