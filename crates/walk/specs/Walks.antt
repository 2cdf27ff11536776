-- What a walk over a carrier leaves.
use Rattle.std.specs.Prelude.{ℕ, ◌<◌, List}
use Rattle.std.specs.List.{AllByRecursion}
use Rattle.carrier.specs.Carriers.{Aged}

-- every frame is younger than so many ticks
abbrev pub Young : ℕ → List Aged → Type 0
Young life l = AllByRecursion (λ a. a.1 < life) l
