-- How many ticks a frame lives.
use Rattle.std.specs.Prelude.{ℕ, min, max}
use Rattle.carrier.specs.declared.lifetime.Lifetime.{Lifetime}

-- a lifetime outside 1 to 65535 is taken as the nearer end
abbrev pub ticks_of : Lifetime → ℕ
ticks_of l = min 65535 (max 1 l.given)
