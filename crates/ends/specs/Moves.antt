-- What a round sends.
use Rattle.std.specs.Prelude.{◌≡◌, ◌<◌, ◌≤◌}
use Rattle.ends.specs.Numbers.{Sends}
use Rattle.ends.specs.declared.moves.Move.{Move}
use Rattle.ends.specs.declared.moves.Move.TheVariants.{Again, First, Stop}

-- again what was sent and not heard of; else the next entry, if there is one and the window is open; else nothing
abbrev pub Moves : Move → Sends → Type 0
Moves Again s = s.na < s.ns
Moves First s = (s.ns ≡ s.na) × (s.ns < s.ng) × (1 ≤ s.sw)
Moves Stop s = (s.ns ≡ s.na) × (s.ns < s.ng → 1 ≤ s.sw → ⊥)
