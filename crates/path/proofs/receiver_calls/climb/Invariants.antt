use Rattle.std.proofs.Common.{◌≡◌, ℕ, ◌<◌, ◌≤◌, true, is_some, None}
use Rattle.store.specs.Stores.{stored, at_number}
use Rattle.path.proofs.receiver_calls.climb.Given as goal

abbrev pub invariant-loop-number : goal.invariant-loop-number
invariant-loop-number g l = (j : ℕ) → l.from ≤ j → j < l.number → is_some (at_number None (stored l.got) j) ≡ true
