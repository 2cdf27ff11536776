use Rattle.std.proofs.Common.{◌≡◌, ℕ, ◌+◌, ◌-◌, List}
use Rattle.path.specs.Rounds.{Delivers}
use Rattle.path.specs.States.{State, ends_of, state_with}
use Rattle.store.specs.Stores.{stored}
use Rattle.path.specs.declared.entry.Entry.{Entry}
use Rattle.path.proofs.path.Path.deliver_all.Given as goal

-- deliveries from here on are deliveries from the start, and as many more as were made
abbrev pub invariant-loop-delivered : goal.invariant-loop-delivered
invariant-loop-delivered g l =
    let o = g.O.Carrier in
    let k = g.K.Carrier in
    ((kept : List (Entry g.row.B.Denot)) (more all : ℕ) (s' : State g.row.B.Denot) → all ≡ l.delivered + more
    → Delivers g.B.Block more (state_with (ends_of o k l.self) kept (stored l.got) l.book) s'
    → Delivers g.B.Block all (state_with (ends_of o k l.initial.self) kept (stored l.initial.got) l.initial.book) s')
    × (l.got.places.ghost_name ≡ l.initial.got.places.ghost_name)
    × (l.delivered + l.initial.self.receiver.nd ≡ l.self.receiver.nd)

abbrev pub decreases-loop-delivered : goal.decreases-loop-delivered
decreases-loop-delivered g l = l.self.receiver.nr - l.self.receiver.nd
