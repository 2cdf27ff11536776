use Rattle.std.proofs.Common.{◌≡◌, ℕ, ◌+◌, List, Option}
use Rattle.path.specs.Rounds.{Ticks}
use Rattle.path.specs.States.{State, ends_of, state_with}
use Rattle.path.specs.declared.entry.Entry.{Entry}
use Rattle.path.proofs.path.Path.wait.Given as goal

-- ticks from here on are ticks from the start, and as many more as have passed
abbrev pub invariant-loop-i : goal.invariant-loop-i
invariant-loop-i g l =
    let o = g.O.Carrier in
    let k = g.K.Carrier in
    (kept : List (Entry g.row.B.Denot)) (got : List (Option (Entry g.row.B.Denot))) (book : List g.row.B.Denot) (more all : ℕ) (s' : State g.row.B.Denot) → all ≡ l._i + more
    → Ticks g.B.Block more (state_with (ends_of o k l.self) kept got book) s'
    → Ticks g.B.Block all (state_with (ends_of o k l.initial.self) kept got book) s'
