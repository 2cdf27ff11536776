use Rattle.std.proofs.Common.{◌≡◌, take}
use Rattle.history.specs.Runs.{Plays}
use Rattle.promise.specs.Turns.{calls_of}
use Rattle.path.specs.States.{state_of}
use Rattle.history.proofs.playing.play.Given as goal

abbrev pub invariant-loop-turn : goal.invariant-loop-turn
invariant-loop-turn g l =
    let o = g.O.Carrier in
    let k = g.K.Carrier in
    Plays g.B.Block (state_of o k l.initial.path l.initial.kept l.initial.got l.initial.book) (take l.turn-index l.turns) (state_of o k l.path l.kept l.got l.book)
    × (calls_of l.turns ≡ calls_of l.initial.turns)
    × (l.kept.places.ghost_name ≡ l.initial.kept.places.ghost_name)
    × (l.got.places.ghost_name ≡ l.initial.got.places.ghost_name)
