use Rattle.std.proofs.Common.{◌≡◌, ◌+◌, length, filter}
use Rattle.carrier.specs.Carriers.{under}
use Rattle.walk.specs.Frames.{frames_left}
use Rattle.walk.proofs.count_each_young.Given as goal

abbrev pub invariant-loop-age : goal.invariant-loop-age
invariant-loop-age g l = l.young + length (filter (under l.life) (frames_left g.C.Carrier l.age-iterator)) ≡ length (filter (under l.life) (g.C.Carrier.list l.c))
