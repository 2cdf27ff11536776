use Rattle.std.proofs.Common.{◌≡◌, ◌≤◌, drop, filter}
use Rattle.carrier.specs.Carriers.{under}
use Rattle.walk.specs.Frames.{frames_left}
use Rattle.walk.proofs.show_each_young.Given as goal

abbrev pub invariant-loop-frame : goal.invariant-loop-frame
invariant-loop-frame g l = (filter (under l.life) (frames_left g.C.Carrier l.frame-iterator) ≡ drop l.young (filter (under l.life) (g.C.Carrier.list l.c))) × (l.young ≤ l.place)
