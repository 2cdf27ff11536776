-- What a walk over a carrier still has before it.
use Rattle.std.specs.Prelude.{List, drop}
use Rattle.carrier.specs.declared.carrier.Carrier.{Ghosts}
use Rattle.carrier.specs.Carriers.{Aged}
use Rattle.walk.specs.declared.Frames.{Frames}

-- the frames from the next place on
abbrev pub frames_left : {C : Type 0} (k : Ghosts C) → Frames C k → List Aged
frames_left k f = drop f.next (k.list f.carrier.now)
