use Rattle.std.proofs.Common.{◌≡◌, length, take}
use Rattle.carrier.specs.Carriers.{SameBounds}
use Rattle.walk.proofs.strike_from.Given as goal

abbrev pub invariant-loop-n : goal.invariant-loop-n
invariant-loop-n g l =
    let k = g.C.Carrier in
    record {
      count : l.n ≡ length (k.list l.c);
      front : take l.place (k.list l.c) ≡ take l.place (k.list l.initial.c);
      bounds : SameBounds k.life k.room l.initial.c l.c;
    }
