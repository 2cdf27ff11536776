use Rattle.std.proofs.Common.{◌≡◌, ◌≤◌, length, drop, filter}
use Rattle.carrier.specs.Carriers.{under}
use Rattle.carrier.specs.Carriers.{SameBounds}
use Rattle.walk.proofs.strike_old.Given as goal

abbrev pub invariant-loop-n : goal.invariant-loop-n
invariant-loop-n g l =
    let k = g.C.Carrier in
    record {
      below : l.n ≤ length (k.list l.c);
      same : filter (under l.life) (k.list l.c) ≡ filter (under l.life) (k.list l.initial.c);
      clean : filter (under l.life) (drop l.n (k.list l.c)) ≡ drop l.n (k.list l.c);
      bounds : SameBounds k.life k.room l.initial.c l.c;
    }
