use Rattle.std.proofs.Common.{refl}
use Rattle.path.proofs.path.Path.land.Goals as goal

pub returns-clause-lands : goal.returns-clause-lands
returns-clause-lands g c = λ kept book.
    record {
      there = _;
      arrives = (c.arrive.result, record { does = (c.arrive.ensures.arrived, refl, refl) });
      strikes = (c.lose_outward.result, record { does = (c.lose_outward.ensures, refl, refl, refl) });
    }
