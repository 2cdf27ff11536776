use Rattle.std.proofs.Common.{refl}
use Rattle.path.proofs.path.Path.open.Goals as goal

pub returns-clause-opens : goal.returns-clause-opens
returns-clause-opens g c = λ kept.
    record {
      stored = _;
      told = _;
      known = _;
      delivers = c.deliver_all-delivered.ensures.delivers kept;
      acknowledges = (c.acknowledge.result, record { does = (c.acknowledge.ensures.acknowledged, refl, refl, refl) });
      hears = (c.hear.result, record { does = (c.hear.ensures.heard, refl, refl, refl) });
      strikes = (c.lose_back.result, record { does = (c.lose_back.ensures, refl, refl, refl) });
    }
