use Rattle.promise.proofs.Whole.{promise}
use Rattle.promise.proofs.promise_holds.Goals as goal

pub returns : goal.returns
returns g c = promise g.B.Block g.met.B.Block.back
