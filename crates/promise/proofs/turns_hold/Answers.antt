use Rattle.promise.proofs.Playing.{turns_promised}
use Rattle.promise.proofs.Whole.{promise}
use Rattle.promise.proofs.turns_hold.Goals as goal

pub returns : goal.returns
returns g c = turns_promised g.B.Block (promise g.B.Block g.met.B.Block.back)
