use Rattle.promise.proofs.Example.{works}
use Rattle.promise.proofs.history_works.Goals as goal

pub returns : goal.returns
returns g c = works g.B.Block g.met.B.Block.back
