use Rattle.std.proofs.Common.{rules}
use Rattle.wire.proofs.Order.{first_fault}
use Rattle.wire.proofs.end.End.read.Goals as goal

pub returns : goal.returns
returns g c =
    record {
      value = c.taken.ensures.value;
      again = c.taken.ensures.again;
      first = first_fault c.args.self g.B.Block.reads c.args.frame g.met.B.Block.refuses (search rules) c.taken.result c.taken.ensures.value;
    }
