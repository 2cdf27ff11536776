use Rattle.std.proofs.Common.{rules}
use Rattle.two_way.proofs.TwoWays.{put_both}
use Rattle.two_way.proofs.TwoWayCarrier.put.Goals as goal

pub returns-clause-put : goal.returns-clause-put
returns-clause-put g c = search (rules, put_both)
