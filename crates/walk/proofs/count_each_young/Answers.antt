use Rattle.std.proofs.Common.{arith}
use Rattle.lists.proofs.Kept.{length-kept}
use Rattle.carrier.specs.Carriers.{under}
use Rattle.walk.proofs.count_each_young.Goals as goal

pub overflow_add-young : goal.overflow_add-young
overflow_add-young g c =
    let l = g.C.Carrier.list c.args.c.now in
    omega (arith, c.loop-age.invariant, length-kept (under c.args.life) l, g.C.Carrier.laws.fits c.args.c.now, g.C.Carrier.laws.small c.args.c.now)
