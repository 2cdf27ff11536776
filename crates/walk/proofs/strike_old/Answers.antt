use Rattle.std.proofs.Common.{arith, rules}
use Rattle.std.proofs.lemmas.Grind.{common_steps}
use Rattle.walk.proofs.Youngs.{old_removed, rest_removed}
use Rattle.walk.proofs.strike_old.Goals as goal

pub loop-n-preserved-in-loop-n : goal.loop-n-preserved-in-loop-n
loop-n-preserved-in-loop-n g c = record {
  below = grind (arith, common_steps);
  same = grind (arith, old_removed);
  clean = grind (arith, rest_removed);
  bounds = search rules;
}
