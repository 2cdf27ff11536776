use Rattle.std.proofs.Common.{rules}
use Rattle.store.specs.Stores.{stored}
use Rattle.path.proofs.path.Path.round.Goals as goal

pub returns-clause-rounded : goal.returns-clause-rounded
returns-clause-rounded g c =
    (search rules, record { half = _; opens = c.open-delivered.ensures.opens (stored c.args.kept.now); closes = c.close.ensures.closes _ })
