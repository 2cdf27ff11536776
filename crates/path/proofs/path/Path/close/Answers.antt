use Rattle.std.proofs.Common.{refl}
use Rattle.path.specs.Rounds.Closes.{again, first, stop}
use Rattle.store.specs.Stores.{stored}
use Rattle.path.proofs.path.Path.close.Goals as goal

pub returns-in-Again-clause-closes : goal.returns-in-Again-clause-closes
returns-in-Again-clause-closes g c = λ book.
    again c.in-Again.ensures (c.resend.result, record { does = (c.resend.ensures.resent, refl, refl, refl) }) (c.land.ensures.lands (stored c.args.kept.now) book)

pub returns-in-First-clause-closes : goal.returns-in-First-clause-closes
returns-in-First-clause-closes g c =
    let due = c.in-First.ensures in
    λ book.
    first due.0 due.1 due.2 (c.wait.ensures (stored c.args.kept.now) (stored c.args.got.now) book)
    (c.send.result, record { does = (c.send.ensures.sent, refl, refl, refl) }) (c.land-in-First.ensures.lands (stored c.args.kept.now) book)

pub returns-in-Stop-clause-closes : goal.returns-in-Stop-clause-closes
returns-in-Stop-clause-closes g c = let due = c.in-Stop.ensures in λ book. stop due.0 due.1
