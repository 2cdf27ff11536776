use Rattle.std.proofs.Common.{suc, arith}
use Rattle.path.proofs.Rolls.{tick_more}
use Rattle.path.specs.Rounds.Ticks.{none as no-tick}
use Rattle.path.specs.States.{ends_of, state_with}
use Rattle.path.proofs.path.Path.wait.Goals as goal

pub loop-i-preserved : goal.loop-i-preserved
loop-i-preserved g c = λ kept got book more all s' e rest.
    c.loop-i.invariant kept got book (suc more) all s' (omega (arith, e))
    (tick_more g.B.Block kept (ends_of g.O.Carrier g.K.Carrier c.loop-i.self) (ends_of g.O.Carrier g.K.Carrier c.tick.new.self) got book c.tick.result c.tick.ensures more s' rest)

pub returns : goal.returns
returns g c = λ kept got book.
    c.loop-i.invariant kept got book 0 c.args.self.now.sender.terms.gap (state_with (ends_of g.O.Carrier g.K.Carrier c.loop-i.self) kept got book) (omega (arith, c.gap-i-end.ensures, c.loop-i-test.false, c.loop-i.auto._i-end)) no-tick
