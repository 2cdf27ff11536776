use Rattle.std.proofs.Common.{suc, ◌∙◌, arith}
use Rattle.path.proofs.Rolls.{deliver_more, deliver_stop, delivered_nd}
use Rattle.path.specs.States.{ends_of, state_with}
use Rattle.store.specs.Stores.{stored}
use Rattle.path.proofs.path.Path.deliver_all.Goals as goal

pub loop-delivered-preserved : goal.loop-delivered-preserved
loop-delivered-preserved g c =
    let e = ends_of g.O.Carrier g.K.Carrier c.loop-delivered.self in
    let e' = ends_of g.O.Carrier g.K.Carrier c.deliver.new.self in
    let told = c.in-Ok.ensures.delivered in
    let inv = c.loop-delivered.invariant in (
      λ kept more all s' count rest.
          inv.0 kept (suc more) all s' (omega (arith, count))
          (deliver_more g.B.Block kept e e' (stored c.loop-delivered.got) (stored c.deliver.new.got) c.loop-delivered.book c.deliver.new.book _ told more s' rest),
      c.deliver.ensures.lender ∙ inv.1,
      omega (arith, delivered_nd e e' (stored c.loop-delivered.got) (stored c.deliver.new.got) c.loop-delivered.book c.deliver.new.book _ told, inv.2),
    )

pub returns-clause-delivers : goal.returns-clause-delivers
returns-clause-delivers g c =
    let e = ends_of g.O.Carrier g.K.Carrier c.loop-delivered.self in
    let e' = ends_of g.O.Carrier g.K.Carrier c.deliver.new.self in
    let told = c.in_default.ensures.delivered in
    λ kept.
    c.loop-delivered.invariant.0 kept 0 c.loop-delivered.delivered (state_with e' kept (stored c.deliver.new.got) c.deliver.new.book) (omega arith)
    (deliver_stop g.B.Block kept e e' (stored c.loop-delivered.got) (stored c.deliver.new.got) c.loop-delivered.book c.deliver.new.book _ told)
