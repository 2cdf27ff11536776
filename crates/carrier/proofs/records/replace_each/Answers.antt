use Rattle.std.proofs.Common.{get_or, take, arith}
use Rattle.std.proofs.lemmas.List.{get_or_default}
use Rattle.std.proofs.lemmas.List.Edits.{map_over_more}
use Rattle.carrier.proofs.records.replace_each.Goals as goal

pub loop-item-preserved : goal.loop-item-preserved
loop-item-preserved g c = λ f h.
    let ys = c.loop-item.item-items in
    let i = c.loop-item.item-index in
    let x = get_or ys i c.item-item.result in
    rw (h x c.f.result c.f.ensures) (map_over_more f (take c.args.used c.args.lent.now) ys i x (omega arith) (c.loop-item.invariant f h) (get_or_default ys i c.item-item.result x (omega arith)))
