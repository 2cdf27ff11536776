use Rattle.std.proofs.Common.{◌≡◌, ◌++◌, map, take, drop}
use Rattle.carrier.proofs.records.replace_each.Given as goal

abbrev pub invariant-loop-item : goal.invariant-loop-item
invariant-loop-item g l = (f : g.row.T.Denot → g.row.T.Denot) → ((x y : g.row.T.Denot) → goal.F-post g l.f x y → y ≡ f x) → l.item-items ≡ map f (take l.item-index l.initial.item-items) ++ drop l.item-index l.initial.item-items
