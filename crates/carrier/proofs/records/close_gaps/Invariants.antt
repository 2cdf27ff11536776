use Rattle.std.proofs.Common.{◌≤◌}
use Rattle.std.proofs.lemmas.List.Filters.{FiltersInPlace}
use Rattle.carrier.proofs.records.close_gaps.Given as goal

abbrev pub invariant-loop-i : goal.invariant-loop-i
invariant-loop-i g l = record {
  behind : l.left ≤ l.i;
  list : FiltersInPlace (g.S.Stays.kept l.by) l.initial.lent l.lent l.left l.i;
}
