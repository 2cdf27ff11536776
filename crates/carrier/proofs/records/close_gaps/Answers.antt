use Rattle.std.proofs.Common.{get_or, sym, ◌∙◌, arith}
use Rattle.std.proofs.lemmas.List.{get_or_default}
use Rattle.std.proofs.lemmas.List.Filters.{FiltersInPlace-more_no, FiltersInPlace-more_set, FiltersInPlace-more_here}
use Rattle.carrier.proofs.records.close_gaps.Goals as goal
use Rattle.carrier.proofs.records.close_gaps.Goals.{then-stays, else-stays, then-left-i, else-left-i}

pub loop-i-preserved : goal.loop-i-preserved
loop-i-preserved g c =
    let ys = c.loop-i.lent in
    let i = c.loop-i.i in
    let d = c.index-lent-i.result in
    let read = get_or_default ys i d (get_or ys i d) (omega arith) in
    elim c.if-stays.branch [
      | then-stays w ↦
          elim w.if-left-i.branch [
            | then-left-i v ↦ record {
              behind = omega arith;
              list = rw (w.lent-is, w.left-is, v.lent-is, v.index-lent-i-then-left-i.is ∙ get_or_default ys i _ d (omega arith)) (FiltersInPlace-more_set c.loop-i.invariant.list (omega arith) (sym w.if-stays.ensures) read);
            }
            | else-left-i v ↦ record {
              behind = omega arith;
              list = rw (w.lent-is, w.left-is, v.lent-is) (FiltersInPlace-more_here c.loop-i.invariant.list (omega arith) (sym w.if-stays.ensures) read (omega arith));
            }
          ]
      | else-stays w ↦ record {
        behind = omega arith;
        list = rw (w.lent-is, w.left-is) (FiltersInPlace-more_no c.loop-i.invariant.list (omega arith) (sym w.if-stays.ensures) read);
      }
    ]
