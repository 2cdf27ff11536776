use Rattle.std.proofs.Common.{map, filter, ap, ◌∙◌, rules}
use Rattle.carrier.specs.Records.{records_list}
use Rattle.carrier.specs.Shelves.{clipped, grown, fresh, shelf_life}
use Rattle.carrier.proofs.Shelved.{raised_kept}
use Rattle.carrier.proofs.shelf.ShelfCarrier.tick.Goals as goal

pub returns-clause-ticked : goal.returns-clause-ticked
returns-clause-ticked c =
    let s = c.args.self.now in
    let life = shelf_life s in
    let raised = c.update.ensures.list (grown life) (λ x y h. search rules) in
    ap (map (clipped life)) (c.retain.ensures.list ∙ ap (filter (fresh life)) raised) ∙ raised_kept life (records_list s.slots)
