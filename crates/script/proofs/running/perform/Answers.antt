use Rattle.std.proofs.Common.{min, max, replicate, None, refl, ap, ◌∙◌, rules}
use Rattle.carrier.specs.Shelves.{shelf_list, shelf_life, shelf_room, shelf_laws}
use Rattle.carrier.specs.declared.carrier.Carrier.{Ghosts}
use Rattle.carrier.specs.declared.shelf.Shelf.{Shelf}
use Rattle.path.specs.declared.entry.Entry.TheVariants.{EndMark}
use Rattle.script.proofs.Starting.{ran_from}
use Rattle.script.proofs.running.perform.Goals as goal

abbrev shelves : Ghosts Shelf
shelves = record { list = shelf_list; life = shelf_life; room = shelf_room; laws = shelf_laws }

pub returns : goal.returns
returns c =
    ran_from shelves shelves c.args.terms c.new-out.result c.new-home.result _ _ _ _ _ _ _ _ _ _ _
    c.new-out.ensures.list c.new-home.ensures.list
    (c.new-out.ensures.life ∙ ap (λ n. min 65535 (max 1 n)) c.lifetime.ensures) (c.new-home.ensures.life ∙ ap (λ n. min 65535 (max 1 n)) c.lifetime-2.ensures)
    c.new-out.ensures.room c.new-home.ensures.room
    (c.deref_mut.ensures.value ∙ (c.in_ok-kept.ensures.items_if_clones_equal (λ y k. search rules) ∙ ap (λ n. replicate n EndMark) c.send_window.ensures))
    (c.deref_mut-2.ensures.value ∙ (c.in_ok-got.ensures.items_if_clones_equal (λ y k. search rules) ∙ ap (λ n. replicate n None) c.receive_window.ensures))
    refl c.replay-outcome.ensures
