-- What a tick does to the records of a shelf.
use Rattle.std.proofs.Common.{◌≡◌, ℕ, ◌+◌, ◌-◌, min, true, List, map, filter, sym, ap, ◌∙◌, arith}
use Rattle.std.proofs.lemmas.Bool.{ltb-true}
use Rattle.lists.proofs.Elements.{kept_map, map-map}
use Rattle.carrier.specs.declared.shelf.Slot.{Slot}
use Rattle.carrier.specs.Carriers.{older, under, ticked}
use Rattle.carrier.specs.Shelves.{clipped, grown, fresh}
use Rattle.carrier.proofs.Held.{held_tick}

-- a record that is still young is read one tick older
later : (life : ℕ) (x : Slot) → under life (older (clipped life x)) ≡ true → clipped life (grown life x) ≡ older (clipped life x)
later life x e =
    let lt = ltb-true (min x.age (life - 1) + 1) life e in
    let n : min (min x.age (life - 1) + 1) (life - 1) ≡ min x.age (life - 1) + 1 = omega arith in
    ap (λ (m : ℕ). (x.frame, m)) n

-- all records were raised, and then those that were still young were kept
pub raised_kept : (life : ℕ) (l : List Slot) → map (clipped life) (filter (fresh life) (map (grown life) l)) ≡ ticked life (map (clipped life) l)
raised_kept life l =
    let young = λ (x : Slot). under life (older (clipped life x)) in
    ap (map (clipped life)) (kept_map (grown life) (fresh life) l)
    ∙ sym (map-map (grown life) (clipped life) (filter young l))
    ∙ held_tick (clipped life) l life (λ x. clipped life (grown life x)) (later life)
