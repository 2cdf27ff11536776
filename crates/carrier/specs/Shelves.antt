-- What a shelf means, at every value.
use Rattle.std.specs.Prelude.{ℕ, ◌+◌, ◌-◌, min, Bool, List, map, nat_lt}
use Rattle.std.proofs.Common.{arith}
use Rattle.wire.specs.declared.frame.Frame.{Frame}
use Rattle.carrier.specs.declared.shelf.Slot.{Slot}
use Rattle.carrier.specs.declared.shelf.Shelf.{Shelf}
use Rattle.carrier.specs.Carriers.{Aged, Lawful}
use Rattle.carrier.specs.Lifetimes.{ticks_of}
use Rattle.carrier.specs.Records.{records_list, records_room, records_lawful}

-- a record of a frame and an age
abbrev pub slot : Frame → ℕ → Slot
slot f n = record { frame = f; age = n }

-- what a record holds, its age kept below the lifetime
abbrev pub clipped : ℕ → Slot → Aged
clipped life x = (x.frame, min x.age (life - 1))

-- the record one tick later
abbrev pub grown : ℕ → Slot → Slot
grown life x = slot x.frame (min x.age (life - 1) + 1)

-- the record's age has not reached the lifetime
abbrev pub fresh : ℕ → Slot → Bool
fresh life x = nat_lt x.age life

abbrev pub shelf_life : Shelf → ℕ
shelf_life s = ticks_of s.life

-- the records that fit, at most 4096
abbrev pub shelf_room : Shelf → ℕ
shelf_room s = records_room s.slots

-- the records in use, in order
abbrev pub shelf_list : Shelf → List Aged
shelf_list s = map (clipped (shelf_life s)) (records_list s.slots)

pub shelf_laws : Lawful Shelf shelf_list shelf_life shelf_room
shelf_laws = records_lawful (λ s. s.slots) (λ s. clipped (shelf_life s)) shelf_life (λ s x. omega arith) (λ s. omega arith) (λ s. omega arith)
