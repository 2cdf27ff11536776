-- What a list of records in a lent slice means, at every value.
use Rattle.std.specs.Prelude.{◌≡◌, ℕ, ◌<◌, ◌≤◌, min, List, [], ◌∷◌, ◌++◌, map, length, take, Ok, Err, Result}
use Rattle.std.specs.List.{remove}
use Rattle.std.proofs.Common.{arith, length-take}
use Rattle.std.proofs.lemmas.List.{length-map}
use Rattle.std.proofs.ByRecursion.{All-map}
use Rattle.lists.proofs.Elements.{all_each}
use Rattle.refusal.specs.declared.refusals.Refusal.{Refusal}
use Rattle.refusal.specs.declared.refusals.Refusal.TheVariants.{CarrierFull, NoSuchPlace}
use Rattle.carrier.specs.Carriers.{Aged, Lawful}
use Rattle.carrier.specs.declared.records.Records.{Records}

module _ {X : Type 0} where
  -- the records that fit, at most 4096
  abbrev pub records_room : Records X → ℕ
  records_room s = min 4096 (length s.lent.now)

  -- the records in use, in order
  abbrev pub records_list : Records X → List X
  records_list s = take (min s.used (records_room s)) s.lent.now

  -- a record joins at the end, unless there is no room
  abbrev pub Pushed : ℕ → X → List X → Result (Unit {0}) Refusal → List X → Type 0
  Pushed room x l (Ok u) l' = (length l < room) × (l' ≡ l ++ x ∷ [])
  Pushed room x l (Err e) l' = (room ≤ length l) × (e ≡ CarrierFull) × (l' ≡ l)

  -- the record at a place is removed, if there is one
  abbrev pub Removed : ℕ → List X → Result (Unit {0}) Refusal → List X → Type 0
  Removed place l (Ok u) l' = (place < length l) × (l' ≡ remove l place)
  Removed place l (Err e) l' = (length l ≤ place) × (e ≡ NoSuchPlace) × (l' ≡ l)

-- records that are read with ages below a lifetime of 1 to 65535 make a lawful carrier
pub records_lawful : {C X : Type 0} (records : C → Records X) (read : C → X → Aged) (life : C → ℕ) → ((c : C) (x : X) → (read c x).1 < life c) → ((c : C) → 1 ≤ life c) → ((c : C) → life c ≤ 65535) → Lawful C (λ c. map (read c) (records_list (records c))) life (λ c. records_room (records c))
records_lawful records read life young alive brief = record {
  young = λ c. All-map (λ a. a.1 < life c) (read c) (records_list (records c)) (all_each (λ x. (read c x).1 < life c) (young c) (records_list (records c)));
  fits = λ c. simp (length-map, length-take) (omega arith);
  alive = alive;
  brief = brief;
  small = λ c. omega arith;
}
