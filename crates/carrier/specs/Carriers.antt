-- What a carrier means, and what its calls do to its list.
use Rattle.std.specs.Prelude.{◌≡◌, ℕ, ◌+◌, ◌<◌, ◌≤◌, Bool, List, ◌∷◌, ◌++◌, map, length, take, drop, Ok, Err, filter, Result, nat_lt, slice_index_or}
use Rattle.std.specs.List.{remove, AllByRecursion}
use Rattle.wire.specs.Words.{zeros}
use Rattle.wire.specs.declared.frame.Frame.{Frame}
use Rattle.refusal.specs.declared.refusals.Refusal.{Refusal}
use Rattle.refusal.specs.declared.refusals.Refusal.TheVariants.{CarrierFull, NoSuchPlace}

-- a frame and its age in ticks
abbrev pub Aged : Type 0
Aged = Frame × ℕ

-- the laws of a carrier, at every value of its type
pub record Lawful (C : Type 0) (list : C → List Aged) (life room : C → ℕ) : Type 0 where
  -- every age is below the lifetime
  pub young : (c : C) → AllByRecursion (λ a. a.1 < life c) (list c)
  -- the list is never longer than the capacity
  pub fits : (c : C) → length (list c) ≤ room c
  -- the lifetime lies in 1 to 65535
  pub alive : (c : C) → 1 ≤ life c
  pub brief : (c : C) → life c ≤ 65535
  -- the capacity lies in 0 to 65535
  pub small : (c : C) → room c ≤ 65535

-- a frame joins at age 0, at a place that is left open, and the others keep their order
abbrev pub Joined : Frame → List Aged → List Aged → Type 0
Joined f l l' = (k : ℕ) × (k ≤ length l) × (l' ≡ take k l ++ (f, 0) ∷ drop k l)

-- put is refused exactly when the list has reached the capacity
abbrev pub Put : ℕ → Frame → List Aged → Result (Unit {0}) Refusal → List Aged → Type 0
Put room f l (Ok u) l' = (length l < room) × Joined f l l'
Put room f l (Err e) l' = (room ≤ length l) × (e ≡ CarrierFull) × (l' ≡ l)

-- what would stand past the end of a list
abbrev pub no_frame : Aged
no_frame = (record { head = 0; words = zeros }, 0)

-- show answers the frame and its age, and refuses a place not below the count
abbrev pub Shown : ℕ → List Aged → Result Aged Refusal → Type 0
Shown place l (Ok a) = (place < length l) × (a ≡ slice_index_or l place no_frame)
Shown place l (Err e) = (length l ≤ place) × (e ≡ NoSuchPlace)

-- strike removes one pair, and refuses a place not below the count
abbrev pub Struck : ℕ → List Aged → Result (Unit {0}) Refusal → List Aged → Type 0
Struck place l (Ok u) l' = (place < length l) × (l' ≡ remove l place)
Struck place l (Err e) l' = (length l ≤ place) × (e ≡ NoSuchPlace) × (l' ≡ l)

-- the lifetime and the capacity are as they were
pub record SameBounds {C : Type 0} (life room : C → ℕ) (old new : C) : Type 0 where
  pub same_life : life new ≡ life old
  pub same_room : room new ≡ room old

-- one tick older
abbrev pub older : Aged → Aged
older a = (a.0, a.1 + 1)

-- younger than so many ticks
abbrev pub under : ℕ → Aged → Bool
under life a = nat_lt a.1 life

-- a tick adds one to every age, and removes exactly the pairs whose age reaches the lifetime
abbrev pub ticked : ℕ → List Aged → List Aged
ticked life l = filter (under life) (map older l)
