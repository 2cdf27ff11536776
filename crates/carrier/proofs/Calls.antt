-- What the calls of a carrier say where the answer is known.
use Rattle.std.proofs.Common.{◌≡◌, ℕ, ◌+◌, ◌<◌, ◌≤◌, min, true, List, [], ◌∷◌, ◌++◌, map, length, Ok, Err, filter, Result, ap, arith}
use Rattle.std.specs.List.{remove, AllByRecursion}
use Rattle.std.proofs.lemmas.List.{length-map, take_all, drop_all}
use Rattle.std.proofs.lemmas.List.Edits.{length-insert}
use Rattle.std.proofs.ByRecursion.{All-weaker, kept_by_passes}
use Rattle.std.proofs.lemmas.Bool.{ltb-true}
use Rattle.lists.proofs.Kept.{length-kept}
use Rattle.wire.specs.declared.frame.Frame.{Frame}
use Rattle.refusal.specs.declared.refusals.Refusal.{Refusal}
use Rattle.carrier.specs.Carriers.{Aged, Joined, Put, Struck, older, under, ticked}

-- one more at the end is one more at a place
pub joined_last : (f : Frame) (l m : List Aged) → m ≡ l ++ (f, 0) ∷ [] → Joined f l m
joined_last f l m e =
    let a : length l ≤ length l = omega arith in
    (length l, a, rw (take_all (length l) l a, drop_all (length l) l a) e)

-- a strike below the count does strike
pub struck : (place : ℕ) (l : List Aged) (r : Result (Unit {0}) Refusal) (m : List Aged) → place < length l → Struck place l r m → m ≡ remove l place
struck place l (Ok u) m lt h = h.1
struck place l (Err e) m lt h = absurd (omega (arith, h.0))

-- a tick adds no frame
pub length-ticked : (n : ℕ) (l : List Aged) → length (ticked n l) ≤ length l
length-ticked n l = omega (arith, length-kept (under n) (map older l), length-map l older)

pub all_under : (n : ℕ) (l : List Aged) → AllByRecursion (λ a. a.1 < n) (filter (under n) l)
all_under n l = All-weaker (λ a. under n a ≡ true) (λ a. a.1 < n) (λ a e. ltb-true a.1 n e) (filter (under n) l) (kept_by_passes (under n) l)

-- how many are held after a put
pub put_counts : (room : ℕ) (f : Frame) (l : List Aged) (r : Result (Unit {0}) Refusal) (m : List Aged) → length l ≤ room → Put room f l r m → length m ≡ min (length l + 1) room
put_counts room f l (Ok u) m le h = omega (arith, h.0, ap length h.1.2, length-insert l h.1.0 (f, 0) h.1.1)
put_counts room f l (Err e) m le h = omega (arith, h.0, ap length h.2)
