-- What two carriers joined mean, from what both mean.
use Rattle.std.specs.Prelude.{◌≡◌, ℕ, ◌+◌, ◌-◌, ◌<◌, ◌≤◌, min, List, ◌++◌, length, take, Ok, Err, filter, Result}
use Rattle.std.proofs.Common.{arith, length-take, length-append}
use Rattle.std.proofs.ByRecursion.{All-append, All-take}
use Rattle.lists.proofs.Kept.{length-kept}
use Rattle.wire.specs.declared.frame.Frame.{Frame}
use Rattle.refusal.specs.declared.refusals.Refusal.{Refusal}
use Rattle.refusal.specs.declared.refusals.Refusal.TheVariants.{CarrierFull}
use Rattle.carrier.specs.declared.carrier.Carrier.{Ghosts}
use Rattle.carrier.specs.Carriers.{Aged, Lawful, Joined, under}
use Rattle.carrier.proofs.Calls.{all_under}
use Rattle.carrier.specs.Carriers.{SameBounds}
use Rattle.two_way.specs.declared.TwoWay.{TwoWay}
use Rattle.two_way.specs.declared.Way.{Way}
use Rattle.two_way.specs.declared.Way.TheVariants.{First, Second}

-- a put fills the first before the second, and is refused where both are full or hold 65535
abbrev pub Filled : ℕ → ℕ → Frame → List Aged → List Aged → Result Way Refusal → List Aged → List Aged → Type 0
Filled p q f l m (Ok First) l' m' = (length l + length m < 65535) × (length l < p) × Joined f l l' × (m' ≡ m)
Filled p q f l m (Ok Second) l' m' = (length l + length m < 65535) × (p ≤ length l) × (length m < q) × (l' ≡ l) × Joined f m m'
Filled p q f l m (Err e) l' m' = (min 65535 (p + q) ≤ length l + length m) × (e ≡ CarrierFull) × (l' ≡ l) × (m' ≡ m)

module _ {A B : Type 0} (a : Ghosts A) (b : Ghosts B) where
  -- the lower of both lifetimes
  abbrev pub two_life : TwoWay A B → ℕ
  two_life t = min (a.life t.first) (b.life t.second)

  -- the sum of both capacities, at most 65535
  abbrev pub two_room : TwoWay A B → ℕ
  two_room t = min 65535 (a.room t.first + b.room t.second)

  -- the first's frames that are younger than the lifetime
  abbrev pub first_list : TwoWay A B → List Aged
  first_list t = filter (under (two_life t)) (a.list t.first)

  -- the second's, as many as leave both at 65535
  abbrev pub second_list : TwoWay A B → List Aged
  second_list t = take (65535 - length (first_list t)) (filter (under (two_life t)) (b.list t.second))

  -- the first's frames and then the second's
  abbrev pub two_list : TwoWay A B → List Aged
  two_list t = first_list t ++ second_list t

  -- a put into the lists that count, and the lists below after it
  abbrev pub PutWay : Frame → TwoWay A B → Result Way Refusal → TwoWay A B → Type 0
  PutWay f t r t' = Filled (a.room t.first) (b.room t.second) f (first_list t) (second_list t) r (a.list t'.first) (b.list t'.second)

  -- the lifetimes and the capacities below are as they were
  abbrev pub SameBoth : TwoWay A B → TwoWay A B → Type 0
  SameBoth t t' = SameBounds a.life a.room t.first t'.first × SameBounds b.life b.room t.second t'.second

  pub two_laws : Lawful (TwoWay A B) two_list two_life two_room
  two_laws = record {
    young = λ t. All-append (λ x. x.1 < two_life t) (first_list t) (second_list t) (all_under (two_life t) (a.list t.first)) (All-take _ _ _ (all_under (two_life t) (b.list t.second)));
    fits = λ t. simp (length-append, length-take) (omega (arith, length-kept (under (two_life t)) (a.list t.first), length-kept (under (two_life t)) (b.list t.second), a.laws.fits t.first, a.laws.small t.first, b.laws.fits t.second));
    alive = λ t. omega (arith, a.laws.alive t.first, b.laws.alive t.second);
    brief = λ t. omega (arith, a.laws.brief t.first, b.laws.brief t.second);
    small = λ t. omega arith;
  }
