-- What is kept of frames that are young.
use Rattle.std.proofs.Common.{◌≡◌, ℕ, ◌<◌, ◌≤◌, ◌+◌, true, List, length, drop, get_or, map, filter, Option, Result, sym, refl, subst, inl, inr, arith}
use Rattle.std.specs.List.{slice_get, remove}
use Rattle.std.specs.Option.{ok_or}
use Rattle.std.proofs.ByRecursion.{All-weaker}
use Rattle.std.proofs.lemmas.Bool.{lt-ltb, le-ltb, ltb-true}
use Rattle.std.proofs.lemmas.Option.{slice_get_cases, get_or_from_slice_get}
use Rattle.lists.proofs.Kept.{length-kept, kept_all, kept_kept, kept_removed, drop_removed}
use Rattle.wire.specs.declared.Refusal.{Refusal}
use Rattle.wire.specs.declared.Refusal.TheVariants.{NoSuchPlace}
use Rattle.carrier.specs.declared.carrier.Carrier.{Ghosts}
use Rattle.carrier.specs.Carriers.{Aged, Shown, no_frame, older, under, ticked}
use Rattle.carrier.proofs.Calls.{all_under}
use Rattle.walk.specs.Walks.{Young}

-- young frames are all kept
pub kept_young : (n : ℕ) (l : List Aged) → Young n l → filter (under n) l ≡ l
kept_young n l h = kept_all (under n) l (All-weaker (λ a. a.1 < n) (λ a. under n a ≡ true) (λ a lt. lt-ltb a.1 n lt) l h)

-- frames that are all kept are young
pub young_kept : (n : ℕ) (l : List Aged) → filter (under n) l ≡ l → Young n l
young_kept n l e = subst (Young n) e (all_under n l)

-- a tick by a longer life, and then what is young by the shorter
pub kept_ticked : (n life : ℕ) (l : List Aged) → n ≤ life → filter (under n) (ticked life l) ≡ ticked n l
kept_ticked n life l le = kept_kept (under n) (under life) (λ a e. lt-ltb a.1 life (omega (arith, ltb-true a.1 n e))) (map older l)

-- an old frame that is struck was not kept
pub old_removed : (n place : ℕ) (l : List Aged) → place < length l → n ≤ (get_or l place no_frame).1 → filter (under n) (remove l place) ≡ filter (under n) l
old_removed n place l lt old = kept_removed (under n) l place _ no_frame lt refl (le-ltb (get_or l place no_frame).1 n old)

pub rest_removed : (place : ℕ) (l : List Aged) → place < length l → drop place (remove l place) ≡ drop (place + 1) l
rest_removed place l lt = drop_removed (λ _. true) l place lt

module _ {C : Type 0} (k : Ghosts C) (c : C) (n : ℕ) where
  -- a carrier whose lifetime is not longer holds young frames only
  pub kept_within : k.life c ≤ n → filter (under n) (k.list c) ≡ k.list c
  kept_within le = kept_young n (k.list c) (All-weaker (λ a. a.1 < k.life c) (λ a. a.1 < n) (λ a lt. omega arith) (k.list c) (k.laws.young c))

  -- no more frames are young than a carrier can hold
  pub few_young : length (filter (under n) (k.list c)) ≤ 65535
  few_young = omega (arith, length-kept (under n) (k.list c), k.laws.fits c, k.laws.small c)

-- the answer at a place, by what stands there
pub shown_get : (place : ℕ) (l : List Aged) (o : Option Aged) (r : Result Aged Refusal) → r ≡ ok_or o NoSuchPlace → o ≡ slice_get l place → Shown place l r
shown_get place l o r e f = elim (slice_get_cases l place).1 [
  | inl (x, lt, is, at') ↦ rw (e, f, is) (lt, sym (get_or_from_slice_get l place x no_frame is))
  | inr (past, is) ↦ rw (e, f, is) (past, refl)
]
