-- What the calls of the carrier below say of its frames younger than n, where it holds no other.
use Rattle.std.proofs.Common.{ℕ, ◌<◌, ◌≤◌, List, Ok, Err, filter, Result, ap, ◌∙◌}
use Rattle.lists.proofs.Elements.{all_removed, all_inserted}
use Rattle.wire.specs.declared.frame.Frame.{Frame}
use Rattle.refusal.specs.declared.refusals.Refusal.{Refusal}
use Rattle.carrier.specs.Carriers.{Aged, Put, Struck, under}
use Rattle.walk.specs.Walks.{Young}
use Rattle.walk.proofs.Youngs.{kept_young}

module _ (n : ℕ) (l : List Aged) (h : Young n l) where
  pub young_put : (room : ℕ) (f : Frame) (r : Result (Unit {0}) Refusal) (m : List Aged) → 1 ≤ n → Put room f l r m → Put room f l r (filter (under n) m)
  young_put room f (Ok u) m alive s =
      let all : Young n m = rw s.1.2 (all_inserted (λ a. a.1 < n) l s.1.0 (f, 0) alive h) in
      (s.0, (s.1.0, s.1.1, kept_young n m all ∙ s.1.2))
  young_put room f (Err e) m alive s = (s.0, s.1, ap (filter (under n)) s.2 ∙ kept_young n l h)

  pub young_strike : (place : ℕ) (r : Result (Unit {0}) Refusal) (m : List Aged) → Struck place l r m → Struck place l r (filter (under n) m)
  young_strike place (Ok u) m s =
      let all : Young n m = rw s.1 (all_removed (λ a. a.1 < n) l place h) in
      (s.0, kept_young n m all ∙ s.1)
  young_strike place (Err e) m s = (s.0, s.1, ap (filter (under n)) s.2 ∙ kept_young n l h)
