-- A carrier whose list is a list of records l, each read by f.
use Rattle.std.proofs.Common.{◌≡◌, ℕ, ◌+◌, ◌-◌, ◌<◌, min, true, List, [], ◌∷◌, ◌++◌, map, length, take, Ok, Err, filter, Result, sym, ap, ◌∙◌, arith, length-take}
use Rattle.std.specs.List.{remove, copy_within}
use Rattle.std.proofs.lemmas.List.{length-map, map_push}
use Rattle.std.proofs.ByRecursion.{kept_by_passes}
use Rattle.lists.proofs.Gaps.{take-copied_down}
use Rattle.lists.proofs.Elements.{removed_map, map_where, map-map, kept_map}
use Rattle.refusal.specs.declared.refusals.Refusal.{Refusal}
use Rattle.wire.specs.declared.frame.Frame.{Frame}
use Rattle.carrier.specs.Carriers.{Aged, Put, Struck, older, under, ticked}
use Rattle.carrier.specs.Records.{Pushed, Removed}
use Rattle.carrier.proofs.Calls.{joined_last}

module _ {X : Type 0} (f : X → Aged) (l : List X) where
  pub held_put : (room : ℕ) (x : X) (fr : Frame) (r : Result (Unit {0}) Refusal) (l' : List X) → Pushed room x l r l' → f x ≡ (fr, 0) → Put room fr (map f l) r (map f l')
  held_put room x fr (Ok u) l' h s = (rw length-map h.0, joined_last fr (map f l) (map f l') (ap (map f) h.1 ∙ map_push f l x ∙ ap (λ a. map f l ++ a ∷ []) s))
  held_put room x fr (Err e) l' h s = (rw length-map h.0, h.1, ap (map f) h.2)

  pub held_strike : (place : ℕ) (r : Result (Unit {0}) Refusal) (l' : List X) → Removed place l r l' → Struck place (map f l) r (map f l')
  held_strike place (Ok u) l' h = (rw length-map h.0, ap (map f) h.1 ∙ removed_map f l place)
  held_strike place (Err e) l' h = (rw length-map h.0, h.1, ap (map f) h.2)

  -- h reads the records that stay one tick later
  pub held_tick : (life : ℕ) (h : X → Aged) → ((x : X) → under life (older (f x)) ≡ true → h x ≡ older (f x)) → map h (filter (λ x. under life (older (f x))) l) ≡ ticked life (map f l)
  held_tick life h later =
      let s = λ (x : X). under life (older (f x)) in
      map_where (λ x. older (f x)) h s later (filter s l) (kept_by_passes s l)
      ∙ sym (kept_map (λ x. older (f x)) (under life) l)
      ∙ ap (filter (under life)) (map-map f older l)

-- xs in use up to u, with the gap at one place closed, and ys what that leaves of it
pub held_gap : {X : Type 0} (xs ys : List X) (used u place : ℕ) → u ≡ length (take (min used (min 4096 (length xs))) xs) → place < u → length ys ≡ length xs → ys ≡ copy_within xs (place + 1) u place → take (min (u - 1) (min 4096 (length ys))) ys ≡ remove (take (min used (min 4096 (length xs))) xs) place
held_gap xs ys used u place is lt long e =
    let n = min used (min 4096 (length xs)) in
    let same : u ≡ n = is ∙ simp length-take (omega arith) in
    let less : min (u - 1) (min 4096 (length ys)) ≡ u - 1 = omega arith in
    rw (less, e) (take-copied_down xs place u (omega arith) (omega arith) ∙ ap (λ k. remove (take k xs) place) same)
