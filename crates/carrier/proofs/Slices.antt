-- A carrier that keeps its count beside a slice of its own holds the first of xs, as many as it uses and has room for, each read by f. What is kept in a `Records` needs only Held.
use Rattle.std.proofs.Common.{◌≡◌, ℕ, ◌+◌, ◌-◌, ◌<◌, ◌≤◌, min, true, List, [], ◌∷◌, ◌++◌, map, length, get_or, take, set, filter, sym, ap, ◌∙◌, arith}
use Rattle.std.specs.List.{remove}
use Rattle.std.proofs.lemmas.List.{length-map, length-take, take_more_set, map_push, get_or-map, get_or-take}
use Rattle.std.proofs.ByRecursion.{kept_by_passes}
use Rattle.lists.proofs.Elements.{removed_map, map_where, map-map, kept_map}
use Rattle.wire.specs.declared.frame.Frame.{Frame}
use Rattle.carrier.specs.Carriers.{Aged, Joined, older, under, ticked}
use Rattle.carrier.proofs.Calls.{joined_last}

module _ {X : Type 0} (f : X → Aged) (used room : ℕ) (xs : List X) (le : room ≤ length xs) where
  pub held_length : length (map f (take (min used room) xs)) ≡ min used room
  held_length = simp (length-map, length-take) (omega arith)

  module _ (u : ℕ) (is : u ≡ min used room) where
    now_held : map f (take (min used room) xs) ≡ map f (take u xs)
    now_held = rw is

    pub held_show : (place : ℕ) (x d : X) (none : Aged) → place < u → x ≡ get_or xs place d → f x ≡ get_or (map f (take (min used room) xs)) place none
    held_show place x d none lt e =
        ap f e
        ∙ ap f (sym (get_or-take u xs place d lt))
        ∙ sym (get_or-map f (take u xs) place d none (simp length-take (omega arith)))
        ∙ ap (λ l. get_or l place none) (sym now_held)

    module _ (after : ℕ) (same : after ≡ room) (ys : List X) where
      pub held_put : (x : X) (fr : Frame) → f x ≡ (fr, 0) → u < room → ys ≡ set xs u x → Joined fr (map f (take (min used room) xs)) (map f (take (min (u + 1) after) ys))
      held_put x fr s lt e =
          let more : min (u + 1) after ≡ u + 1 = omega arith in
          joined_last fr (map f (take (min used room) xs)) (map f (take (min (u + 1) after) ys))
          (rw (more, e) (ap (map f) (take_more_set xs u x (omega arith)) ∙ map_push f (take u xs) x ∙ ap (λ y. map f (take u xs) ++ y ∷ []) s ∙ ap (λ l. l ++ (fr, 0) ∷ []) (sym now_held)))

      pub held_strike : (place : ℕ) → take (u - 1) ys ≡ remove (take u xs) place → map f (take (min (u - 1) after) ys) ≡ remove (map f (take (min used room) xs)) place
      held_strike place e =
          let less : min (u - 1) after ≡ u - 1 = omega arith in
          rw less (ap (map f) e ∙ removed_map f (take u xs) place ∙ ap (λ l. remove l place) (sym now_held))

      -- h reads the records one tick later, where they are still young
      pub held_tick : {Y : Type 0} (g : Y → Aged) (h : X → Aged) (zs : List Y) (life r : ℕ) → ((x : X) → under life (older (f x)) ≡ true → h x ≡ older (f x)) → r ≤ u → map g (take r zs) ≡ map h (filter (λ x. under life (older (f x))) (take u xs)) → map g (take (min r after) zs) ≡ ticked life (map f (take (min used room) xs))
      held_tick g h zs life r later up e =
          let fits : min r after ≡ r = omega arith in
          let s = λ (x : X). under life (older (f x)) in
          rw fits
          (e
          ∙ map_where (λ x. older (f x)) h s later (filter s (take u xs)) (kept_by_passes s (take u xs))
          ∙ sym (kept_map (λ x. older (f x)) (under life) (take u xs))
          ∙ ap (filter (under life)) (map-map f older (take u xs) ∙ ap (map older) (sym now_held)))
