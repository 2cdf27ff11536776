-- What holds of every element, and what a map leaves.
use Rattle.std.proofs.Common.{◌≡◌, ℕ, suc, ◌≤◌, Bool, true, false, cond, List, [], ◌∷◌, map, length, take, drop, filter, refl, ap, ◌∙◌, arith}
use Rattle.std.specs.List.{insert, remove, AllByRecursion}
use Rattle.std.proofs.lemmas.List.{length-take, take-map, drop-map, map-append, take-append-le, take-take}
use Rattle.std.proofs.ByRecursion.{All-append, All-take, All-drop}

module _ {X : Type 0} where
  pub all_each : (P : X → Type 0) → ((x : X) → P x) → (xs : List X) → AllByRecursion P xs
  all_each P h [] = tt
  all_each P h (x ∷ xs) = (h x, all_each P h xs)

  pub all_removed : (P : X → Type 0) (xs : List X) (k : ℕ) → AllByRecursion P xs → AllByRecursion P (remove xs k)
  all_removed P xs k h = All-append P (take k xs) (drop (suc k) xs) (All-take P k xs h) (All-drop P (suc k) xs h)

  pub all_inserted : (P : X → Type 0) (xs : List X) (k : ℕ) (x : X) → P x → AllByRecursion P xs → AllByRecursion P (insert xs k x)
  all_inserted P xs k x p h = All-append P (take k xs) (x ∷ drop k xs) (All-take P k xs h) (p, All-drop P k xs h)

  -- what is removed behind the first n leaves them
  pub take_removed : (xs : List X) (n k : ℕ) → n ≤ k → k ≤ length xs → take n (remove xs k) ≡ take n xs
  take_removed xs n k le in' =
      let h : n ≤ length (take k xs) = simp length-take (omega arith) in
      rw (take-append-le, take-take)

module _ {X Y : Type 0} where
  pub removed_map : (f : X → Y) (xs : List X) (k : ℕ) → map f (remove xs k) ≡ remove (map f xs) k
  removed_map f xs k = simp (take-map, drop-map, map-append)

  -- two maps that agree where a test passes
  pub map_where : (f h : X → Y) (s : X → Bool) → ((x : X) → s x ≡ true → h x ≡ f x) → (l : List X) → AllByRecursion (λ x. s x ≡ true) l → map h l ≡ map f l
  map_where f h s e [] k = refl
  map_where f h s e (x ∷ l) k = ap (λ y. y ∷ map h l) (e x k.0) ∙ ap (λ m. f x ∷ m) (map_where f h s e l k.1)

  at_cond : (f : X → Y) (x : X) (b : Bool) (l : List X) (m : List Y) → m ≡ map f l → cond b (f x ∷ m) m ≡ map f (cond b (x ∷ l) l)
  at_cond f x true l m e = ap (λ z. f x ∷ z) e
  at_cond f x false l m e = e

  -- a filter of what is mapped
  pub kept_map : (f : X → Y) (p : Y → Bool) (xs : List X) → filter p (map f xs) ≡ map f (filter (λ x. p (f x)) xs)
  kept_map f p [] = refl
  kept_map f p (x ∷ xs) = at_cond f x (p (f x)) (filter (λ y. p (f y)) xs) (filter p (map f xs)) (kept_map f p xs)

pub map-map : {X Y Z : Type 0} (f : X → Y) (h : Y → Z) (l : List X) → map (λ x. h (f x)) l ≡ map h (map f l)
map-map f h [] = refl
map-map f h (x ∷ l) = ap (λ m. h (f x) ∷ m) (map-map f h l)
