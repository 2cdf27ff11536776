-- What passes a test in a list, place by place.
use Rattle.std.proofs.Common.{◌≡◌, ℕ, suc, ◌+◌, ◌<◌, ◌≤◌, Bool, true, false, cond, not, List, [], ◌∷◌, ◌++◌, length, get_or, take, drop, filter, sym, refl, ap, ◌∙◌, inl, inr, add-one, arith}
use Rattle.std.specs.List.{remove, AllByRecursion}
use Rattle.std.proofs.lemmas.List.{take-append-drop, drop_more, drop_at, get_or_at, length-take-le, length-append}
use Rattle.std.proofs.lemmas.List.Elements.{filter-append}
use Rattle.std.proofs.lemmas.Bool.{cases_Bool}
use Rattle.std.proofs.lemmas.List.Filters.{length-filter_more, length-filter_both}

module _ {X : Type 0} (p : X → Bool) where
  pub length-kept : (xs : List X) → length (filter p xs) ≤ length xs
  length-kept xs = omega (arith, length-filter_both p (λ x. not (p x)) (λ _. refl) xs)

  pub kept_yes : (x : X) (xs : List X) → p x ≡ true → filter p (x ∷ xs) ≡ x ∷ filter p xs
  kept_yes x xs e = ap (λ b. cond b (x ∷ filter p xs) (filter p xs)) e

  pub kept_no : (x : X) (xs : List X) → p x ≡ false → filter p (x ∷ xs) ≡ filter p xs
  kept_no x xs e = ap (λ b. cond b (x ∷ filter p xs) (filter p xs)) e

  -- what passes, all of it, is the list itself
  pub kept_all : (xs : List X) → AllByRecursion (λ x. p x ≡ true) xs → filter p xs ≡ xs
  kept_all [] h = refl
  kept_all (x ∷ xs) h = kept_yes x xs h.0 ∙ ap (λ l. x ∷ l) (kept_all xs h.1)

  pub drop_removed : (xs : List X) (i : ℕ) → i < length xs → drop i (remove xs i) ≡ drop (i + 1) xs
  drop_removed xs i lt = drop_at (take i xs) (drop (suc i) xs) i (length-take-le i xs (omega arith)) ∙ rw add-one

  -- x is the element of xs at place i
  module _ (xs : List X) (i : ℕ) (x d : X) (lt : i < length xs) (e : x ≡ get_or xs i d) where
    drop_here : drop i xs ≡ x ∷ drop (i + 1) xs
    drop_here = drop_more xs i d lt ∙ ap (λ y. y ∷ drop (i + 1) xs) (sym e)

    -- the list, split at one place
    pub kept_split : filter p xs ≡ filter p (take i xs) ++ filter p (x ∷ drop (i + 1) xs)
    kept_split =
        ap (filter p) (sym (take-append-drop i xs))
        ∙ filter-append p (take i xs) (drop i xs)
        ∙ ap (λ l. filter p (take i xs) ++ filter p l) drop_here

    -- an element that does not pass is struck
    pub kept_removed : p x ≡ false → filter p (remove xs i) ≡ filter p xs
    kept_removed no' =
        filter-append p (take i xs) (drop (suc i) xs)
        ∙ rw (← add-one i) (ap (λ l. filter p (take i xs) ++ l) (sym (kept_no x (drop (i + 1) xs) no')) ∙ sym kept_split)

    pub kept_rest : p x ≡ true → filter p (drop (i + 1) xs) ≡ drop (i + 1) xs → filter p (drop i xs) ≡ drop i xs
    kept_rest ok h = ap (filter p) drop_here ∙ kept_yes x (drop (i + 1) xs) ok ∙ ap (λ l. x ∷ l) h ∙ sym drop_here

    split_yes : p x ≡ true → filter p xs ≡ filter p (take i xs) ++ x ∷ filter p (drop (i + 1) xs)
    split_yes ok = kept_split ∙ ap (λ l. filter p (take i xs) ++ l) (kept_yes x (drop (i + 1) xs) ok)

    -- one that passes stands behind as many as pass before it
    pub get_or-kept : (k : ℕ) (z : X) → p x ≡ true → length (filter p (take i xs)) ≡ k → get_or (filter p xs) k z ≡ x
    get_or-kept k z ok n = ap (λ l. get_or l k z) (split_yes ok) ∙ get_or_at (filter p (take i xs)) x (filter p (drop (i + 1) xs)) z k n

    pub below_kept : p x ≡ true → length (filter p (take i xs)) < length (filter p xs)
    below_kept ok = omega (arith, ap length (split_yes ok), length-append (filter p (take i xs)) (x ∷ filter p (drop (i + 1) xs)))

    pub count_yes : p x ≡ true → length (filter p (take (i + 1) xs)) ≡ length (filter p (take i xs)) + 1
    count_yes ok = length-filter_more p xs i d lt ∙ ap (λ (b : Bool). length (filter p (take i xs)) + cond b 1 0) (ap p (sym e) ∙ ok)

    pub count_no : p x ≡ false → length (filter p (take (i + 1) xs)) ≡ length (filter p (take i xs))
    count_no no' = length-filter_more p xs i d lt ∙ ap (λ (b : Bool). length (filter p (take i xs)) + cond b 1 0) (ap p (sym e) ∙ no') ∙ omega arith

module _ {X : Type 0} (p q : X → Bool) where
  -- two tests in a row, where the second is the stronger
  pub kept_kept : ((x : X) → p x ≡ true → q x ≡ true) → (xs : List X) → filter p (filter q xs) ≡ filter p xs
  kept_kept weaker [] = refl
  kept_kept weaker (x ∷ xs) = elim (cases_Bool (p x)) [
    | inl yes' ↦ ap (filter p) (kept_yes q x xs (weaker x yes')) ∙ kept_yes p x (filter q xs) yes' ∙ ap (λ l. x ∷ l) (kept_kept weaker xs) ∙ sym (kept_yes p x xs yes')
    | inr no' ↦ elim (cases_Bool (q x)) [
      | inl yes' ↦ ap (filter p) (kept_yes q x xs yes') ∙ kept_no p x (filter q xs) no' ∙ kept_kept weaker xs ∙ sym (kept_no p x xs no')
      | inr other ↦ ap (filter p) (kept_no q x xs other) ∙ kept_kept weaker xs ∙ sym (kept_no p x xs no')
    ]
  ]
