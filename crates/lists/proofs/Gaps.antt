-- A loop, and a copy, that closes the gap at one place of a list.
use Rattle.std.proofs.Common.{◌≡◌, ℕ, suc, ◌+◌, ◌-◌, ◌<◌, ◌≤◌, List, [], ◌∷◌, ◌++◌, length, get_or, take, drop, set, sym, refl, ap, ap₂, ◌∙◌, arith}
use Rattle.std.specs.List.{remove, copy_within}
use Rattle.std.proofs.lemmas.List.{append-nil, append_assoc, length-take, length-drop, length-set, take-take, take_more, take_more_set, take-append-le, drop_more, drop_all, drop-append-le, drop-set-lt, drop-take}
use Rattle.std.proofs.lemmas.List.Edits.{take-paste}

-- ys began as xs; what stands behind place and below i has moved one down
pub record Closing {X : Type 0} (xs ys : List X) (place i : ℕ) : Type 0 where
  pub front : take (i - 1) ys ≡ remove (take i xs) place
  pub rest : drop i ys ≡ drop i xs
  pub past : place < i
  pub within : i ≤ length xs
  pub long : length ys ≡ length xs

module _ {X : Type 0} where
  pub removed_push : (xs : List X) (place : ℕ) (x : X) → place < length xs → remove (xs ++ x ∷ []) place ≡ remove xs place ++ x ∷ []
  removed_push xs place x lt =
      let a : place ≤ length xs = omega arith in
      let b : suc place ≤ length xs = omega arith in
      rw (take-append-le, drop-append-le) (sym (append_assoc (take place xs) (drop (suc place) xs) (x ∷ [])))

  pub removed_more : (xs : List X) (place i : ℕ) (d : X) → place < i → i < length xs → remove (take (i + 1) xs) place ≡ remove (take i xs) place ++ get_or xs i d ∷ []
  removed_more xs place i d lt in' =
      ap (λ l. remove l place) (take_more xs i d in') ∙ removed_push (take i xs) place (get_or xs i d) (simp length-take (omega arith))

  pub closing_none : (xs : List X) (place : ℕ) → place < length xs → Closing xs xs place (place + 1)
  closing_none xs place lt =
      let e : place + 1 - 1 ≡ place = omega arith in
      let a : place ≤ place + 1 = omega arith in
      let b : length (take (place + 1) xs) ≤ suc place = simp length-take (omega arith) in
      record {
        front = rw (e, take-take, drop_all, append-nil);
        rest = refl;
        past = omega arith;
        within = omega arith;
        long = refl;
      }

  pub closing_more : {xs ys : List X} {place i : ℕ} {x : X} → Closing xs ys place i → i < length ys → x ≡ get_or ys i x → Closing xs (set ys (i - 1) x) place (i + 1)
  closing_more {xs} {ys} {place} {i} {x} c lt read =
      let in' : i < length xs = omega arith in
      let e : i + 1 - 1 ≡ i - 1 + 1 = omega arith in
      let before : i - 1 < length ys = omega arith in
      let a = drop_more ys i x lt in
      let b = drop_more xs i x in' in
      let same : x ≡ get_or xs i x = cc in
      let tail : drop (i + 1) ys ≡ drop (i + 1) xs = cc in
      let f = take_more_set ys (i - 1) x before in
      let m = removed_more xs place i x c.past in' in
      record {
        front = rw e (f ∙ ap (λ l. l ++ x ∷ []) c.front ∙ ap (λ y. remove (take i xs) place ++ y ∷ []) same ∙ sym m);
        rest = drop-set-lt (i + 1) ys (i - 1) x (omega arith) ∙ tail;
        past = omega arith;
        within = omega arith;
        long = length-set ys (i - 1) x ∙ c.long;
      }

-- the copy moves what stands behind the place and below n one down
pub take-copied_down : {X : Type 0} (xs : List X) (place n : ℕ) → place < n → n ≤ length xs → take (n - 1) (copy_within xs (place + 1) n place) ≡ remove (take n xs) place
take-copied_down xs place n lt le =
    let m = n - (place + 1) in
    let e : n - 1 ≡ place + m = omega arith in
    let f : n ≡ suc place + m = omega arith in
    let g : place + 1 ≡ suc place = omega arith in
    let a : place ≤ n = omega arith in
    ap (λ k. take k (copy_within xs (place + 1) n place)) e
    ∙ take-paste xs place (drop (place + 1) xs) m (omega arith) (simp length-drop (omega arith))
    ∙ ap₂ ◌++◌ (sym (take-take place n xs a)) (ap (λ k. take m (drop k xs)) g ∙ sym (ap (λ k. drop (suc place) (take k xs)) f ∙ drop-take (suc place) m xs))
