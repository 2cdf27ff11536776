-- Two lists joined, and an element put into one of them or taken out of it.
use Rattle.std.proofs.Common.{◌≡◌, ℕ, suc, ◌+◌, ◌<◌, ◌≤◌, List, [], ◌∷◌, ◌++◌, length, take, drop, sym, ap, ◌∙◌, arith}
use Rattle.std.specs.List.{insert, remove}
use Rattle.std.proofs.lemmas.List.{append_assoc, take-append-le, drop-append-le}

module _ {X : Type 0} where
  pub take_past : (a b : List X) (k : ℕ) → take (length a + k) (a ++ b) ≡ a ++ take k b
  take_past [] b k = let e : 0 + k ≡ k = omega arith in rw e
  take_past (x ∷ a) b k = let e : suc (length a) + k ≡ suc (length a + k) = omega arith in rw e (ap (λ l. x ∷ l) (take_past a b k))

  pub drop_past : (a b : List X) (k : ℕ) → drop (length a + k) (a ++ b) ≡ drop k b
  drop_past [] b k = let e : 0 + k ≡ k = omega arith in rw e
  drop_past (x ∷ a) b k = let e : suc (length a) + k ≡ suc (length a + k) = omega arith in rw e (drop_past a b k)

  pub inserted_left : (a b : List X) (k : ℕ) (x : X) → k ≤ length a → insert a k x ++ b ≡ insert (a ++ b) k x
  inserted_left a b k x le =
      append_assoc (take k a) (x ∷ drop k a) b
      ∙ ap (λ l. l ++ x ∷ (drop k a ++ b)) (sym (take-append-le k a b le))
      ∙ ap (λ l. take k (a ++ b) ++ x ∷ l) (sym (drop-append-le k a b le))

  pub inserted_right : (a b : List X) (k : ℕ) (x : X) → a ++ insert b k x ≡ insert (a ++ b) (length a + k) x
  inserted_right a b k x =
      sym (append_assoc a (take k b) (x ∷ drop k b))
      ∙ ap (λ l. l ++ x ∷ drop k b) (sym (take_past a b k))
      ∙ ap (λ l. take (length a + k) (a ++ b) ++ x ∷ l) (sym (drop_past a b k))

  pub removed_left : (a b : List X) (k : ℕ) → k < length a → remove a k ++ b ≡ remove (a ++ b) k
  removed_left a b k lt =
      append_assoc (take k a) (drop (suc k) a) b
      ∙ ap (λ l. l ++ (drop (suc k) a ++ b)) (sym (take-append-le k a b (omega arith)))
      ∙ ap (λ l. take k (a ++ b) ++ l) (sym (drop-append-le (suc k) a b (omega arith)))

  pub removed_right : (a b : List X) (k : ℕ) → a ++ remove b k ≡ remove (a ++ b) (length a + k)
  removed_right a b k =
      let e : suc (length a + k) ≡ length a + suc k = omega arith in
      sym (append_assoc a (take k b) (drop (suc k) b))
      ∙ ap (λ l. l ++ drop (suc k) b) (sym (take_past a b k))
      ∙ ap (λ l. take (length a + k) (a ++ b) ++ l) (sym (ap (λ i. drop i (a ++ b)) e ∙ drop_past a b (suc k)))
