-- Numbered places of a store, and what holds of every frame in a carrier.
use Rattle.std.proofs.Common.{◌≡◌, ℕ, suc, ◌+◌, ◌%◌, ◌<◌, ◌≤◌, Bool, true, false, cond, ◌⊎◌, List, [], ◌∷◌, length, get_or, take, drop, sym, refl, ap, ◌∙◌, subst, inl, inr, mod-lt, arith, length-set, get_or-set_other, get_or-set_same, ltb-true}
use Rattle.std.proofs.ByRecursion.{All-append, All-take, All-drop}
use Rattle.std.proofs.lemmas.Bool.{cases_eq}
use Rattle.std.specs.List.{remove, AllByRecursion}
use Rattle.carrier.specs.Carriers.{Aged, Joined, older, under, ticked}
use Rattle.store.specs.Stores.{at_number, set-number}
use Rattle.wire.specs.declared.frame.Frame.{Frame}

module _ {T : Type 0} (d : T) (l : List T) where
  moved : (m j : ℕ) (x : T) → at_number d (set-number l m x) j ≡ get_or (set-number l m x) (j % length l) d
  moved m j x = ap (λ k. get_or (set-number l m x) (j % k) d) (length-set l (m % length l) x)

  -- what a write at the place of m leaves at the place of j
  pub rewritten : (n j m : ℕ) (x : T) → length l ≡ n → 1 ≤ n
      → ((j % n ≡ m % n) × (at_number d (set-number l m x) j ≡ x)) ⊎ ((j % n ≡ m % n → ⊥) × (at_number d (set-number l m x) j ≡ at_number d l j))
  rewritten n j m x e z = subst (λ n. ((j % n ≡ m % n) × (at_number d (set-number l m x) j ≡ x)) ⊎ ((j % n ≡ m % n → ⊥) × (at_number d (set-number l m x) j ≡ at_number d l j))) e by
    where
      some : 0 < length l
      some = omega arith

      by : ((j % length l ≡ m % length l) × (at_number d (set-number l m x) j ≡ x)) ⊎ ((j % length l ≡ m % length l → ⊥) × (at_number d (set-number l m x) j ≡ at_number d l j))
      by = elim (cases_eq (j % length l) (m % length l)) [
        | inl q ↦ inl (q, moved m j x ∙ ap (λ k. get_or (set-number l m x) k d) q ∙ get_or-set_same l (m % length l) x d (mod-lt m some))
        | inr q ↦ inr (q, moved m j x ∙ get_or-set_other l (m % length l) (j % length l) x d q)
      ]

module _ (P : Aged → Type 0) where
  pub all_joined : (f : Frame) (l l' : List Aged) → P (f, 0) → AllByRecursion P l → Joined f l l' → AllByRecursion P l'
  all_joined f l l' p h j = subst (AllByRecursion P) (sym j.2) (All-append P (take j.0 l) ((f, 0) ∷ drop j.0 l) (All-take P j.0 l h) (p, All-drop P j.0 l h))

  pub all_struck : (l : List Aged) (k : ℕ) → AllByRecursion P l → AllByRecursion P (remove l k)
  all_struck l k h = All-append P (take k l) (drop (suc k) l) (All-take P k l h) (All-drop P (suc k) l h)

  all_cond : (x : Aged) (xs : List Aged) (b : Bool) → (b ≡ true → P x) → AllByRecursion P xs → AllByRecursion P (cond b (x ∷ xs) xs)
  all_cond x xs true p h = (p refl, h)
  all_cond x xs false p h = h

-- a tick makes every frame older, and leaves those below the lifetime
pub all_ticked : (P Q : Aged → Type 0) (life : ℕ) → ((a : Aged) → P a → a.1 + 1 < life → Q (a.0, a.1 + 1)) → (l : List Aged) → AllByRecursion P l → AllByRecursion Q (ticked life l)
all_ticked P Q life f [] h = tt
all_ticked P Q life f (a ∷ l) h = all_cond Q (older a) (ticked life l) (under life (older a)) (λ e. f a h.0 (ltb-true (a.1 + 1) life e)) (all_ticked P Q life f l h.1)

pub none_left : {A : Type 0} (P Q : A → Type 0) → ((x : A) → P x → Q x → ⊥) → (xs : List A) → AllByRecursion P xs → AllByRecursion Q xs → xs ≡ []
none_left P Q f [] h k = refl
none_left P Q f (x ∷ xs) h k = absurd (f x h.0 k.0)
