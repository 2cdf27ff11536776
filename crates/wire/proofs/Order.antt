-- The fault that a reader names is the first in the order of check. Assumes nothing.
use Rattle.std.proofs.Common.{◌≡◌, ℕ, ◌^◌, ◌<◌, ◌≤◌, Bool, true, false, ◌⊎◌, IfErr, Ok, Err, Result, sym, refl, ap, ◌∙◌, subst, inl, inr, arith}
use Rattle.std.proofs.lemmas.Bool.Decides.{nat_tests, leb_tells}
use Rattle.wire.specs.Ends.{checked_of, taken_of, onward, after_head, takes, number_in}
use Rattle.refusal.specs.Faults.{block_fault, end_fault, no_kind, not_zero}
use Rattle.wire.specs.FirstFault.{stray_of, takes_kind, First}
use Rattle.wire.specs.Frames.{kind_of, number_of, head_of, filled}
use Rattle.wire.specs.declared.content.Content.{Content}
use Rattle.wire.specs.declared.content.Head.{Head}
use Rattle.wire.specs.declared.content.Head.TheVariants.{Data, Acknowledgement, EndMark}
use Rattle.wire.specs.declared.end.End.{End}
use Rattle.wire.specs.declared.end.Side.{Side}
use Rattle.refusal.specs.declared.fault.Cause.TheVariants.{NoKind, NotZero, KindNotTaken, NumberTooLarge, BlockRefused}
use Rattle.refusal.specs.declared.fault.Fault.{Fault}
use Rattle.wire.specs.declared.frame.Frame.{Frame}
use Rattle.wire.specs.declared.words.Words.{Words as Pair}

-- what a head that is read tells of its frame
head_kind : (f : Frame) (h : Head) → head_of f ≡ Ok h → 0 < kind_of f.head
head_kind f h e = grind (arith, nat_tests)

head_clean : (f : Frame) (h : Head) (v : ℕ) → head_of f ≡ Ok h → stray_of f v ≡ 0
head_clean f h v e = grind (arith, nat_tests)

head_number : (f : Frame) (h : Head) → head_of f ≡ Ok h → number_in h ≡ number_of f.head
head_number f h e = grind (arith, nat_tests)

head_taken : (s : Side) (f : Frame) (h : Head) → f.head < 2 ^ 32 → head_of f ≡ Ok h → takes s h ≡ takes_kind s (kind_of f.head)
head_taken s f h small e = grind (arith, nat_tests)

-- the faults that a head is stopped for, with what holds of the words before
HeadFault : Frame → Fault → Type 0
HeadFault f x =
    ((x ≡ no_kind) × (kind_of f.head ≡ 0))
    ⊎ (((x ≡ not_zero 0) × (0 < kind_of f.head) × (0 < stray_of f 0))
    ⊎ (((x ≡ not_zero 1) × (0 < kind_of f.head) × (stray_of f 0 ≡ 0) × (0 < stray_of f 1))
    ⊎ ((x ≡ not_zero 2) × (0 < kind_of f.head) × (stray_of f 0 ≡ 0) × (stray_of f 1 ≡ 0) × (0 < stray_of f 2))))

head_fault : (f : Frame) (x : Fault) → head_of f ≡ Err x → HeadFault f x
unfolding HeadFault
head_fault f x e = grind (arith, nat_tests)

end_refuses : (e : End) (h : Head) (x : Fault) → checked_of e h ≡ Err x
    → ((x ≡ end_fault KindNotTaken) × (takes e.side h ≡ false)) ⊎ ((x ≡ end_fault NumberTooLarge) × (takes e.side h ≡ true) × (e.numbers ≤ number_in h))
end_refuses e h x stopped = grind (arith, nat_tests)

below_one : (s : ℕ → ℕ) → s 0 ≡ 0 → (u : ℕ) → u < 1 → s u ≡ 0
below_one s zero u h = let e : u ≡ 0 = omega arith in ap s e ∙ zero

below_two : (s : ℕ → ℕ) → s 0 ≡ 0 → s 1 ≡ 0 → (u : ℕ) → u < 2 → s u ≡ 0
below_two s zero one u h =
    elim (leb_tells u 0) [ inl p ↦ below_one s zero u (omega (arith, p.1)) | inr p ↦ (let e : u ≡ 1 = omega (arith, p.1) in ap s e ∙ one) ]

end_taken : (e : End) (h : Head) → checked_of e h ≡ Ok tt → (takes e.side h ≡ true) × (number_in h < e.numbers)
end_taken e h taken = grind (arith, nat_tests)

data_kind : (f : Frame) (n : ℕ) → head_of f ≡ Ok (Data n) → kind_of f.head ≡ 1
data_kind f n e = grind (arith, nat_tests)

after_check : {B : Type 0} (c : Result (Unit {0}) Fault) (r : Result (Content B) Fault) (x : Fault) → onward c r ≡ Err x → (c ≡ Err x) ⊎ ((c ≡ Ok tt) × (r ≡ Err x))
after_check (Ok u) r x e = inr (refl, e)
after_check (Err y) r x e = inl (let same : y ≡ x = cc in ap Err same)

-- only a data frame is stopped for its block
after_head_cases : {B : Type 0} (h : Head) (r : Result B Fault) (x : Fault) → filled (Ok h) r ≡ Err x → ((n : ℕ) × (h ≡ Data n)) × (r ≡ Err x)
after_head_cases (Data n) (Ok b) x e = let z : ◌≡◌ {A = ℕ} 0 1 = cc in absurd (omega arith)
after_head_cases (Data n) (Err y) x e = ((n, refl), (let same : y ≡ x = cc in ap Err same))
after_head_cases (Acknowledgement n w) r x e = let z : ◌≡◌ {A = ℕ} 0 1 = cc in absurd (omega arith)
after_head_cases (EndMark n) r x e = let z : ◌≡◌ {A = ℕ} 0 1 = cc in absurd (omega arith)

true_not_false : (b : Bool) → b ≡ true → b ≡ false → ⊥
true_not_false b p q = let z : true ≡ false = cc in grind arith

same_word : {B : Type 0} (w v : ℕ) (r : Result B Fault) → r ≡ Err (block_fault w) → r ≡ Err (block_fault v) → w ≡ v
same_word w v r p q = let same : block_fault w ≡ block_fault v = cc in ap (λ (x : Fault). x.word) same

-- a smaller word with stray bits is none
no_less : (stray w v : ℕ) → (v < w → stray ≡ 0) → 0 < stray → w ≤ v
no_less stray w v clean h = elim (leb_tells w v) [ inl up ↦ up.1 | inr below ↦ omega (arith, clean below.1) ]

module _ {B : Type 0} (e : End) (reads : Pair → Result B Fault) (f : Frame) where
  first_no_kind : kind_of f.head ≡ 0 → First e reads f no_kind
  first_no_kind k =
      record {
        holds = (refl, k);
        layer = refl;
        first = elim [
          | NoKind ↦ λ v h. inr (refl, omega arith)
          | NotZero ↦ λ v h. inl (omega arith)
          | KindNotTaken ↦ λ v h. inl (omega arith)
          | NumberTooLarge ↦ λ v h. inl (omega arith)
          | BlockRefused ↦ λ v h. inl (omega arith)
        ];
      }

  first_not_zero : (w : ℕ) → 0 < kind_of f.head → ((u : ℕ) → u < w → stray_of f u ≡ 0) → 0 < stray_of f w → First e reads f (not_zero w)
  first_not_zero w k clean stray =
      record {
        holds = (k, stray);
        layer = refl;
        first = elim [
          | NoKind ↦ λ v h. inl (omega (arith, h.1))
          | NotZero ↦ λ v h. inr (refl, no_less (stray_of f v) w v (clean v) h.1)
          | KindNotTaken ↦ λ v h. inl (omega arith)
          | NumberTooLarge ↦ λ v h. inl (omega arith)
          | BlockRefused ↦ λ v h. inl (omega arith)
        ];
      }

  module _ (k : 0 < kind_of f.head) (clean : (v : ℕ) → stray_of f v ≡ 0) where
    first_not_taken : takes_kind e.side (kind_of f.head) ≡ false → First e reads f (end_fault KindNotTaken)
    first_not_taken other =
        record {
          holds = (refl, other);
          layer = refl;
          first = elim [
            | NoKind ↦ λ v h. inl (omega (arith, h.1))
            | NotZero ↦ λ v h. inl (omega (arith, h.1, clean v))
            | KindNotTaken ↦ λ v h. inr (refl, omega arith)
            | NumberTooLarge ↦ λ v h. inl (omega arith)
            | BlockRefused ↦ λ v h. inl (omega arith)
          ];
        }

    first_too_large : takes_kind e.side (kind_of f.head) ≡ true → e.numbers ≤ number_of f.head → First e reads f (end_fault NumberTooLarge)
    first_too_large taken large =
        record {
          holds = (refl, large);
          layer = refl;
          first = elim [
            | NoKind ↦ λ v h. inl (omega (arith, h.1))
            | NotZero ↦ λ v h. inl (omega (arith, h.1, clean v))
            | KindNotTaken ↦ λ v h. absurd (true_not_false (takes_kind e.side (kind_of f.head)) taken h.1)
            | NumberTooLarge ↦ λ v h. inr (refl, omega arith)
            | BlockRefused ↦ λ v h. inl (omega arith)
          ];
        }

    first_block : (w : ℕ) → takes_kind e.side (kind_of f.head) ≡ true → number_of f.head < e.numbers → kind_of f.head ≡ 1 → reads f.words ≡ Err (block_fault w) → First e reads f (block_fault w)
    first_block w taken small one stopped =
        record {
          holds = (one, stopped);
          layer = refl;
          first = elim [
            | NoKind ↦ λ v h. inl (omega (arith, h.1))
            | NotZero ↦ λ v h. inl (omega (arith, h.1, clean v))
            | KindNotTaken ↦ λ v h. absurd (true_not_false (takes_kind e.side (kind_of f.head)) taken h.1)
            | NumberTooLarge ↦ λ v h. inl (omega (arith, h.1))
            | BlockRefused ↦ λ v h. inr (refl, omega (arith, same_word w v (reads f.words) stopped h.1))
          ];
        }

    -- what the end refuses after the head
    first_at_end : (h : Head) (x : Fault) → f.head < 2 ^ 32 → head_of f ≡ Ok h → checked_of e h ≡ Err x → First e reads f x
    first_at_end h x small head stopped =
        let taken = head_taken e.side f h small head in
        let number = head_number f h head in
        let P : Fault → Type 0 = λ y. First e reads f y in
        elim (end_refuses e h x stopped) [
          | inl p ↦ subst P (sym p.0) (first_not_taken (sym taken ∙ p.1))
          | inr p ↦ subst P (sym p.0) (first_too_large (sym taken ∙ p.1) (omega (arith, number, p.2)))
        ]

  first_of_head : (x : Fault) → head_of f ≡ Err x → First e reads f x
  unfolding HeadFault
  first_of_head x stopped =
      let P : Fault → Type 0 = λ y. First e reads f y in
      elim (head_fault f x stopped) [
        | inl p ↦ subst P (sym p.0) (first_no_kind p.1)
        | inr (inl p) ↦ subst P (sym p.0) (first_not_zero 0 p.1 (λ u h. omega arith) p.2)
        | inr (inr (inl p)) ↦ subst P (sym p.0) (first_not_zero 1 p.1 (below_one (stray_of f) p.2) p.3)
        | inr (inr (inr p)) ↦ subst P (sym p.0) (first_not_zero 2 p.1 (below_two (stray_of f) p.2 p.3) p.4)
      ]

  module _ (refuses : (w : Pair) (y : Fault) → reads w ≡ Err y → (y ≡ block_fault 1) ⊎ (y ≡ block_fault 2)) (small : f.head < 2 ^ 32) where
    first_of_block : (x : Fault) (h : Head) → head_of f ≡ Ok h → checked_of e h ≡ Ok tt → filled (Ok h) (reads f.words) ≡ Err x → First e reads f x
    first_of_block x h head taken stopped =
        let k = head_kind f h head in
        let clean : (v : ℕ) → stray_of f v ≡ 0 = λ v. head_clean f h v head in
        let end = end_taken e h taken in
        let side = sym (head_taken e.side f h small head) ∙ end.0 in
        let below : number_of f.head < e.numbers = omega (arith, head_number f h head, end.1) in
        let block = after_head_cases h (reads f.words) x stopped in
        let one = data_kind f block.0.0 (head ∙ ap Ok block.0.1) in
        let P : Fault → Type 0 = λ y. First e reads f y in
        elim (refuses f.words x block.1) [
          | inl p ↦ subst P (sym p) (first_block k clean 1 side below one (block.1 ∙ ap Err p))
          | inr p ↦ subst P (sym p) (first_block k clean 2 side below one (block.1 ∙ ap Err p))
        ]

    first_by_head : (x : Fault) (r : Result Head Fault) → head_of f ≡ r → after_head e r (filled r (reads f.words)) ≡ Err x → First e reads f x
    first_by_head x (Ok h) head stopped =
        elim (after_check (checked_of e h) (filled (Ok h) (reads f.words)) x stopped) [
          | inl p ↦ first_at_end (head_kind f h head) (λ v. head_clean f h v head) h x small head p
          | inr p ↦ first_of_block x h head p.0 p.1
        ]
    first_by_head x (Err y) head stopped = let same : y ≡ x = cc in first_of_head x (head ∙ ap Err same)

    pub first_fault : (r : Result (Content B) Fault) → r ≡ taken_of e reads f → IfErr r (First e reads f)
    first_fault (Ok c) value = tt
    first_fault (Err x) value = first_by_head x (head_of f) refl (sym value)
