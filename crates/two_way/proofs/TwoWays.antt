-- Two lists joined, and what a call on one of them does to both.
use Rattle.std.proofs.Common.{◌≡◌, ℕ, ◌+◌, ◌-◌, ◌<◌, ◌≤◌, min, List, ◌++◌, map, length, take, Ok, Err, filter, Result, sym, refl, ap, ◌∙◌, arith}
use Rattle.std.specs.List.{insert}
use Rattle.std.specs.Result.{MatchResult, is_ok}
use Rattle.std.proofs.lemmas.List.{length-append, length-take, map-append, take_all}
use Rattle.std.proofs.lemmas.List.Edits.{length-insert, length-remove, insert-append_left, insert-append_right, remove-append_left, remove-append_right}
use Rattle.std.proofs.lemmas.List.Elements.{filter-append}
use Rattle.std.proofs.ByRecursion.{All-take}
use Rattle.lists.proofs.Kept.{length-kept}
use Rattle.lists.proofs.Elements.{all_removed, all_inserted}
use Rattle.wire.specs.declared.frame.Frame.{Frame}
use Rattle.refusal.specs.declared.refusals.Refusal.{Refusal}
use Rattle.carrier.specs.Carriers.{Aged, Put, Struck, older, under, ticked}
use Rattle.carrier.specs.declared.carrier.Carrier.{Ghosts}
use Rattle.carrier.proofs.Calls.{all_under, length-ticked}
use Rattle.two_way.specs.declared.Way.{Way}
use Rattle.two_way.specs.declared.Way.TheVariants.{First, Second}
use Rattle.two_way.specs.declared.TwoWay.{TwoWay}
use Rattle.two_way.specs.TwoWays.{Filled, PutWay, SameBoth, two_life, two_room, first_list, second_list, two_list, two_laws}
use Rattle.walk.specs.Walks.{Young}
use Rattle.walk.proofs.Youngs.{kept_young, kept_ticked}

-- the frames of both that count, where n is the lifetime
abbrev pub joint : ℕ → List Aged → List Aged → List Aged
joint n a b = filter (under n) a ++ take (65535 - length (filter (under n) a)) (filter (under n) b)

-- lists within both bounds are joined as they are
joint_plain : (n : ℕ) (a b : List Aged) → Young n a → Young n b → length a + length b ≤ 65535 → joint n a b ≡ a ++ b
joint_plain n a b ya yb le = rw (kept_young n a ya, kept_young n b yb) (ap (λ z. a ++ z) (take_all (65535 - length a) b (omega arith)))

pub length_joint : (n : ℕ) (a b : List Aged) → length (filter (under n) a) ≤ 65535 → length (joint n a b) ≡ min (length (filter (under n) a) + length (filter (under n) b)) 65535
length_joint n a b le = simp (length-append, length-take) (omega arith)

-- a and b are both lists below, within the bounds
module _ (n : ℕ) (a b : List Aged) (ya : Young n a) (yb : Young n b) (within : length a + length b ≤ 65535) where
  put_joint : (p q : ℕ) (f : Frame) (r : Result Way Refusal) (x y : List Aged) (P : Way → Type 0) (s : Result (Unit {0}) Refusal) → 1 ≤ n → length a ≤ p → length b ≤ q → Filled p q f a b r x y → MatchResult r P (λ e. s ≡ Err e) → is_ok s ≡ is_ok r → Put (min 65535 (p + q)) f (a ++ b) s (joint n x y)
  put_joint p q f (Ok First) x y P (Ok u) alive lp lq (lt, room, (k, up, e), same) h v =
      let more = ap length e ∙ length-insert a k (f, 0) up in
      let young : Young n x = rw e (all_inserted (λ z. z.1 < n) a k (f, 0) alive ya) in
      let plain = joint_plain n x b young yb (omega arith) ∙ ap (λ z. z ++ b) e in
      (omega (arith, length-append a b), (k, omega (arith, length-append a b), rw same (plain ∙ sym (insert-append_left a b k (f, 0) up))))
  put_joint p q f (Ok Second) x y P (Ok u) alive lp lq (lt, full, room, same, (k, up, e)) h v =
      let more = ap length e ∙ length-insert b k (f, 0) up in
      let young : Young n y = rw e (all_inserted (λ z. z.1 < n) b k (f, 0) alive yb) in
      let back : k ≡ length a + k - length a = omega arith in
      let plain = joint_plain n a y ya young (omega arith) ∙ ap (λ z. a ++ z) e ∙ ap (λ i. a ++ insert b i (f, 0)) back in
      (omega (arith, length-append a b), (length a + k, omega (arith, length-append a b), rw same (plain ∙ sym (insert-append_right a b (length a) (length a + k) (f, 0) refl (omega arith)))))
  put_joint p q f (Ok w) x y P (Err e) alive lp lq t h v = cc
  put_joint p q f (Err e) x y P (Ok u) alive lp lq t h v = cc
  put_joint p q f (Err e) x y P (Err e') alive lp lq t h v =
      let same : e' ≡ e = cc in
      (omega (arith, t.0, length-append a b), same ∙ t.1, rw (t.2, t.3) (joint_plain n a b ya yb within))

  pub strike_first : (place : ℕ) (r : Result (Unit {0}) Refusal) (x : List Aged) → place < length a → Struck place a r x → Struck place (a ++ b) r (joint n x b)
  strike_first place (Ok u) x lt h =
      let less = length-remove a place lt in
      let young : Young n x = rw h.1 (all_removed (λ z. z.1 < n) a place ya) in
      (omega (arith, length-append a b), joint_plain n x b young yb (omega (arith, ap length h.1)) ∙ ap (λ z. z ++ b) h.1 ∙ sym (remove-append_left a b place lt))
  strike_first place (Err e) x lt h = absurd (omega (arith, h.0))

  pub strike_second : (place : ℕ) (r : Result (Unit {0}) Refusal) (x : List Aged) → length a ≤ place → Struck (place - length a) b r x → Struck place (a ++ b) r (joint n a x)
  strike_second place (Ok u) x past h =
      let less = length-remove b (place - length a) h.0 in
      let young : Young n x = rw h.1 (all_removed (λ z. z.1 < n) b (place - length a) yb) in
      (omega (arith, length-append a b, h.0), joint_plain n a x ya young (omega (arith, ap length h.1)) ∙ ap (λ z. a ++ z) h.1 ∙ sym (remove-append_right a b (length a) place refl past))
  strike_second place (Err e) x past h = (omega (arith, length-append a b, h.0), h.1, rw h.2 (joint_plain n a b ya yb within))

pub tick_both : (n p q : ℕ) (a b : List Aged) → n ≤ p → n ≤ q → length a + length b ≤ 65535 → joint n (ticked p a) (ticked q b) ≡ ticked n (a ++ b)
tick_both n p q a b lp lq within =
    rw (kept_ticked n p a lp, kept_ticked n q b lq)
    (ap (λ z. ticked n a ++ z) (take_all (65535 - length (ticked n a)) (ticked n b) (omega (arith, length-ticked n a, length-ticked n b)))
    ∙ sym (ap (filter (under n)) (map-append older a b) ∙ filter-append (under n) (map older a) (map older b)))

-- a put into either is a put
module _ {A B : Type 0} (p : Ghosts A) (q : Ghosts B) (t t' : TwoWay A B) where
  pub put_both : (f : Frame) (r : Result Way Refusal) (P : Way → Type 0) (s : Result (Unit {0}) Refusal) → PutWay p q f t r t' → SameBoth p q t t' → MatchResult r P (λ e. s ≡ Err e) → is_ok s ≡ is_ok r → Put (two_room p q t) f (two_list p q t) s (two_list p q t')
  put_both f r P s way same h v =
      let n = two_life p q t in
      let a = first_list p q t in
      let b = second_list p q t in
      let l = p.list t.first in
      let m = filter (under n) (q.list t.second) in
      let cut = 65535 - length a in
      let far = All-take (λ x. x.1 < n) cut m (all_under n (q.list t.second)) in
      let within : length a + length b ≤ 65535 = omega (arith, length-append a b, (two_laws p q).fits t) in
      let first : length a ≤ p.room t.first = omega (arith, length-kept (under n) l, p.laws.fits t.first) in
      let second : length b ≤ q.room t.second = omega (arith, length-take cut m, length-kept (under n) (q.list t.second), q.laws.fits t.second) in
      rw (same.0.same_life, same.1.same_life) (put_joint n a b (all_under n l) far within (p.room t.first) (q.room t.second) f r (p.list t'.first) (q.list t'.second) P s (omega (arith, (two_laws p q).alive t)) first second way h v)
