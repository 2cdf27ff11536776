-- Arrivals and deliveries keep the invariant.
use Rattle.std.proofs.Common.{◌≡◌, ℕ, ◌+◌, ◌-◌, ◌%◌, ◌<◌, ◌≤◌, min, Bool, true, false, ◌⊎◌, List, ◌∷◌, length, is_some, Some, None, Ok, Option, sym, refl, ap, ◌∙◌, subst, inl, inr, arith, length-set, get_or-set_other, get_or-set_same}
use mathlib.Core.List.Memᴰ
use mathlib.Core.List.{Memᴰ}
use native.Mathlib.Nat.{add-mod_right}
use native.Mathlib.Decide.{dec_lt}
use Rattle.std.proofs.lemmas.Bool.Decides.{nat_tests}
use Rattle.path.specs.Events.{Event, arrive, deliver}
use Rattle.promise.specs.Vocabulary.{Accepted, Delivered, AtReceiver, ExactlyBelow}
use Rattle.promise.proofs.Cyclic.{window_unique}
use Rattle.promise.proofs.Events.{kind, out_more, back_more, out_before, back_before, accepted_later, there_later, there_before}
use Rattle.promise.proofs.Invariant.{Few, Stored, There, AtBook, Inv}
use Rattle.promise.proofs.Later.{held_later, booked_later, there_still, sent_still, delivered_still, acc_still, data_later, out_still, back_still}
use Rattle.promise.proofs.Places.{rewritten}
use Rattle.promise.proofs.Timing.{legal}
use Rattle.path.specs.Bars.{past_book}
use Rattle.path.specs.States.{State}
use Rattle.ends.specs.Numbers.{one_delivered}
use Rattle.path.specs.Steps.{with_receiver, booked, Risen}
use Rattle.store.specs.Stores.{at_number, set-number}
use Rattle.path.specs.declared.entry.Entry.{Entry}
use Rattle.path.specs.declared.entry.Entry.TheVariants.{Block, EndMark}
use Rattle.wire.specs.declared.block.Block.{Ghosts}
use Rattle.wire.specs.declared.frame.Frame.{Frame}

some_of : {X : Type 0} (o : Option X) → is_some o ≡ true → (x : X) × (o ≡ Some x)
some_of (Some x) h = (x, refl)
some_of None h = absurd (let z : ◌≡◌ {A = ℕ} 0 1 = cc h in omega arith)

none_of : {X : Type 0} (o : Option X) → ((x : X) → o ≡ Some x → ⊥) → o ≡ None
none_of (Some x) h = absurd (h x refl)
none_of None h = refl

pub few_at_most : (z : Bool) (n : ℕ) → Few z n → n ≤ 1000001
few_at_most true n h = h
few_at_most false n h = omega arith

module _ {B : Type 0} (es : List (Event B)) (RW ns nr nd : ℕ) (got : List (Option (Entry B))) (st : Stored es RW ns nr nd got) (some : 1 ≤ RW) (low : nd ≤ nr) (room : nr ≤ nd + RW) where
  -- entry x is taken under m, and the sequence rises to nr'
  module _ (place m nr' : ℕ) (x : Entry B) (lo : nr ≤ m) (hi : m < nd + RW) (known : m < ns) (is : Accepted es m x) (few : ns ≤ 1000001)
      (up : Risen (set-number got m (Some x)) nr (min (nd + RW) 1000001) nr') where
    there_cases : (j : ℕ) → AtReceiver (arrive place (Ok (Some m)) ∷ es) j → (j ≡ m) ⊎ AtReceiver es j
    there_cases j h = elim (Memᴰ.cases_cons h.1) [ inl q ↦ inl (cc q) | inr k ↦ inr (h.0, k) ]

    sound_take : (j : ℕ) (y : Entry B) → nd ≤ j → j < nd + RW → at_number None (set-number got m (Some x)) j ≡ Some y
        → (j < ns) × Accepted (arrive place (Ok (Some m)) ∷ es) j y × AtReceiver (arrive place (Ok (Some m)) ∷ es) j
    sound_take j y h k q = elim (rewritten None got RW j m (Some x) st.size some) [
      | inl w ↦
          let z : m ≡ j = window_unique RW m j (sym w.0) (omega arith) (omega arith) in
          let same : x ≡ y = cc (w.1, q) in (
            omega arith,
            accepted_later (arrive place (Ok (Some m))) es j y (subst (λ k. Accepted es k y) z (subst (λ v. Accepted es m v) same is)),
            (place, Memᴰ.head (ap (λ k. arrive place (Ok (Some k))) (sym z))),
          )
      | inr w ↦
          let v = st.sound j y h k (sym w.1 ∙ q) in
          (v.0, accepted_later (arrive place (Ok (Some m))) es j y v.1, there_later (arrive place (Ok (Some m))) es j v.2)
    ]

    kept_take : (j : ℕ) → (y : Entry B) × (at_number None got j ≡ Some y) → (y : Entry B) × (at_number None (set-number got m (Some x)) j ≡ Some y)
    kept_take j v = elim (rewritten None got RW j m (Some x) st.size some) [ inl w ↦ (x, w.1) | inr w ↦ (v.0, w.1 ∙ v.1) ]

    full_take : (j : ℕ) → nd ≤ j → j < nr' → (y : Entry B) × (at_number None (set-number got m (Some x)) j ≡ Some y)
    full_take j h k = elim (dec_lt j nr) [ yes y ↦ kept_take j (st.full j h y) | no y ↦ some_of _ (up.filled j (omega arith) k) ]

    pub stored_take : Stored (arrive place (Ok (Some m)) ∷ es) RW ns nr' nd (set-number got m (Some x))
    stored_take =
        record {
          size = length-set got (m % length got) (Some x) ∙ st.size;
          sound = sound_take;
          full = full_take;
          ends = λ h. elim (dec_lt nr' 1000001) [
            | yes y ↦ up.stops (omega arith)
            | no y ↦ none_of _ (λ v q. (let w = sound_take nr' v (omega (arith, up.low)) h q in omega (arith, w.0)))
          ];
          held = λ j h k. elim (there_cases j h) [
            | inl q ↦
                (omega arith, elim (rewritten None got RW j m (Some x) st.size some) [ inl w ↦ (x, w.1) | inr w ↦ absurd (w.0 (ap (λ k. k % RW) q)) ])
            | inr w ↦ (let v = st.held j w k in (v.0, kept_take j v.1))
          ];
        }

    pub risen_sent : nr ≤ ns → nr' ≤ ns
    risen_sent h = elim (dec_lt nr nr') [
      | yes y ↦
          let w = full_take (nr' - 1) (omega arith) (omega arith) in
          let v = sound_take (nr' - 1) w.0 (omega arith) (omega (arith, up.high)) w.1 in
          omega (arith, v.0)
      | no y ↦ omega (arith, up.low)
    ]

    pub there_take : There es ns nr → There (arrive place (Ok (Some m)) ∷ es) ns nr'
    there_take h =
        record {
          low = λ j k. elim (dec_lt j nr) [
            | yes y ↦ there_later (arrive place (Ok (Some m))) es j (h.low j y)
            | no y ↦ (let w = full_take j (omega arith) k in (sound_take j w.0 (omega arith) (omega (arith, up.high)) w.1).2)
          ];
          sent = λ j k. elim (there_cases j k) [ inl q ↦ omega arith | inr w ↦ h.sent j w ];
        }

  -- entry nd is delivered
  module _ (e : Event B) (due : nd < nr) (other : kind e ≡ 5 → ⊥) where
    -- the place of nd, written empty, is that of nd + RW
    kept_deliver : (j : ℕ) → nd + 1 ≤ j → j < nd + RW → at_number None (set-number got nd None) j ≡ at_number None got j
    kept_deliver j h k = elim (rewritten None got RW j nd None st.size some) [
      | inl w ↦ absurd (let z : j ≡ nd = window_unique RW j nd w.0 (omega arith) (omega arith) in omega arith)
      | inr w ↦ w.1
    ]

    gone : at_number None (set-number got nd None) (nd + RW) ≡ None
    gone = elim (rewritten None got RW (nd + RW) nd None st.size some) [ inl w ↦ w.1 | inr w ↦ absurd (w.0 (add-mod_right nd RW)) ]

    shifted : (j : ℕ) → nd + 1 ≤ j → j < nd + 1 + RW
        → (at_number None (set-number got nd None) j ≡ None) ⊎ ((j < nd + RW) × (at_number None (set-number got nd None) j ≡ at_number None got j))
    shifted j h k = elim (dec_lt j (nd + RW)) [
      | yes y ↦ inr (y, kept_deliver j h y)
      | no y ↦ (let z : j ≡ nd + RW = omega arith in inl (ap (λ k. at_number None (set-number got nd None) k) z ∙ gone))
    ]

    pub stored_deliver : Stored (e ∷ es) RW ns nr (nd + 1) (set-number got nd None)
    stored_deliver =
        record {
          size = length-set got (nd % length got) None ∙ st.size;
          sound = λ j x h k q. elim (shifted j h k) [
            | inl w ↦ absurd (let z : ◌≡◌ {A = ℕ} 0 1 = cc (w, q) in omega arith)
            | inr w ↦ (let v = st.sound j x (omega arith) w.0 (sym w.1 ∙ q) in (v.0, accepted_later e es j x v.1, there_later e es j v.2))
          ];
          full = λ j h k. (let f = st.full j (omega arith) k in (f.0, kept_deliver j h (omega arith) ∙ f.1));
          ends = λ k. elim (shifted nr (omega arith) k) [ inl w ↦ w | inr w ↦ w.1 ∙ st.ends w.0 ];
          held = λ j h k. (let v = st.held j (there_before e es other j h) (omega arith) in (omega (arith, v.0), (v.1.0, kept_deliver j k v.0 ∙ v.1.1)));
        }

-- the block of an entry stands in the book under its number, and the others as before
book_more : {B : Type 0} (x : Entry B) (nd : ℕ) (book : List B) → past_book (Some x) nd (length book) ≡ false → AtBook x nd (booked (Some x) nd book)
book_more (Block y) nd book free = (omega (arith, length-set book nd y, small), λ d. get_or-set_same book nd y d small)
  where
    small : nd < length book
    small = grind (arith, nat_tests)
book_more EndMark nd book free = tt

book_still : {B : Type 0} (x y : Entry B) (j nd : ℕ) (book : List B) → j < nd → AtBook y j book → AtBook y j (booked (Some x) nd book)
book_still (Block x) (Block y) j nd book lo h = (omega (arith, length-set book nd x, h.0), λ d. get_or-set_other book nd j x d (λ q. omega arith) ∙ h.1 d)
book_still (Block x) EndMark j nd book lo h = tt
book_still EndMark y j nd book lo h = h

delivered_more : {B : Type 0} (es : List (Event B)) (nd : ℕ) → ExactlyBelow nd (Delivered es) → ExactlyBelow (nd + 1) (Delivered (deliver (Ok nd) ∷ es))
delivered_more {B} es nd h = (
  λ j lo. elim (dec_lt j nd) [
    | yes y ↦ Memᴰ.tail (h.0 j y)
    | no y ↦ (let z : j ≡ nd = omega arith in Memᴰ.head (ap (λ k. deliver (Ok k)) z))
  ],
  λ j m. elim (Memᴰ.cases_cons m) [ inl q ↦ (let z : j ≡ nd = cc q in omega arith) | inr m' ↦ omega (arith, h.1 j m') ],
)

module _ {B : Type 0} (b : Ghosts B) (P Q : Frame → ℕ → ℕ → Type 0) (es : List (Event B)) (s : State B) (i : Inv b P Q es s) where
  pub keeps_take : (place m nr' : ℕ) (x : Entry B) → s.ends.receiver.nr ≤ m → m < s.ends.receiver.nd + s.ends.setting.terms.receive_window → m < s.ends.sender.ns → Accepted es m x
      → Risen (set-number s.got m (Some x)) s.ends.receiver.nr (min (s.ends.receiver.nd + s.ends.setting.terms.receive_window) 1000001) nr'
      → Inv b (out_more b s (arrive place (Ok (Some m))) P) (back_more b s (arrive place (Ok (Some m))) Q) (arrive place (Ok (Some m)) ∷ es)
      (record { ends = with_receiver s.ends (record { nr = nr'; nd = s.ends.receiver.nd }); kept = s.kept; got = set-number s.got m (Some x); book = s.book })
  keeps_take place m nr' x lo hi known is up =
      let e : Event B = arrive place (Ok (Some m)) in
      let l = legal s.ends.setting.terms in
      let u = i.nums in
      let few = few_at_most s.ends.sender.sealed s.ends.sender.ng i.few in
      let few' : s.ends.sender.ns ≤ 1000001 = omega (arith, u.sg) in
      let st = stored_take es _ _ _ _ s.got i.stored l.rw_some u.dr u.room place m nr' x lo hi known is few' up in
      let rs = risen_sent es _ _ _ _ s.got i.stored l.rw_some u.dr u.room place m nr' x lo hi known is few' up u.rs in
      let th = there_take es _ _ _ _ s.got i.stored l.rw_some u.dr u.room place m nr' x lo hi known is few' up i.there in
      record {
        made = i.made;
        nums = record { dr = omega (arith, u.dr, up.low); room = omega (arith, up.high); ar = omega (arith, u.ar, up.low); rs = rs; sg = u.sg; ga = u.ga; ws = u.ws; rd = u.rd };
        few = i.few;
        acc = acc_still b e es _ (λ q. omega arith) (λ q. omega arith) i.acc;
        sent = sent_still e es _ (λ q. omega arith) i.sent;
        delivered = delivered_still e es _ (λ q. omega arith) i.delivered;
        hears = omega (arith, i.hears);
        there = th;
        held = held_later e es _ _ _ _ i.held;
        stored = st;
        booked = booked_later e es _ _ i.booked;
        data_puts = λ f age n p. data_later b e es _ _ _ _ _ f age n (i.data_puts f age n (out_before b s e P refl f age n (λ q. omega arith) (λ q. omega arith) p));
        ack_puts = λ f age n p. (let d = i.ack_puts f age n (back_before b s e Q refl f age n (λ q. omega arith) p) in
            record { window = d.window; narrow = d.narrow; words = d.words; below = omega (arith, d.below, up.low); timed = d.timed });
        outward = out_still b e es s refl _ _ P i.outward;
        backward = back_still b e es s refl _ _ Q i.backward;
      }

  pub keeps_deliver : (x : Entry B) → s.ends.receiver.nd < s.ends.receiver.nr → at_number None s.got s.ends.receiver.nd ≡ Some x → past_book (Some x) s.ends.receiver.nd (length s.book) ≡ false
      → Inv b (out_more b s (deliver (Ok s.ends.receiver.nd)) P) (back_more b s (deliver (Ok s.ends.receiver.nd)) Q) (deliver (Ok s.ends.receiver.nd) ∷ es)
      (record { ends = with_receiver s.ends (one_delivered s.ends.receiver); kept = s.kept; got = set-number s.got s.ends.receiver.nd None; book = booked (Some x) s.ends.receiver.nd s.book })
  keeps_deliver x due is free =
      let e : Event B = deliver (Ok s.ends.receiver.nd) in
      let l = legal s.ends.setting.terms in
      let u = i.nums in
      let some = l.rw_some in
      let v = i.stored.sound s.ends.receiver.nd x (omega arith) (omega arith) is in
      record {
        made = i.made;
        nums = record { dr = omega arith; room = omega (arith, u.room); ar = u.ar; rs = u.rs; sg = u.sg; ga = u.ga; ws = u.ws; rd = u.rd };
        few = i.few;
        acc = acc_still b e es _ (λ q. omega arith) (λ q. omega arith) i.acc;
        sent = sent_still e es _ (λ q. omega arith) i.sent;
        delivered = delivered_more es _ i.delivered;
        hears = omega (arith, i.hears);
        there = there_still e es _ _ (λ q. omega arith) i.there;
        held = held_later e es _ _ _ _ i.held;
        stored = stored_deliver es _ _ _ _ s.got i.stored l.rw_some u.dr u.room e due (λ q. omega arith);
        booked = λ j lo. elim (dec_lt j s.ends.receiver.nd) [
          | yes y ↦ (let w = i.booked j y in (w.0, accepted_later e es j w.0 w.1, book_still x w.0 j s.ends.receiver.nd s.book y w.2))
          | no y ↦
              let z : s.ends.receiver.nd ≡ j = omega arith in
              subst (λ k. (y : Entry B) × Accepted (e ∷ es) k y × AtBook y k (booked (Some x) s.ends.receiver.nd s.book)) z
              (x, accepted_later e es s.ends.receiver.nd x v.1, book_more x s.ends.receiver.nd s.book free)
        ];
        data_puts = λ f age n p. data_later b e es _ _ _ _ _ f age n (i.data_puts f age n (out_before b s e P refl f age n (λ q. omega arith) (λ q. omega arith) p));
        ack_puts = λ f age n p. i.ack_puts f age n (back_before b s e Q refl f age n (λ q. omega arith) p);
        outward = out_still b e es s refl _ _ P i.outward;
        backward = back_still b e es s refl _ _ Q i.backward;
      }
