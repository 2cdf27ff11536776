-- Offers and seals keep the invariant.
use Rattle.std.proofs.Common.{◌≡◌, ℕ, ◌+◌, ◌%◌, ◌<◌, ◌≤◌, Bool, true, false, ◌⊎◌, List, ◌∷◌, length, None, Ok, sym, refl, ap, ◌∙◌, subst, inl, inr, arith, length-set}
use mathlib.Core.List.Memᴰ
use mathlib.Core.List.{Memᴰ}
use native.Mathlib.Decide.{dec_lt}
use Rattle.path.specs.Events.{Event, offer, seal}
use Rattle.promise.specs.Vocabulary.{takes_ticks, rises, Accepted, by_offer, by_seal}
use Rattle.promise.proofs.Cyclic.{window_unique}
use Rattle.promise.proofs.Events.{kind, accepted_later, earlier, out_more, back_more, out_before, back_before}
use Rattle.promise.proofs.Gates.{offer_open, seal_open}
use Rattle.promise.proofs.Invariant.{Few, Held, Acc, Inv}
use Rattle.promise.proofs.Later.{stored_later, booked_later, there_still, sent_still, delivered_still, data_later, out_still, back_still}
use Rattle.promise.proofs.Places.{rewritten}
use Rattle.promise.proofs.Timing.{legal}
use Rattle.path.specs.Bars.{offer_bar, seal_bar}
use Rattle.path.specs.States.{State}
use Rattle.ends.specs.Numbers.{one_accepted}
use Rattle.path.specs.Steps.{with_sender}
use Rattle.store.specs.Stores.{set-number}
use Rattle.path.specs.declared.entry.Entry.{Entry}
use Rattle.path.specs.declared.entry.Entry.TheVariants.{Block, EndMark}
use Rattle.wire.specs.declared.block.Block.{Ghosts}
use Rattle.wire.specs.declared.frame.Frame.{Frame}

-- an entry more, which is x under n, or one of those before
abbrev Added : {B : Type 0} → Event B → List (Event B) → ℕ → Entry B → Type 0
Added {B} e es n x = (j : ℕ) (y : Entry B) → Accepted (e ∷ es) j y → Accepted es j y ⊎ ((j ≡ n) × (y ≡ x))

offer_adds : {B : Type 0} (x : B) (n : ℕ) (es : List (Event B)) → Added (offer x (Ok n)) es n (Block x)
offer_adds x n es j y (by_offer m) = elim (Memᴰ.cases_cons m) [ inl q ↦ inr (cc q, cc q) | inr m' ↦ inl (by_offer m') ]
offer_adds x n es j y (by_seal m) = inl (by_seal (earlier (offer x (Ok n)) es 2 (seal (Ok j)) refl (λ q. omega arith) m))

seal_adds : {B : Type 0} (n : ℕ) (es : List (Event B)) → Added (seal (Ok n)) es n EndMark
seal_adds n es j y (by_offer {x = x} m) = inl (by_offer (earlier (seal (Ok n)) es 1 (offer x (Ok j)) refl (λ q. omega arith) m))
seal_adds n es j y (by_seal m) = elim (Memᴰ.cases_cons m) [ inl q ↦ inr (cc q, refl) | inr m' ↦ inl (by_seal m') ]

module _ {B : Type 0} (b : Ghosts B) where
  abbrev Fit : Entry B → Type 0
  Fit (Block x) = b.fits x
  Fit EndMark = Unit {0}

  module _ (e : Event B) (es : List (Event B)) (n : ℕ) (x : Entry B) (new : Accepted (e ∷ es) n x) (adds : Added e es n x) where
    acc_more : Fit x → Acc b es n → Acc b (e ∷ es) (n + 1)
    acc_more fit h =
        record {
          all = λ j lo. elim (dec_lt j n) [
            | yes y ↦ (let w = h.all j y in (w.0, accepted_later e es j w.0 w.1))
            | no y ↦ (let z : n ≡ j = omega arith in (x, subst (λ k. Accepted (e ∷ es) k x) z new))
          ];
          only = λ j y m. elim (adds j y m) [ inl w ↦ omega (arith, h.only j y w) | inr w ↦ omega (arith, w.0) ];
          once = λ j y z m k. elim (adds j y m) [
            | inl w ↦ elim (adds j z k) [ inl v ↦ h.once j y z w v | inr v ↦ absurd (omega (arith, h.only j y w, v.0)) ]
            | inr w ↦ elim (adds j z k) [ inl v ↦ absurd (omega (arith, h.only j z v, w.0)) | inr v ↦ w.1 ∙ sym v.1 ]
          ];
          fits = λ j y m. elim (adds j (Block y) m) [ inl w ↦ h.fits j y w | inr w ↦ subst Fit (sym w.1) fit ];
        }

    held_more : (SW na : ℕ) (kept : List (Entry B)) → length kept ≡ SW → 1 ≤ SW → n < na + SW → Held es SW na n kept → Held (e ∷ es) SW na (n + 1) (set-number kept n x)
    held_more SW na kept size some room h =
        record {
          size = λ _. length-set kept (n % length kept) x ∙ size;
          entry = λ j lo hi. elim (rewritten EndMark kept SW j n x size some) [
            | inl w ↦
                let z : j ≡ n = window_unique SW j n w.0 (omega arith) (omega arith) in
                subst (λ y. Accepted (e ∷ es) j y) (sym w.1) (subst (λ k. Accepted (e ∷ es) k x) (sym z) new)
            | inr w ↦ elim (dec_lt j n) [
              | yes y ↦ subst (λ y. Accepted (e ∷ es) j y) (sym w.1) (accepted_later e es j _ (h.entry j lo y))
              | no y ↦ absurd (w.0 (ap (λ k. k % SW) (let z : j ≡ n = omega arith in z)))
            ]
          ];
        }

  module _ (P Q : Frame → ℕ → ℕ → Type 0) (es : List (Event B)) (s : State B) (i : Inv b P Q es s) where
    accept : (e : Event B) (x : Entry B) (z : Bool) → kind e < 3 → takes_ticks e ≡ 0 → rises e ≡ 0 → Accepted (e ∷ es) s.ends.sender.ng x → Added e es s.ends.sender.ng x → Fit x
        → Few z (s.ends.sender.ng + 1) → length s.kept ≡ s.ends.setting.terms.send_window → s.ends.sender.ng < s.ends.sender.na + s.ends.setting.terms.send_window
        → Inv b (out_more b s e P) (back_more b s e Q) (e ∷ es) (record { ends = with_sender s.ends (one_accepted z s.ends.sender); kept = set-number s.kept s.ends.sender.ng x; got = s.got; book = s.book })
    accept e x z small still flat new adds fit few size room =
        let l = legal s.ends.setting.terms in
        let u = i.nums in
        record {
          made = i.made;
          nums = record { dr = u.dr; room = u.room; ar = u.ar; rs = u.rs; sg = omega (arith, u.sg); ga = omega arith; ws = u.ws; rd = u.rd };
          few = few;
          acc = acc_more e es s.ends.sender.ng x new adds fit i.acc;
          sent = sent_still e es _ (λ q. omega arith) i.sent;
          delivered = delivered_still e es _ (λ q. omega arith) i.delivered;
          hears = omega (arith, i.hears);
          there = there_still e es _ _ (λ q. omega arith) i.there;
          held = held_more e es s.ends.sender.ng x new adds _ _ s.kept size l.sw_some room i.held;
          stored = stored_later e es _ _ _ _ _ (λ q. omega arith) i.stored;
          booked = booked_later e es _ _ i.booked;
          data_puts = λ f age n p. data_later b e es _ _ _ _ _ f age n (i.data_puts f age n (out_before b s e P still f age n (λ q. omega arith) (λ q. omega arith) p));
          ack_puts = λ f age n p. i.ack_puts f age n (back_before b s e Q still f age n (λ q. omega arith) p);
          outward = out_still b e es s still _ _ P i.outward;
          backward = back_still b e es s still _ _ Q i.backward;
        }

    unsealed : (z : Bool) → z ≡ false → Few z s.ends.sender.ng → s.ends.sender.ng ≤ 1000000
    unsealed true q h = absurd (let y : ◌≡◌ {A = ℕ} 0 1 = cc q in omega arith)
    unsealed false q h = h

    pub keeps_offer : (x : B) → b.fits x → offer_bar s.ends s.kept ≡ None
        → Inv b (out_more b s (offer x (Ok s.ends.sender.ng)) P) (back_more b s (offer x (Ok s.ends.sender.ng)) Q) (offer x (Ok s.ends.sender.ng) ∷ es)
        (record { ends = with_sender s.ends (one_accepted false s.ends.sender); kept = set-number s.kept s.ends.sender.ng (Block x); got = s.got; book = s.book })
    keeps_offer x fit free =
        let o = offer_open s.ends s.kept free in
        let few = o.3 in
        let u = i.nums in
        let full = o.1 in
        accept (offer x (Ok s.ends.sender.ng)) (Block x) false (omega arith) refl refl (by_offer (Memᴰ.head refl)) (offer_adds x s.ends.sender.ng es) fit (omega arith) o.0
        (elim (dec_lt s.ends.sender.ng (s.ends.sender.na + s.ends.setting.terms.send_window)) [ yes y ↦ y | no y ↦ absurd (full (omega arith)) ])

    pub keeps_seal : seal_bar s.ends s.kept ≡ None
        → Inv b (out_more b s (seal (Ok s.ends.sender.ng)) P) (back_more b s (seal (Ok s.ends.sender.ng)) Q) (seal (Ok s.ends.sender.ng) ∷ es)
        (record { ends = with_sender s.ends (one_accepted true s.ends.sender); kept = set-number s.kept s.ends.sender.ng EndMark; got = s.got; book = s.book })
    keeps_seal free =
        let o = seal_open s.ends s.kept free in
        let few = unsealed s.ends.sender.sealed o.2 i.few in
        let u = i.nums in
        let full = o.1 in
        accept (seal (Ok s.ends.sender.ng)) EndMark true (omega arith) refl refl (by_seal (Memᴰ.head refl)) (seal_adds s.ends.sender.ng es) tt (omega arith) o.0
        (elim (dec_lt s.ends.sender.ng (s.ends.sender.na + s.ends.setting.terms.send_window)) [ yes y ↦ y | no y ↦ absurd (full (omega arith)) ])
