-- Sends, resends and acknowledges keep the invariant, and so do losses and ticks.
use Rattle.std.proofs.Common.{◌≡◌, ℕ, ◌+◌, ◌<◌, List, ◌∷◌, None, Ok, Option, refl, ap, inl, inr, arith}
use mathlib.Core.List.Memᴰ
use mathlib.Core.List.{Memᴰ}
use native.Mathlib.Decide.{dec_lt}
use Rattle.std.specs.List.{remove, AllByRecursion}
use Rattle.carrier.specs.Carriers.{Aged, Joined, ticked}
use Rattle.path.specs.Events.{Event, send, resend, acknowledge, lose_out, lose_back, tick}
use Rattle.promise.specs.Vocabulary.{takes_ticks, Accepted, Sent, AtReceiver, ExactlyBelow, by_send, by_resend, by_acknowledge}
use Rattle.promise.proofs.Events.{out_more, back_more, out_before, back_before, send_cases, resend_cases, acknowledge_cases, accepted_later}
use Rattle.promise.proofs.Gates.{send_open, resend_open}
use Rattle.promise.proofs.Invariant.{Traced, Stored, Inv}
use Rattle.promise.proofs.Later.{held_later, stored_later, booked_later, there_still, sent_still, delivered_still, acc_still, data_later, out_still, back_still, inv_still}
use Rattle.promise.proofs.Places.{all_joined, all_struck, all_ticked}
use Rattle.promise.proofs.Timing.{legal, timed_new, timed_send, timed_tick}
use Rattle.path.specs.Bars.{send_bar, resend_bar}
use Rattle.path.specs.States.{State}
use Rattle.ends.specs.Numbers.{one_sent, rested}
use Rattle.path.specs.Steps.{with_sender, with_out, with_back, entry_frame, acknowledgement, room_left}
use Rattle.store.specs.Stores.{at_number}
use Rattle.path.specs.declared.entry.Entry.{Entry}
use Rattle.path.specs.declared.entry.Entry.TheVariants.{EndMark}
use Rattle.wire.specs.declared.block.Block.{Ghosts}
use Rattle.wire.specs.declared.frame.Frame.{Frame}

sent_more : {B : Type 0} (es : List (Event B)) (ns : ℕ) → ExactlyBelow ns (Sent es) → ExactlyBelow (ns + 1) (Sent (send (Ok ns) ∷ es))
sent_more {B} es ns h = (
  λ j lo. elim (dec_lt j ns) [
    | yes y ↦ Memᴰ.tail (h.0 j y)
    | no y ↦ (let z : j ≡ ns = omega arith in Memᴰ.head (ap (λ k. send (Ok k)) z))
  ],
  λ j m. elim (Memᴰ.cases_cons m) [ inl q ↦ (let z : j ≡ ns = cc q in omega arith) | inr m' ↦ omega (arith, h.1 j m') ],
)

more_sent : {B : Type 0} (es : List (Event B)) (RW ns nr nd : ℕ) (got : List (Option (Entry B))) → Stored es RW ns nr nd got → Stored es RW (ns + 1) nr nd got
more_sent es RW ns nr nd got h =
    record { size = h.size; sound = λ j x lo hi q. (let w = h.sound j x lo hi q in (omega (arith, w.0), w.1, w.2)); full = h.full; ends = h.ends; held = h.held }

module _ {B : Type 0} (b : Ghosts B) (P Q : Frame → ℕ → ℕ → Type 0) (es : List (Event B)) (s : State B) (i : Inv b P Q es s) where
  module _ (free : send_bar s.ends s.kept ≡ None) (out : List Aged) (joined : Joined (entry_frame b.written s.ends.setting.terms.numbers s.ends.sender.ns (at_number EndMark s.kept s.ends.sender.ns)) s.ends.out out) where
    pub keeps_send : Inv b (out_more b s (send (Ok s.ends.sender.ns)) P) (back_more b s (send (Ok s.ends.sender.ns)) Q) (send (Ok s.ends.sender.ns) ∷ es)
        (record { ends = with_out (with_sender s.ends (one_sent s.ends.sender)) out; kept = s.kept; got = s.got; book = s.book })
    keeps_send =
        let e : Event B = send (Ok s.ends.sender.ns) in
        let o = send_open s.ends s.kept free in
        let l = legal s.ends.setting.terms in
        let u = i.nums in
        let left = o.1 in
        let more : s.ends.sender.ns < s.ends.sender.ng = elim (dec_lt s.ends.sender.ns s.ends.sender.ng) [ yes y ↦ y | no y ↦ absurd (left (omega arith)) ] in
        record {
          made = i.made;
          nums = record { dr = u.dr; room = u.room; ar = u.ar; rs = omega (arith, u.rs); sg = omega arith; ga = u.ga; ws = u.ws; rd = omega arith };
          few = i.few;
          acc = acc_still b e es _ (λ q. omega arith) (λ q. omega arith) i.acc;
          sent = sent_more es _ i.sent;
          delivered = delivered_still e es _ (λ q. omega arith) i.delivered;
          hears = omega (arith, i.hears);
          there = (let t = there_still e es _ _ (λ q. omega arith) i.there in record { low = t.low; sent = λ j m. omega (arith, t.sent j m) });
          held = held_later e es _ _ _ _ i.held;
          stored = more_sent (e ∷ es) _ _ _ _ _ (stored_later e es _ _ _ _ _ (λ q. omega arith) i.stored);
          booked = booked_later e es _ _ i.booked;
          data_puts = λ f age n p. elim (send_cases b s P f age n s.ends.sender.ns p) [
            | inl w ↦
                let is : n ≡ s.ends.sender.ns = w.1 in
                let some = l.sw_some in
                record {
                  entry = at_number EndMark s.kept n;
                  is = accepted_later e es n _ (i.held.entry n (omega (arith, u.ar, u.rs)) (omega arith));
                  words = w.2;
                  below = omega arith;
                  timed = timed_new _ _ _ _ _ (omega arith);
                }
            | inr w ↦ (let d = data_later b e es _ _ _ _ _ f age n (i.data_puts f age n w) in
                record { entry = d.entry; is = d.is; words = d.words; below = omega (arith, d.below); timed = timed_send _ _ _ _ _ d.timed o.3 })
          ];
          ack_puts = λ f age n p. (let d = i.ack_puts f age n (back_before b s e Q refl f age n (λ q. omega arith) p) in
              record { window = d.window; narrow = d.narrow; words = d.words; below = d.below; timed = timed_send _ _ _ _ _ d.timed o.3 });
          outward = all_joined _ _ s.ends.out out (record { num = s.ends.sender.ns; put = inl (refl, by_send refl); young = l.l_some }) (out_still b e es s refl _ _ P i.outward) joined;
          backward = back_still b e es s refl _ _ Q i.backward;
        }

  pub keeps_resend : (j : ℕ) → resend_bar j s.ends s.kept ≡ None → (out : List Aged)
      → Joined (entry_frame b.written s.ends.setting.terms.numbers (s.ends.sender.na + j) (at_number EndMark s.kept (s.ends.sender.na + j))) s.ends.out out
      → Inv b (out_more b s (resend j (Ok (s.ends.sender.na + j))) P) (back_more b s (resend j (Ok (s.ends.sender.na + j))) Q) (resend j (Ok (s.ends.sender.na + j)) ∷ es)
      (record { ends = with_out s.ends out; kept = s.kept; got = s.got; book = s.book })
  keeps_resend j free out joined =
      let e : Event B = resend j (Ok (s.ends.sender.na + j)) in
      let o = resend_open s.ends s.kept j free in
      let l = legal s.ends.setting.terms in
      let u = i.nums in
      let low = o.1 in
      record {
        made = i.made;
        nums = record { dr = u.dr; room = u.room; ar = u.ar; rs = u.rs; sg = u.sg; ga = u.ga; ws = u.ws; rd = u.rd };
        few = i.few;
        acc = acc_still b e es _ (λ q. omega arith) (λ q. omega arith) i.acc;
        sent = sent_still e es _ (λ q. omega arith) i.sent;
        delivered = delivered_still e es _ (λ q. omega arith) i.delivered;
        hears = omega (arith, i.hears);
        there = there_still e es _ _ (λ q. omega arith) i.there;
        held = held_later e es _ _ _ _ i.held;
        stored = stored_later e es _ _ _ _ _ (λ q. omega arith) i.stored;
        booked = booked_later e es _ _ i.booked;
        data_puts = λ f age n p. elim (resend_cases b s P f age n j (s.ends.sender.na + j) p) [
          | inl w ↦
              let is : n ≡ s.ends.sender.na + j = w.1 in
              record {
                entry = at_number EndMark s.kept n;
                is = accepted_later e es n _ (i.held.entry n (omega arith) (omega (arith, u.sg)));
                words = w.2;
                below = omega arith;
                timed = timed_new _ _ _ _ _ (omega (arith, u.sg, u.ga));
              }
          | inr w ↦ data_later b e es _ _ _ _ _ f age n (i.data_puts f age n w)
        ];
        ack_puts = λ f age n p. i.ack_puts f age n (back_before b s e Q refl f age n (λ q. omega arith) p);
        outward = all_joined _ _ s.ends.out out (record { num = s.ends.sender.na + j; put = inl (refl, by_resend refl); young = l.l_some }) (out_still b e es s refl _ _ P i.outward) joined;
        backward = back_still b e es s refl _ _ Q i.backward;
      }

  pub keeps_acknowledge : (out : List Aged) → Joined (acknowledgement s.ends.setting.terms.numbers s.ends.receiver.nr (room_left s.ends)) s.ends.back out
      → Inv b (out_more b s (acknowledge (Ok s.ends.receiver.nr)) P) (back_more b s (acknowledge (Ok s.ends.receiver.nr)) Q) (acknowledge (Ok s.ends.receiver.nr) ∷ es)
      (record { ends = with_back s.ends out; kept = s.kept; got = s.got; book = s.book })
  keeps_acknowledge out joined =
      let e : Event B = acknowledge (Ok s.ends.receiver.nr) in
      let l = legal s.ends.setting.terms in
      let u = i.nums in
      record {
        made = i.made;
        nums = record { dr = u.dr; room = u.room; ar = u.ar; rs = u.rs; sg = u.sg; ga = u.ga; ws = u.ws; rd = u.rd };
        few = i.few;
        acc = acc_still b e es _ (λ q. omega arith) (λ q. omega arith) i.acc;
        sent = sent_still e es _ (λ q. omega arith) i.sent;
        delivered = delivered_still e es _ (λ q. omega arith) i.delivered;
        hears = omega (arith, i.hears);
        there = there_still e es _ _ (λ q. omega arith) i.there;
        held = held_later e es _ _ _ _ i.held;
        stored = stored_later e es _ _ _ _ _ (λ q. omega arith) i.stored;
        booked = booked_later e es _ _ i.booked;
        data_puts = λ f age n p. data_later b e es _ _ _ _ _ f age n (i.data_puts f age n (out_before b s e P refl f age n (λ q. omega arith) (λ q. omega arith) p));
        ack_puts = λ f age n p. elim (acknowledge_cases b s Q f age n s.ends.receiver.nr p) [
          | inl w ↦
              let is : n ≡ s.ends.receiver.nr = w.1 in
              let small = l.rw_small in
              record { window = room_left s.ends; narrow = omega (arith, u.dr); words = w.2; below = omega arith; timed = timed_new _ _ _ _ _ (omega arith) }
          | inr w ↦ i.ack_puts f age n w
        ];
        outward = out_still b e es s refl _ _ P i.outward;
        backward = all_joined _ _ s.ends.back out (record { num = s.ends.receiver.nr; put = inl (refl, by_acknowledge refl); young = l.l_some }) (back_still b e es s refl _ _ Q i.backward) joined;
      }

  -- other lists in the carriers, each frame traced
  relisted : (out back : List Aged) → AllByRecursion (Traced P s.ends.setting.terms.lifetime) out → AllByRecursion (Traced Q s.ends.setting.terms.lifetime) back
      → Inv b P Q es (record { ends = with_back (with_out s.ends out) back; kept = s.kept; got = s.got; book = s.book })
  relisted out back o k =
      let u = i.nums in
      record {
        made = i.made;
        nums = record { dr = u.dr; room = u.room; ar = u.ar; rs = u.rs; sg = u.sg; ga = u.ga; ws = u.ws; rd = u.rd };
        few = i.few;
        acc = i.acc;
        sent = i.sent;
        delivered = i.delivered;
        hears = i.hears;
        there = i.there;
        held = i.held;
        stored = i.stored;
        booked = i.booked;
        data_puts = i.data_puts;
        ack_puts = i.ack_puts;
        outward = o;
        backward = k;
      }

  pub keeps_lose_out : (place : ℕ) → Inv b (out_more b s (lose_out place (Ok tt)) P) (back_more b s (lose_out place (Ok tt)) Q) (lose_out place (Ok tt) ∷ es)
      (record { ends = with_out s.ends (remove s.ends.out place); kept = s.kept; got = s.got; book = s.book })
  keeps_lose_out place = inv_still b (lose_out place (Ok tt)) es P Q s _ refl refl refl (relisted (remove s.ends.out place) s.ends.back (all_struck _ s.ends.out place i.outward) i.backward)

  pub keeps_lose_back : (place : ℕ) → Inv b (out_more b s (lose_back place (Ok tt)) P) (back_more b s (lose_back place (Ok tt)) Q) (lose_back place (Ok tt) ∷ es)
      (record { ends = with_back s.ends (remove s.ends.back place); kept = s.kept; got = s.got; book = s.book })
  keeps_lose_back place = inv_still b (lose_back place (Ok tt)) es P Q s _ refl refl refl (relisted s.ends.out (remove s.ends.back place) i.outward (all_struck _ s.ends.back place i.backward))

  -- a tick makes each put one tick older
  tick_put : (f : Frame) (age n : ℕ) → out_more b s (tick (Ok tt)) P f age n → (old : ℕ) × (old + 1 ≡ age) × P f old n
  tick_put f age n p = elim p [ inl q ↦ absurd (none f n (tick (Ok tt)) refl q.1) | inr q ↦ q ]
    where
      none : (f : Frame) (n : ℕ) (e : Event B) → e ≡ tick (Ok tt) → Rattle.promise.specs.Vocabulary.PutsOut b f n s e → ⊥
      none f n e q (by_send w) = let z : ◌≡◌ {A = ℕ} 0 1 = cc q in omega arith
      none f n e q (by_resend w) = let z : ◌≡◌ {A = ℕ} 0 1 = cc q in omega arith

  tick_ack : (f : Frame) (age n : ℕ) → back_more b s (tick (Ok tt)) Q f age n → (old : ℕ) × (old + 1 ≡ age) × Q f old n
  tick_ack f age n p = elim p [ inl q ↦ absurd (none f n (tick (Ok tt)) refl q.1) | inr q ↦ q ]
    where
      none : (f : Frame) (n : ℕ) (e : Event B) → e ≡ tick (Ok tt) → Rattle.promise.specs.Vocabulary.PutsBack b f n s e → ⊥
      none f n e q (by_acknowledge w) = let z : ◌≡◌ {A = ℕ} 0 1 = cc q in omega arith

  pub keeps_tick : Inv b (out_more b s (tick (Ok tt)) P) (back_more b s (tick (Ok tt)) Q) (tick (Ok tt) ∷ es)
      (record { ends = with_back (with_out (with_sender s.ends (rested s.ends.setting.terms.gap s.ends.sender)) (ticked s.ends.setting.out_life s.ends.out)) (ticked s.ends.setting.back_life s.ends.back); kept = s.kept; got = s.got; book = s.book })
  keeps_tick =
      let e : Event B = tick (Ok tt) in
      let u = i.nums in
      let short-out = i.made.out_short in
      let short_back = i.made.back_short in
      record {
        made = i.made;
        nums = record { dr = u.dr; room = u.room; ar = u.ar; rs = u.rs; sg = u.sg; ga = u.ga; ws = u.ws; rd = omega arith };
        few = i.few;
        acc = acc_still b e es _ (λ q. omega arith) (λ q. omega arith) i.acc;
        sent = sent_still e es _ (λ q. omega arith) i.sent;
        delivered = delivered_still e es _ (λ q. omega arith) i.delivered;
        hears = omega (arith, i.hears);
        there = there_still e es _ _ (λ q. omega arith) i.there;
        held = held_later e es _ _ _ _ i.held;
        stored = stored_later e es _ _ _ _ _ (λ q. omega arith) i.stored;
        booked = booked_later e es _ _ i.booked;
        data_puts = λ f age n p.
            (let w = tick_put f age n p in
            let d = data_later b e es _ _ _ _ _ f w.0 n (i.data_puts f w.0 n w.2) in
            record { entry = d.entry; is = d.is; words = d.words; below = d.below; timed = timed_tick _ _ _ _ _ d.timed age w.1 });
        ack_puts = λ f age n p.
            (let w = tick_ack f age n p in
            let d = i.ack_puts f w.0 n w.2 in
            record { window = d.window; narrow = d.narrow; words = d.words; below = d.below; timed = timed_tick _ _ _ _ _ d.timed age w.1 });
        outward = all_ticked _ _ s.ends.setting.out_life (λ a t y. record { num = t.num; put = inr (a.1, refl, t.put); young = omega arith }) s.ends.out i.outward;
        backward = all_ticked _ _ s.ends.setting.back_life (λ a t y. record { num = t.num; put = inr (a.1, refl, t.put); young = omega arith }) s.ends.back i.backward;
      }
