-- What each call of a round does in a round: it is accepted, and leads to a known state.
use Rattle.std.proofs.Common.{◌≡◌, ℕ, ◌+◌, ◌%◌, ◌<◌, ◌≤◌, List, [], ◌∷◌, ◌++◌, length, take, drop, Some, None, Ok, Err, Option, Result, refl, ap, ◌∙◌, inl, inr, arith}
use native.Mathlib.Decide.{dec_lt}
use Rattle.std.specs.List.{remove}
use Rattle.carrier.specs.Carriers.{Aged, Joined, ticked}
use Rattle.path.specs.Events.{Event, Step, send, resend, arrive, hear, acknowledge, lose_out, lose_back, tick}
use Rattle.promise.proofs.Cyclic.{ahead_exact}
use Rattle.promise.proofs.Frames.{entry_content, entry_back, Read, ack_back, number_of}
use Rattle.promise.proofs.Gates.{acknowledge_shut, hear_shut, lose_shut, resend_shut, send_shut, arrive_shut}
use Rattle.promise.proofs.Hearing.{hearing_cases}
use Rattle.promise.proofs.Invariant.{Inv}
use Rattle.promise.proofs.Places.{rewritten}
use Rattle.promise.proofs.Reading.{same_ok, its_back, some_numbers}
use Rattle.promise.proofs.Storing.{few_at_most}
use Rattle.promise.proofs.Timing.{legal}
use Rattle.path.specs.Bars.{frame_at, far_end, near_end, admitted}
use Rattle.path.specs.States.{Ends, State}
use Rattle.ends.specs.Numbers.{one_sent, heard_of, rested, ahead}
use Rattle.path.specs.Steps.{with_sender, with_receiver, with_out, with_back, entry_frame, acknowledgement, room_left, number_in, entry_in, cyclic_in, window_in}
use Rattle.store.specs.Stores.{at_number, set-number}
use Rattle.path.specs.declared.entry.Entry.{Entry}
use Rattle.path.specs.declared.entry.Entry.TheVariants.{EndMark}
use Rattle.wire.specs.declared.block.Block.{Ghosts}
use Rattle.wire.specs.Ends.{taken_of}
use Rattle.wire.specs.declared.content.Content.{Content}
use Rattle.wire.specs.declared.content.Head.{Head}
use Rattle.wire.specs.declared.frame.Frame.{Frame}
use Rattle.refusal.specs.declared.refusals.Refusal.{Refusal}
use Rattle.wire.specs.declared.words.Words.{Words as Pair}

joined_empty : (f : Frame) (l l' : List Aged) → l ≡ [] → Joined f l l' → l' ≡ (f, 0) ∷ []
joined_empty f l l' e j =
    let k : j.0 ≡ 0 = omega (arith, j.1, ap length e) in
    j.2 ∙ (λ i. take (k i) (e i) ++ (f, 0) ∷ drop (k i) (e i))

module _ {B : Type 0} where
  abbrev pub with_ends : State B → Ends → State B
  with_ends s e = record { ends = e; kept = s.kept; got = s.got; book = s.book }

  as_ends : (s s' : State B) (e : Ends) → s'.ends ≡ e → s'.kept ≡ s.kept → s'.got ≡ s.got → s'.book ≡ s.book → s' ≡ with_ends s e
  as_ends s s' e p q r t = λ i. record { ends = p i; kept = q i; got = r i; book = t i }

  -- the acknowledgement of all in sequence, alone in the carrier back
  abbrev pub told : State B → State B
  told s = with_ends s (with_back s.ends ((acknowledgement s.ends.setting.terms.numbers s.ends.receiver.nr (room_left s.ends), 0) ∷ []))

  -- the sender has heard of all in sequence
  abbrev pub known : ℕ → State B → State B
  known w s = with_ends s (with_sender s.ends (heard_of s.ends.receiver.nr w s.ends.sender))

  -- an entry under n, alone in the carrier outward
  abbrev pub alone : (B → Pair) → ℕ → Entry B → State B → State B
  alone written n x s = with_ends s (with_out s.ends ((entry_frame written s.ends.setting.terms.numbers n x, 0) ∷ []))

module _ {B : Type 0} (b : Ghosts B) (back : (x : B) → b.fits x → b.reads (b.written x) ≡ Ok x) (P Q : Frame → ℕ → ℕ → Type 0) (es : List (Event B)) (s m : State B) (i : Inv b P Q es s) where
  pub acknowledges : (r : Result ℕ Refusal) → s.ends.back ≡ [] → Step b s (acknowledge r) m → m ≡ told s
  acknowledges (Ok n) none d =
      let h = d.does in
      let one = joined_empty _ s.ends.back m.ends.back none h.0.2 in
      as_ends s m _ (h.0.3 ∙ (λ i. with_back s.ends (one i))) h.1 h.2 h.3
  acknowledges (Err r) none d = absurd (acknowledge_shut s.ends r d.does.0.0 i.made.made (omega (arith, i.made.back_some, ap length none)))

  -- the sender hears of all in sequence, with an open window
  module _ (all-out : s.ends.receiver.nd ≡ s.ends.receiver.nr) (one : s.ends.back ≡ (acknowledgement s.ends.setting.terms.numbers s.ends.receiver.nr (room_left s.ends), 0) ∷ []) where
    its_ack : Read s.ends.setting.terms.numbers s.ends.receiver.nr (room_left s.ends)
    its_ack =
        let l = legal s.ends.setting.terms in
        let small = l.rw_small in
        ack_back s.ends.setting.terms.numbers s.ends.receiver.nr (room_left s.ends) l.n_small (some_numbers b back P Q es s i) (omega arith)

    its_head : (w : Head) → admitted (near_end s.ends) (frame_at s.ends.back 0) ≡ Ok w → w ≡ its_ack.content
    its_head w taken = same_ok _ w _ taken (ap (λ l. admitted (near_end s.ends) (frame_at l 0)) one ∙ its_ack.taken)

    pub hears : (r : Result ℕ Refusal) → Step b s (hear 0 r) m → (w : ℕ) × (1 ≤ w) × (m ≡ known w s)
    hears (Ok n) d =
        let h = d.does in
        let w = h.0.1.0 in
        let l = legal s.ends.setting.terms in
        let u = i.nums in
        let some = l.rw_some in
        let some' = l.sw_some in
        let en = l.enough in
        let is = its_head w h.0.1.1 in
        let cyclic : cyclic_in w ≡ s.ends.receiver.nr % s.ends.setting.terms.numbers = ap (λ (v : Head). cyclic_in v) is ∙ its_ack.cyclic in
        let window : window_in w ≡ room_left s.ends = ap (λ (v : Head). window_in v) is ∙ its_ack.window in
        let t = ahead s.ends.setting.terms.numbers (cyclic_in w) s.ends.sender.na in
        let to : s.ends.sender.na + t ≡ s.ends.receiver.nr =
        ap (λ c. s.ends.sender.na + ahead s.ends.setting.terms.numbers c s.ends.sender.na) cyclic
        ∙ ahead_exact s.ends.setting.terms.numbers s.ends.sender.na s.ends.receiver.nr u.ar (omega arith) in
        elim (hearing_cases s.ends.setting.terms.send_window t (window_in w) s.ends.sender) [
          | inl k ↦
              let least = k.least_is in (
                k.window,
                omega arith,
                as_ends s m _ (h.0.1.3 ∙ ap (λ a. with_sender s.ends a) (k.becomes ∙ ap (λ n. heard_of n k.window s.ends.sender) to)) h.1 h.2 h.3,
              )
          | inr k ↦ absurd (omega (arith, k.0))
        ]
    hears (Err r) d =
        absurd (hear_shut 0 s.ends r its_ack.content (ap (λ l. admitted (near_end s.ends) (frame_at l 0)) one ∙ its_ack.taken) d.does.0.0 i.made.made (omega (arith, ap length one)))

  -- the next entry in sequence, alone in the carrier, is taken
  module _ (all-out : s.ends.receiver.nd ≡ s.ends.receiver.nr) (n : ℕ) (next : n ≡ s.ends.receiver.nr) (low : s.ends.sender.na ≤ n) (sent : n < s.ends.sender.ns)
      (one : s.ends.out ≡ (entry_frame b.written s.ends.setting.terms.numbers n (at_number EndMark s.kept n), 0) ∷ []) where
    its_content : taken_of (far_end s.ends) b.reads (frame_at s.ends.out 0) ≡ Ok (entry_content (n % s.ends.setting.terms.numbers) (at_number EndMark s.kept n))
    its_content =
        let l = legal s.ends.setting.terms in
        ap (λ l. taken_of (far_end s.ends) b.reads (frame_at l 0)) one
        ∙ entry_back b.written b.reads s.ends.setting.terms.numbers l.n_small n (at_number EndMark s.kept n) (some_numbers b back P Q es s i)
        (its_back b back P Q es s i n (at_number EndMark s.kept n) (i.held.entry n low (omega (arith, i.nums.sg))))

    near : (c : Content B) → taken_of (far_end s.ends) b.reads (frame_at s.ends.out 0) ≡ Ok c → ahead s.ends.setting.terms.numbers (number_in c) s.ends.receiver.nr ≡ 0
    near c taken =
        let N = s.ends.setting.terms.numbers in
        let z = some_numbers b back P Q es s i in
        let cyclic : number_in c ≡ s.ends.receiver.nr % N = ap (λ (v : Content B). number_in v) (same_ok _ c _ taken its_content) ∙ number_of _ (at_number EndMark s.kept n) ∙ ap (λ k. k % N) next in
        let to : s.ends.receiver.nr + ahead N (number_in c) s.ends.receiver.nr ≡ s.ends.receiver.nr =
        ap (λ k. s.ends.receiver.nr + ahead N k s.ends.receiver.nr) cyclic ∙ ahead_exact N s.ends.receiver.nr s.ends.receiver.nr (omega arith) (omega arith) in
        omega arith

    pub arrives : (r : Result (Option ℕ) Refusal) → Step b s (arrive 0 r) m
        → (nr : ℕ) × (got : List (Option (Entry B))) × (s.ends.receiver.nr + 1 ≤ nr) × (m ≡ record { ends = with_receiver s.ends (record { nr = nr; nd = s.ends.receiver.nd }); kept = s.kept; got = got; book = s.book })
    arrives (Ok (Some j)) d =
        let h = d.does in
        let c = h.0.1.0 in
        let k = h.0.1.2 in
        let l = legal s.ends.setting.terms in
        let some = l.rw_some in
        let zero = near c h.0.1.1 in
        let at : j ≡ s.ends.receiver.nr = omega (arith, k.1) in
        let up = k.3 in
        let few = few_at_most s.ends.sender.sealed s.ends.sender.ng i.few in
        let sg = i.nums.sg in
        let more : s.ends.receiver.nr < m.ends.receiver.nr = elim (dec_lt s.ends.receiver.nr m.ends.receiver.nr) [
          | yes y ↦ y
          | no y ↦
              let z : m.ends.receiver.nr ≡ j = omega (arith, up.low) in
              let none = up.stops (omega arith) in
              let full : at_number None m.got m.ends.receiver.nr ≡ Some (entry_in c) =
              ap (λ g. at_number None g m.ends.receiver.nr) k.2 ∙ ap (λ n. at_number None (set-number s.got j (Some (entry_in c))) n) z
              ∙ elim (rewritten None s.got s.ends.setting.terms.receive_window j j (Some (entry_in c)) i.stored.size l.rw_some) [ inl w ↦ w.1 | inr w ↦ absurd (w.0 refl) ] in
              absurd (let q : ◌≡◌ {A = ℕ} 0 1 = cc (none, full) in omega arith)
        ] in
        (m.ends.receiver.nr, m.got, omega arith, (λ t. record { ends = k.4 t; kept = h.1 t; got = m.got; book = h.2 t }))
    arrives (Ok None) d =
        let h = d.does in
        let zero = near h.0.1.0 h.0.1.1 in
        let some = (legal s.ends.setting.terms).rw_some in
        absurd (omega (arith, h.0.1.2.0))
    arrives (Err r) d = absurd (arrive_shut b.reads 0 s.ends s.got r _ its_content d.does.0.0 i.made.made i.stored.size (omega (arith, ap length one)))

  pub strikes_back : (r : Result (Unit {0}) Refusal) (a : Aged) → s.ends.back ≡ a ∷ [] → Step b s (lose_back 0 r) m → m ≡ with_ends s (with_back s.ends [])
  strikes_back (Ok u) a one d = let h = d.does in as_ends s m _ (h.0.1 ∙ (λ i. with_back s.ends (remove (one i) 0))) h.1 h.2 h.3
  strikes_back (Err r) a one d = absurd (lose_shut 0 s.ends s.ends.back r d.does.0.0 i.made.made (omega (arith, ap length one)))

  pub strikes_out : (r : Result (Unit {0}) Refusal) (a : Aged) → s.ends.out ≡ a ∷ [] → Step b s (lose_out 0 r) m → m ≡ with_ends s (with_out s.ends [])
  strikes_out (Ok u) a one d = let h = d.does in as_ends s m _ (h.0.1 ∙ (λ i. with_out s.ends (remove (one i) 0))) h.1 h.2 h.3
  strikes_out (Err r) a one d = absurd (lose_shut 0 s.ends s.ends.out r d.does.0.0 i.made.made (omega (arith, ap length one)))

  pub resends : (r : Result ℕ Refusal) → s.ends.out ≡ [] → s.ends.sender.na < s.ends.sender.ns → Step b s (resend 0 r) m → m ≡ alone b.written (s.ends.sender.na + 0) (at_number EndMark s.kept (s.ends.sender.na + 0)) s
  resends (Ok n) none due d =
      let h = d.does in
      let one = joined_empty _ s.ends.out m.ends.out none h.0.2 in
      as_ends s m _ (h.0.3 ∙ (λ i. with_out s.ends (one i))) h.1 h.2 h.3
  resends (Err r) none due d =
      let u = i.nums in
      absurd (resend_shut s.ends s.kept 0 r d.does.0.0 i.made.made (i.held.size (omega (arith, u.sg))) (omega arith) (omega (arith, i.made.out_some, ap length none)))

  pub sends : (r : Result ℕ Refusal) → s.ends.out ≡ [] → s.ends.sender.ns < s.ends.sender.ng → s.ends.sender.ns < s.ends.sender.na + s.ends.sender.sw → s.ends.setting.terms.gap ≤ s.ends.sender.rest
      → Step b s (send r) m → m ≡ alone b.written s.ends.sender.ns (at_number EndMark s.kept s.ends.sender.ns) (with_ends s (with_sender s.ends (one_sent s.ends.sender)))
  sends (Ok n) none more free rest d =
      let h = d.does in
      let one = joined_empty _ s.ends.out m.ends.out none h.0.2 in
      as_ends s m _ (h.0.3 ∙ (λ i. with_out (with_sender s.ends (one_sent s.ends.sender)) (one i))) h.1 h.2 h.3
  sends (Err r) none more free rest d =
      absurd (send_shut s.ends s.kept r d.does.0.0 i.made.made (i.held.size (omega arith)) more free rest (omega (arith, i.made.out_some, ap length none)))

  -- a tick over empty carriers
  pub ticks : (r : Result (Unit {0}) Refusal) → s.ends.out ≡ [] → s.ends.back ≡ [] → Step b s (tick r) m → m ≡ with_ends s (with_back (with_out (with_sender s.ends (rested s.ends.setting.terms.gap s.ends.sender)) []) [])
  ticks (Ok u) out back d =
      let h = d.does in
      as_ends s m _ (h.0.1 ∙ (λ i. with_back (with_out (with_sender s.ends (rested s.ends.setting.terms.gap s.ends.sender)) (ticked s.ends.setting.out_life (out i))) (ticked s.ends.setting.back_life (back i)))) h.1 h.2 h.3
  ticks (Err r) out back d = absurd (let q : ◌≡◌ {A = ℕ} 0 1 = cc (d.does.0.0, i.made.made) in omega arith)
