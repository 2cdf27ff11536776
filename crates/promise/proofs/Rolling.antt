-- Rounds bring every accepted entry through.
use Rattle.std.proofs.Common.{◌≡◌, ℕ, zero, suc, ◌+◌, ◌-◌, ◌<◌, ◌≤◌, min, false, ◌⊎◌, List, [], ◌∷◌, length, Some, None, Ok, Err, Option, Result, sym, refl, ap, ◌∙◌, subst, inl, inr, ⊎_elim, add-one, arith, length-set}
use native.Mathlib.Decide.{dec_lt}
use Rattle.std.proofs.ByRecursion.{All-weaker}
use Rattle.std.proofs.lemmas.Bool.Decides.{nat_tests}
use Rattle.std.specs.List.{AllByRecursion}
use Rattle.carrier.specs.Carriers.{Aged}
use Rattle.path.specs.Events.{Event, Step, History, Fresh, send, resend, arrive, hear, deliver, acknowledge, lose_out, lose_back, tick, then}
use Rattle.promise.specs.Promise.{BothEmpty, BookLong, Progress, InBook}
use Rattle.path.specs.Rounds.{Ticks, Delivers, Opens, Lands, Closes, again, first, stop, Round, round_bar, Rounded, Rounds}
use Rattle.path.specs.Rounds as R
use Rattle.promise.specs.Vocabulary.{Accepted, Ago, PutsOut, PutsBack}
use Rattle.promise.proofs.Calling.{with_ends, told, known, alone, acknowledges, hears, arrives, strikes_back, strikes_out, resends, sends, ticks}
use Rattle.promise.proofs.Events.{accepted_later}
use Rattle.promise.proofs.Gates.{deliver_shut}
use Rattle.promise.proofs.Invariant.{Inv}
use Rattle.promise.proofs.Keeps.{holds}
use Rattle.promise.proofs.Places.{all_ticked, none_left}
use Rattle.promise.proofs.Right.{in_book}
use Rattle.promise.proofs.Settings.{setting_kept}
use Rattle.promise.proofs.Timing.{legal}
use Rattle.path.specs.Bars.{past_book, deliver_bar}
use Rattle.ends.specs.Numbers.{Sends}
use Rattle.path.specs.States.{Setting, Ends, State}
use Rattle.ends.specs.Numbers.{one_sent, heard_of, rested}
use Rattle.path.specs.Steps.{with_sender, with_receiver, with_out, with_back, booked, entry_frame, acknowledgement, room_left}
use Rattle.store.specs.Stores.{at_number}
use Rattle.path.specs.declared.entry.Entry.{Entry}
use Rattle.path.specs.declared.entry.Entry.TheVariants.{Block, EndMark}
use Rattle.wire.specs.declared.block.Block.{Ghosts}
use Rattle.refusal.specs.declared.refusals.Refusal.{Refusal}

length-booked : {B : Type 0} (o : Option (Entry B)) (nd : ℕ) (book : List B) → length (booked o nd book) ≡ length book
length-booked (Some (Block x)) nd book = length-set book nd x
length-booked (Some EndMark) nd book = refl
length-booked None nd book = refl

not_past : {B : Type 0} (x : Entry B) (nd places : ℕ) → ((y : B) → x ≡ Block y → nd < places) → past_book (Some x) nd places ≡ false
not_past (Block y) nd places f = let h = f y refl in grind (arith, nat_tests)
not_past EndMark nd places f = refl

abbrev resting : ℕ → Sends → Sends
resting rest a = record { ng = a.ng; ns = a.ns; na = a.na; sw = a.sw; rest = rest; sealed = a.sealed }

module _ {B : Type 0} (b : Ghosts B) (back : (x : B) → b.fits x → b.reads (b.written x) ≡ Ok x) (past : List (Event B)) (count : ℕ) where
  -- a history that accepted what a history before it did, and nothing more
  pub record Onward (s : State B) : Type 0 where
    pub events : List (Event B)
    pub history : History b events s
    pub free : Fresh b s
    pub later : (j : ℕ) (x : Entry B) → Accepted past j x → Accepted events j x
    pub same : s.ends.sender.ng ≡ count

  pub inv : (s : State B) (o : Onward s) → Inv b (λ f age n. Ago b (PutsOut b f n) age o.history) (λ f age n. Ago b (PutsBack b f n) age o.history) o.events s
  inv s o = holds b back o.events s o.history o.free

  -- the calls of a round, along such a history
  module _ (s m : State B) (o : Onward s) where
    acks : (r : Result ℕ Refusal) → s.ends.back ≡ [] → Step b s (acknowledge r) m → m ≡ told s
    acks = acknowledges b back _ _ _ s m (inv s o)

    hearkens : s.ends.receiver.nd ≡ s.ends.receiver.nr → s.ends.back ≡ (acknowledgement s.ends.setting.terms.numbers s.ends.receiver.nr (room_left s.ends), 0) ∷ []
        → (r : Result ℕ Refusal) → Step b s (hear 0 r) m → (w : ℕ) × (1 ≤ w) × (m ≡ known w s)
    hearkens = hears b back _ _ _ s m (inv s o)

    clears_back : (r : Result (Unit {0}) Refusal) (a : Aged) → s.ends.back ≡ a ∷ [] → Step b s (lose_back 0 r) m → m ≡ with_ends s (with_back s.ends [])
    clears_back = strikes_back b back _ _ _ s m (inv s o)

    clears_out : (r : Result (Unit {0}) Refusal) (a : Aged) → s.ends.out ≡ a ∷ [] → Step b s (lose_out 0 r) m → m ≡ with_ends s (with_out s.ends [])
    clears_out = strikes_out b back _ _ _ s m (inv s o)

    takes_in : s.ends.receiver.nd ≡ s.ends.receiver.nr → (n : ℕ) → n ≡ s.ends.receiver.nr → s.ends.sender.na ≤ n → n < s.ends.sender.ns
        → s.ends.out ≡ (entry_frame b.written s.ends.setting.terms.numbers n (at_number EndMark s.kept n), 0) ∷ [] → (r : Result (Option ℕ) Refusal) → Step b s (arrive 0 r) m
        → (nr : ℕ) × (got : List (Option (Entry B))) × (s.ends.receiver.nr + 1 ≤ nr) × (m ≡ record { ends = with_receiver s.ends (record { nr = nr; nd = s.ends.receiver.nd }); kept = s.kept; got = got; book = s.book })
    takes_in = arrives b back _ _ _ s m (inv s o)

    goes_again : (r : Result ℕ Refusal) → s.ends.out ≡ [] → s.ends.sender.na < s.ends.sender.ns → Step b s (resend 0 r) m → m ≡ alone b.written (s.ends.sender.na + 0) (at_number EndMark s.kept (s.ends.sender.na + 0)) s
    goes_again = resends b back _ _ _ s m (inv s o)

    goes_first : (r : Result ℕ Refusal) → s.ends.out ≡ [] → s.ends.sender.ns < s.ends.sender.ng → s.ends.sender.ns < s.ends.sender.na + s.ends.sender.sw → s.ends.setting.terms.gap ≤ s.ends.sender.rest
        → Step b s (send r) m → m ≡ alone b.written s.ends.sender.ns (at_number EndMark s.kept s.ends.sender.ns) (with_ends s (with_sender s.ends (one_sent s.ends.sender)))
    goes_first = sends b back _ _ _ s m (inv s o)

    waits_empty : (r : Result (Unit {0}) Refusal) → s.ends.out ≡ [] → s.ends.back ≡ [] → Step b s (tick r) m → m ≡ with_ends s (with_back (with_out (with_sender s.ends (rested s.ends.setting.terms.gap s.ends.sender)) []) [])
    waits_empty = ticks b back _ _ _ s m (inv s o)

  onward : (s m : State B) (o : Onward s) (e : Event B) → Step b s e m → m.ends.sender.ng ≡ count → Onward m
  onward s m o e d q = record { events = e ∷ o.events; history = then o.history d; free = ap (λ (z : Setting). z.refused) (setting_kept b s m e d) ∙ o.free; later = λ j x h. accepted_later e o.events j x (o.later j x h); same = q }

  -- a step to a known state
  go : (s m t : State B) (o : Onward s) (e : Event B) → Step b s e m → m ≡ t → t.ends.sender.ng ≡ s.ends.sender.ng → Onward t
  go s m t o e d q n = subst Onward q (onward s m o e d (ap (λ (v : State B). v.ends.sender.ng) q ∙ n ∙ o.same))

  module _ (whole : (j : ℕ) → j < count → (x : Entry B) × Accepted past j x) where
    -- everything in sequence is delivered
    record Drained (s m : State B) : Type 0 where
      got : List (Option (Entry B))
      book : List B
      is : m ≡ record { ends = with_receiver s.ends (record { nr = s.ends.receiver.nr; nd = s.ends.receiver.nr }); kept = s.kept; got = got; book = book }
      size : length book ≡ length s.book
      onto : Onward m

    none_due : (s : State B) (o : Onward s) (r : Refusal) → BookLong past s → deliver_bar s.ends s.got s.book ≡ Some r → s.ends.receiver.nd ≡ s.ends.receiver.nr
    none_due s o r long h =
        let i = inv s o in
        let u = i.nums in
        elim (dec_lt s.ends.receiver.nd s.ends.receiver.nr) [
          | yes y ↦
              let x = i.stored.full s.ends.receiver.nd (omega arith) y in
              let some = (legal s.ends.setting.terms).rw_some in
              let v = i.stored.sound s.ends.receiver.nd x.0 (omega arith) (omega arith) x.1 in
              let w = whole s.ends.receiver.nd (omega (arith, o.same, v.0)) in
              let is = i.acc.once s.ends.receiver.nd w.0 x.0 (o.later _ w.0 w.1) v.1 in
              let free = not_past x.0 s.ends.receiver.nd (length s.book) (λ z q. long s.ends.receiver.nd z (subst (λ k. Accepted past s.ends.receiver.nd k) (is ∙ q) w.1)) in
              deliver_shut s.ends s.got s.book r h i.made.made i.stored.size (ap (λ k. past_book k s.ends.receiver.nd (length s.book)) x.1 ∙ free)
          | no y ↦ omega arith
        ]

    drains : (n : ℕ) (s m : State B) → Onward s → BookLong past s → Delivers b n s m → Drained s m
    drains n s m o long (R.Delivers.none {r = r} h) =
        let q = none_due s o r long h in
        record { got = s.got; book = s.book; is = λ i. record { ends = with_receiver s.ends (record { nr = s.ends.receiver.nr; nd = q i }); kept = s.kept; got = s.got; book = s.book }; size = refl; onto = o }
    drains (suc n) s m o long (R.Delivers.more {j = j} {m = t} d rest) =
        let h = d.does in
        let o' = onward s t o (deliver (Ok j)) d (ap (λ (v : Ends). v.sender.ng) h.0.2 ∙ o.same) in
        let size : length t.book ≡ length s.book = ap length h.0.4 ∙ length-booked (at_number None s.got s.ends.receiver.nd) s.ends.receiver.nd s.book in
        let r = drains n t m o' (λ k x a. omega (arith, long k x a)) rest in
        record {
          got = r.got;
          book = r.book;
          is = r.is ∙ (λ i. record { ends = with_receiver (h.0.2 i) (record { nr = (h.0.2 i).receiver.nr; nd = (h.0.2 i).receiver.nr }); kept = h.1 i; got = r.got; book = r.book });
          size = r.size ∙ size;
          onto = r.onto;
        }

    -- the sender has heard of all that is in sequence
    record Opened (s m : State B) : Type 0 where
      window : ℕ
      some : 1 ≤ window
      is : m ≡ with_ends s (with_back (with_sender s.ends (heard_of s.ends.receiver.nr window s.ends.sender)) [])
      onto : Onward m

    struck : (s t m : State B) (w : ℕ) → Onward t → 1 ≤ w → t ≡ known w (told s) → (r : Result (Unit {0}) Refusal) → Step b t (lose_back 0 r) m → Opened s m
    struck s t m w o some q r d =
        let u = known w (told s) in
        let o' = subst Onward q o in
        let d' = subst (λ v. Step b v (lose_back 0 r) m) q d in
        let p = clears_back u m o' r _ refl d' in
        record { window = w; some = some; is = p; onto = subst Onward (sym p) (go u m (with_ends u (with_back u.ends [])) o' (lose_back 0 r) d' p refl) }

    opened : (s t k m : State B) → Onward s → s.ends.receiver.nd ≡ s.ends.receiver.nr → s.ends.back ≡ [] → (r : Result ℕ Refusal) → Step b s (acknowledge r) t → (r' : Result ℕ Refusal) → Step b t (hear 0 r') k
        → (r'' : Result (Unit {0}) Refusal) → Step b k (lose_back 0 r'') m → Opened s m
    opened s t k m o all-out none r d r' d' r'' d'' =
        let q = acks s t o r none d in
        let o' = go s t (told s) o (acknowledge r) d q refl in
        let d₁ = subst (λ v. Step b v (hear 0 r') k) q d' in
        let h = hearkens (told s) k o' all-out refl r' d₁ in
        let o'' = onward (told s) k o' (hear 0 r') d₁ (ap (λ (v : State B). v.ends.sender.ng) h.2 ∙ o.same) in
        struck s k m h.0 o'' h.1 h.2 r'' d''

    -- the next entry in sequence arrives
    record Landed (s m : State B) : Type 0 where
      nr : ℕ
      got : List (Option (Entry B))
      more : s.ends.receiver.nr + 1 ≤ nr
      is : m ≡ record { ends = with_out (with_receiver s.ends (record { nr = nr; nd = s.ends.receiver.nd })) []; kept = s.kept; got = got; book = s.book }
      onto : Onward m

    lands : (s m : State B) → Onward s → s.ends.receiver.nd ≡ s.ends.receiver.nr → (n : ℕ) → n ≡ s.ends.receiver.nr → s.ends.sender.na ≤ n → n < s.ends.sender.ns
        → s.ends.out ≡ (entry_frame b.written s.ends.setting.terms.numbers n (at_number EndMark s.kept n), 0) ∷ [] → Lands b s m → Landed s m
    lands s m o all-out n next low sent one l =
        let a = takes_in s l.there o all-out n next low sent one l.arrives.0 l.arrives.1 in
        let t : State B = record { ends = with_receiver s.ends (record { nr = a.0; nd = s.ends.receiver.nd }); kept = s.kept; got = a.1; book = s.book } in
        let o' = go s l.there t o (arrive 0 l.arrives.0) l.arrives.1 a.3 refl in
        let d = subst (λ v. Step b v (lose_out 0 l.strikes.0) m) a.3 l.strikes.1 in
        let p = clears_out t m o' l.strikes.0 _ one d in
        record { nr = a.0; got = a.1; more = a.2; is = p; onto = onward t m o' (lose_out 0 l.strikes.0) d (ap (λ (v : State B). v.ends.sender.ng) p ∙ o.same) }

    -- ticks over empty carriers
    record Rested (n : ℕ) (s m : State B) : Type 0 where
      rest : ℕ
      least : min (s.ends.sender.rest + n) s.ends.setting.terms.gap ≤ rest
      is : m ≡ with_ends s (with_back (with_out (with_sender s.ends (resting rest s.ends.sender)) []) [])
      onto : Onward m

    rests : (n : ℕ) (s m : State B) → Onward s → s.ends.out ≡ [] → s.ends.back ≡ [] → Ticks b n s m → Rested n s m
    rests zero s m o out back' R.Ticks.none =
        record { rest = s.ends.sender.rest; least = omega arith; is = λ i. with_ends s (with_back (with_out s.ends (out i)) (back' i)); onto = o }
    rests (suc n) s m o out back' (R.Ticks.more {r = r} {m = t} d ts) =
        let q = waits_empty s t o r out back' d in
        let o' = onward s t o (tick r) d (ap (λ (v : State B). v.ends.sender.ng) q ∙ o.same) in
        let x = rests n t m o' (ap (λ (v : State B). v.ends.out) q) (ap (λ (v : State B). v.ends.back) q) ts in
        let rest : t.ends.sender.rest ≡ min (s.ends.sender.rest + 1) s.ends.setting.terms.gap = ap (λ (v : State B). v.ends.sender.rest) q in
        let gap : t.ends.setting.terms.gap ≡ s.ends.setting.terms.gap = ap (λ (v : State B). v.ends.setting.terms.gap) q in
        let least = x.least in
        record { rest = x.rest; least = omega arith; is = x.is ∙ (λ i. with_ends (q i) (with_back (with_out (with_sender (q i).ends (resting x.rest (q i).ends.sender)) []) [])); onto = x.onto }

    -- what a round does
    record After (s m : State B) : Type 0 where
      onto : Onward m
      out : m.ends.out ≡ []
      back_none : m.ends.back ≡ []
      rises : (s.ends.receiver.nr + 1 ≤ m.ends.receiver.nr) ⊎ (m.ends.receiver.nr ≡ count)
      ends : s.ends.receiver.nr ≡ count → (m.ends.receiver.nd ≡ count) × (m.ends.sender.na ≡ count)
      size : length m.book ≡ length s.book

    -- from a state that has the next entry alone in the carrier outward
    lifted : (s u m : State B) → Landed u m → u.ends.back ≡ [] → u.ends.receiver.nr ≡ s.ends.receiver.nr → length u.book ≡ length s.book → (s.ends.receiver.nr ≡ count → ⊥) → After s m
    lifted s u m l none nr book left =
        let p = l.is in
        let more = l.more in
        let up : m.ends.receiver.nr ≡ l.nr = ap (λ (v : State B). v.ends.receiver.nr) p in
        record {
          onto = l.onto;
          out = ap (λ (v : State B). v.ends.out) p;
          back_none = ap (λ (v : State B). v.ends.back) p ∙ none;
          rises = inl (omega arith);
          ends = λ f. absurd (left f);
          size = ap (λ (v : State B). length v.book) p ∙ book;
        }

    resent : (s t m : State B) → Onward s → s.ends.out ≡ [] → s.ends.back ≡ [] → s.ends.sender.na ≡ s.ends.receiver.nr → s.ends.receiver.nd ≡ s.ends.receiver.nr → s.ends.sender.na < s.ends.sender.ns
        → (r : Result ℕ Refusal) → Step b s (resend 0 r) t → Lands b t m → After s m
    resent s t m o out none e d h r k l =
        let i = inv s o in
        let q = goes_again s t o r out h k in
        let u = alone b.written (s.ends.sender.na + 0) (at_number EndMark s.kept (s.ends.sender.na + 0)) s in
        let o' = go s t u o (resend 0 r) k q refl in
        let l' = lands u m o' d (s.ends.sender.na + 0) (omega arith) (omega arith) (omega arith) refl (subst (λ v. Lands b v m) q l) in
        lifted s u m l' none refl refl (λ f. omega (arith, i.nums.sg, o.same))

    sent : (s t m : State B) → Onward s → s.ends.out ≡ [] → s.ends.back ≡ [] → s.ends.sender.na ≡ s.ends.receiver.nr → s.ends.receiver.nd ≡ s.ends.receiver.nr → s.ends.sender.ns ≡ s.ends.sender.na
        → s.ends.sender.ns < s.ends.sender.ng → 1 ≤ s.ends.sender.sw → s.ends.setting.terms.gap ≤ s.ends.sender.rest → (r : Result ℕ Refusal) → Step b s (send r) t → Lands b t m → After s m
    sent s t m o out none e d g h w rest r k l =
        let q = goes_first s t o r out h (omega arith) rest k in
        let u = alone b.written s.ends.sender.ns (at_number EndMark s.kept s.ends.sender.ns) (with_ends s (with_sender s.ends (one_sent s.ends.sender))) in
        let o' = go s t u o (send r) k q refl in
        let l' = lands u m o' d s.ends.sender.ns (omega arith) (omega arith) (omega arith) refl (subst (λ v. Lands b v m) q l) in
        lifted s u m l' none refl refl (λ f. omega (arith, o.same))

    -- after ticks over empty carriers
    later_sent : (s t v m : State B) → Rested s.ends.setting.terms.gap s t → s.ends.sender.na ≡ s.ends.receiver.nr → s.ends.receiver.nd ≡ s.ends.receiver.nr → s.ends.sender.ns ≡ s.ends.sender.na
        → s.ends.sender.ns < s.ends.sender.ng → 1 ≤ s.ends.sender.sw → (r : Result ℕ Refusal) → Step b t (send r) v → Lands b v m → After s m
    later_sent s t v m x e d g h w r k l =
        let p = x.is in
        let least = x.least in
        let na : t.ends.sender.na ≡ s.ends.sender.na = ap (λ (y : State B). y.ends.sender.na) p in
        let ns : t.ends.sender.ns ≡ s.ends.sender.ns = ap (λ (y : State B). y.ends.sender.ns) p in
        let ng : t.ends.sender.ng ≡ s.ends.sender.ng = ap (λ (y : State B). y.ends.sender.ng) p in
        let sw : t.ends.sender.sw ≡ s.ends.sender.sw = ap (λ (y : State B). y.ends.sender.sw) p in
        let rest : t.ends.sender.rest ≡ x.rest = ap (λ (y : State B). y.ends.sender.rest) p in
        let nr : t.ends.receiver.nr ≡ s.ends.receiver.nr = ap (λ (y : State B). y.ends.receiver.nr) p in
        let nd : t.ends.receiver.nd ≡ s.ends.receiver.nd = ap (λ (y : State B). y.ends.receiver.nd) p in
        let gap : t.ends.setting.terms.gap ≡ s.ends.setting.terms.gap = ap (λ (y : State B). y.ends.setting.terms.gap) p in
        let a = sent t v m x.onto (ap (λ (y : State B). y.ends.out) p) (ap (λ (y : State B). y.ends.back) p) (omega arith) (omega arith) (omega arith) (omega arith) (omega arith) (omega arith) r k l in
        record {
          onto = a.onto;
          out = a.out;
          back_none = a.back_none;
          rises = ⊎_elim (λ y. inl (omega arith)) (λ y. inr y) a.rises;
          ends = λ f. a.ends (nr ∙ f);
          size = a.size ∙ ap (λ (y : State B). length y.book) p;
        }

    closes : (s m : State B) → Onward s → s.ends.out ≡ [] → s.ends.back ≡ [] → 1 ≤ s.ends.sender.sw → s.ends.sender.na ≡ s.ends.receiver.nr → s.ends.receiver.nd ≡ s.ends.receiver.nr → Closes b s m → After s m
    closes s m o out none w e d (again {m = t} h k l) = resent s t m o out none e d h k.0 k.1 l
    closes s m o out none w e d (first {t = t} {m = v} g h z ts k l) = later_sent s t v m (rests s.ends.setting.terms.gap s t o out none ts) e d g h z k.0 k.1 l
    closes s m o out none w e d (stop g n) =
        let i = inv s o in
        let all : s.ends.sender.ns ≡ s.ends.sender.ng = elim (dec_lt s.ends.sender.ns s.ends.sender.ng) [ yes y ↦ absurd (n y w) | no y ↦ omega (arith, i.nums.sg) ] in
        record { onto = o; out = out; back_none = none; rises = inr (omega (arith, o.same)); ends = λ f. (omega arith, omega arith); size = refl }

    rolls : (n : ℕ) (s m : State B) → Onward s → s.ends.out ≡ [] → s.ends.back ≡ [] → BookLong past s → Round b n s m → After s m
    rolls n s m o out none long r =
        let p = r.opens in
        let x = drains n s p.stored o long p.delivers in
        let t : State B = record { ends = with_receiver s.ends (record { nr = s.ends.receiver.nr; nd = s.ends.receiver.nr }); kept = s.kept; got = x.got; book = x.book } in
        let o₁ = subst Onward x.is x.onto in
        let d₁ = subst (λ v. Step b v (acknowledge p.acknowledges.0) p.told) x.is p.acknowledges.1 in
        let y = opened t p.told p.known r.half o₁ refl none p.acknowledges.0 d₁ p.hears.0 p.hears.1 p.strikes.0 p.strikes.1 in
        let u = with_ends t (with_back (with_sender t.ends (heard_of t.ends.receiver.nr y.window t.ends.sender)) []) in
        let c = closes u m (subst Onward y.is y.onto) out refl y.some refl refl (subst (λ v. Closes b v m) y.is r.closes) in
        record { onto = c.onto; out = c.out; back_none = c.back_none; rises = c.rises; ends = c.ends; size = c.size ∙ x.size }

    round_shut : (s : State B) (r : Refusal) → round_bar b s ≡ Some r → Fresh b s → length s.kept ≡ s.ends.setting.terms.send_window → length s.got ≡ s.ends.setting.terms.receive_window → length s.ends.out ≡ 0 → length s.ends.back ≡ 0 → ⊥
    round_shut s r h free k g o n = grind (arith, nat_tests)

    -- a round is refused only where nothing was ever accepted
    called : (s m : State B) (r : Result ℕ Refusal) → Onward s → s.ends.out ≡ [] → s.ends.back ≡ [] → BookLong past s → Rounded b s r m → After s m
    called s m (Ok n) o out none long d = rolls n s m o out none long d.1
    called s m (Err r) o out none long d =
        let i = inv s o in
        let u = i.nums in
        let q = d.1 in
        elim (dec_lt 0 count) [
          | yes y ↦ absurd (round_shut s r d.0 o.free (i.held.size (omega (arith, o.same))) i.stored.size (ap length out) (ap length none))
          | no y ↦ subst (λ v. After s v) (sym q) (record {
            onto = o;
            out = out;
            back_none = none;
            rises = inr (omega (arith, o.same, u.rs, u.sg));
            ends = λ f. (omega (arith, o.same, u), omega (arith, o.same, u));
            size = refl;
          })
        ]

    record Through (m : State B) : Type 0 where
      onto : Onward m
      nd_all : m.ends.receiver.nd ≡ count
      na_all : m.ends.sender.na ≡ count

    through : (k : ℕ) (s m : State B) → Onward s → s.ends.out ≡ [] → s.ends.back ≡ [] → BookLong past s → count ≤ s.ends.receiver.nr + k → Rounds b (suc k) s m → Through m
    through zero s m o out none long h (R.Rounds.more {m = t} r R.Rounds.none) =
        let a = called s m r.0 o out none long r.1 in
        let i = inv s o in
        let e = a.ends (omega (arith, i.nums.rs, i.nums.sg, o.same)) in
        record { onto = a.onto; nd_all = e.0; na_all = e.1 }
    through (suc k) s m o out none long h (R.Rounds.more {m = t} r rs) =
        let a = called s t r.0 o out none long r.1 in
        through k t m a.onto a.out a.back_none (λ j x q. omega (arith, long j x q, a.size)) (⊎_elim (λ y. omega arith) (λ y. omega arith) a.rises) rs

  -- ticks, whatever the carriers hold
  record Waited (k : ℕ) (s m : State B) : Type 0 where
    setting : m.ends.setting ≡ s.ends.setting
    na : m.ends.sender.na ≡ s.ends.sender.na
    nr : m.ends.receiver.nr ≡ s.ends.receiver.nr
    book : m.book ≡ s.book
    out : AllByRecursion (λ (a : Aged). k ≤ a.1) m.ends.out
    back_old : AllByRecursion (λ (a : Aged). k ≤ a.1) m.ends.back
    onto : Onward m

  waits_one : (k : ℕ) (s t : State B) (r : Result (Unit {0}) Refusal) → Onward s → AllByRecursion (λ (a : Aged). k ≤ a.1) s.ends.out → AllByRecursion (λ (a : Aged). k ≤ a.1) s.ends.back → Step b s (tick r) t → Waited (k + 1) s t
  waits_one k s t (Ok u) o out old d =
      let h = d.does in
      let q = h.0.1 in
      record {
        setting = ap (λ (v : Ends). v.setting) q;
        na = ap (λ (v : Ends). v.sender.na) q;
        nr = ap (λ (v : Ends). v.receiver.nr) q;
        book = h.3;
        out = subst (λ l. AllByRecursion (λ (a : Aged). k + 1 ≤ a.1) l) (sym (ap (λ (v : Ends). v.out) q)) (all_ticked _ _ s.ends.setting.out_life (λ a x y. omega arith) s.ends.out out);
        back_old = subst (λ l. AllByRecursion (λ (a : Aged). k + 1 ≤ a.1) l) (sym (ap (λ (v : Ends). v.back) q)) (all_ticked _ _ s.ends.setting.back_life (λ a x y. omega arith) s.ends.back old);
        onto = onward s t o (tick (Ok u)) d (ap (λ (v : Ends). v.sender.ng) q ∙ o.same);
      }
  waits_one k s t (Err x) o out old d = absurd (let z : ◌≡◌ {A = ℕ} 0 1 = cc (d.does.0.0, (inv s o).made.made) in omega arith)

  waits : (n k : ℕ) (s m : State B) → Onward s → AllByRecursion (λ (a : Aged). k ≤ a.1) s.ends.out → AllByRecursion (λ (a : Aged). k ≤ a.1) s.ends.back → Ticks b n s m → Waited (k + n) s m
  waits zero k s m o out old R.Ticks.none =
      record { setting = refl; na = refl; nr = refl; book = refl; out = All-weaker _ _ (λ a h. omega arith) s.ends.out out; back_old = All-weaker _ _ (λ a h. omega arith) s.ends.back old; onto = o }
  waits (suc n) k s m o out old (R.Ticks.more {r = r} {m = t} d rest) =
      let v = waits_one k s t r o out old d in
      let w = waits n (k + 1) t m v.onto v.out v.back_old rest in
      record {
        setting = w.setting ∙ v.setting;
        na = w.na ∙ v.na;
        nr = w.nr ∙ v.nr;
        book = w.book ∙ v.book;
        out = All-weaker _ _ (λ a x. omega arith) m.ends.out w.out;
        back_old = All-weaker _ _ (λ a x. omega arith) m.ends.back w.back_old;
        onto = w.onto;
      }

any_age : (l : List Aged) → AllByRecursion (λ (a : Aged). 0 ≤ a.1) l
any_age [] = tt
any_age (a ∷ l) = (omega arith, any_age l)

module _ {B : Type 0} (b : Ghosts B) (back : (x : B) → b.fits x → b.reads (b.written x) ≡ Ok x) (es : List (Event B)) (s : State B) (h : History b es s) (free : Fresh b s) where
  start : Onward b back es s.ends.sender.ng s
  start = record { events = es; history = h; free = free; later = λ j x m. m; same = refl }

  waited : (m : State B) → Ticks b s.ends.setting.terms.lifetime s m → Waited b back es s.ends.sender.ng (0 + s.ends.setting.terms.lifetime) s m
  waited m ts = waits b back es s.ends.sender.ng s.ends.setting.terms.lifetime 0 s m start (any_age s.ends.out) (any_age s.ends.back) ts

  quiet : (m : State B) → Ticks b s.ends.setting.terms.lifetime s m → BothEmpty m
  quiet m ts =
      let w = waited m ts in
      let i = inv b back es s.ends.sender.ng m w.onto in
      let life : m.ends.setting.terms.lifetime ≡ s.ends.setting.terms.lifetime = ap (λ z. z.terms.lifetime) w.setting in
      record {
        out = none_left _ _ (λ a x y. omega (arith, y.young)) m.ends.out w.out i.outward;
        back = none_left _ _ (λ a x y. omega (arith, y.young)) m.ends.back w.back_old i.backward;
      }

  -- what was accepted before stands in the book at the end
  booked_through : (m : State B) (o : Onward b back es s.ends.sender.ng m) → m.ends.receiver.nd ≡ s.ends.sender.ng → InBook es s.ends.sender.ng m.book
  booked_through m o all j x lo a = in_book b _ _ o.events m (inv b back es s.ends.sender.ng m o) j x (omega arith) (o.later j (Block x) a)

  pub progress : Progress b es s
  progress =
      record {
        quiet = quiet;
        completes = λ long m s' ts rs.
            (let i = holds b back es s h free in
            let w = waited m ts in
            let q = quiet m ts in
            let rs' : Rounds b (suc (s.ends.sender.ng - s.ends.sender.na)) m s' = rw add-one at rs in
            let size = ap length w.book in
            let nr = w.nr in
            let t = through b back es s.ends.sender.ng i.acc.all (s.ends.sender.ng - s.ends.sender.na) m s' w.onto q.out q.back (λ j x a. omega (arith, long j x a)) (omega (arith, i.nums.ar)) rs' in
            record { delivered = t.nd_all; heard_of = t.na_all; in_book = booked_through s' t.onto t.nd_all });
      }
