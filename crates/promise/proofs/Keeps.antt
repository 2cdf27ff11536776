-- Every call keeps the invariant, so it holds at the end of every history.
use Rattle.std.proofs.Common.{◌≡◌, ℕ, ◌+◌, ◌<◌, ◌≤◌, min, List, [], ◌∷◌, length, get_or, replicate, Some, None, Ok, Err, Option, sym, refl, ap, ◌∙◌, subst, mod-lt, arith}
use mathlib.Core.List.Memᴰ
use native.Mathlib.Decide.{dec_lt}
use lib.ListN.{length-replicate, get_or-replicate}
use Rattle.carrier.specs.Carriers.{no_frame}
use Rattle.path.specs.Events.{Event, Step, JustMade, Fresh, History, offer, seal, send, resend, arrive, hear, deliver, acknowledge, lose_out, lose_back, tick, made, then}
use Rattle.promise.specs.Vocabulary.{takes_ticks, rises, Accepted, by_offer, by_seal, Ago, PutsOut, PutsBack}
use Rattle.promise.proofs.Accepting.{keeps_offer, keeps_seal}
use Rattle.promise.proofs.Events.{kind, out_more, back_more}
use Rattle.promise.proofs.Gates.{make_open, arrive_open, hear_open, deliver_open}
use Rattle.promise.proofs.Hearing.{keeps_hear}
use Rattle.promise.proofs.Invariant.{Inv}
use Rattle.promise.proofs.Later.{inv_still}
use Rattle.promise.proofs.Reading.{out_traced, read_under, entry_is, heeded_low}
use Rattle.promise.proofs.Sending.{keeps_send, keeps_resend, keeps_acknowledge, keeps_lose_out, keeps_lose_back, keeps_tick}
use Rattle.promise.proofs.Settings.{setting_kept}
use Rattle.promise.proofs.Storing.{keeps_take, keeps_deliver}
use Rattle.promise.proofs.Timing.{legal}
use Rattle.path.specs.Bars.{frame_at, past_book}
use Rattle.path.specs.States.{Setting, Ends, State, new_ends}
use Rattle.ends.specs.Numbers.{ahead}
use Rattle.path.specs.Steps.{entry_in, cyclic_in, window_in, booked, Risen}
use Rattle.store.specs.Stores.{at_number}
use Rattle.path.specs.declared.entry.Entry.{Entry}
use Rattle.wire.specs.declared.block.Block.{Ghosts}
use Rattle.wire.specs.declared.frame.Frame.{Frame}

-- a state by its parts
pub placed : {B : Type 0} (M : State B → Type 0) (s : State B) (ends : Ends) (kept : List (Entry B)) (got : List (Option (Entry B))) (book : List B) → s.ends ≡ ends → s.kept ≡ kept → s.got ≡ got → s.book ≡ book
    → M (record { ends = ends; kept = kept; got = got; book = book }) → M s
placed M s ends kept got book p q r t m = subst M (sym (λ i. record { ends = p i; kept = q i; got = r i; book = t i })) m

module _ {B : Type 0} (b : Ghosts B) (back : (x : B) → b.fits x → b.reads (b.written x) ≡ Ok x)
    (P Q : Frame → ℕ → ℕ → Type 0) (es : List (Event B)) (s s' : State B) (i : Inv b P Q es s) where
  abbrev After : Event B → State B → Type 0
  After e t = Inv b (out_more b s e P) (back_more b s e Q) (e ∷ es) t

  -- a refused call
  stays : (e : Event B) → kind e ≡ 0 → takes_ticks e ≡ 0 → rises e ≡ 0 → s'.ends ≡ s.ends → s'.kept ≡ s.kept → s'.got ≡ s.got → s'.book ≡ s.book → After e s'
  stays e k t r p q g w = placed (After e) s' s.ends s.kept s.got s.book p q g w (inv_still b e es P Q s s k t r i)

  pub keeps : (e : Event B) → Step b s e s' → After e s'
  keeps (offer x (Ok n)) d =
      let h = d.does in
      subst (λ n. After (offer x (Ok n)) s') (sym h.1.1)
      (placed (After (offer x (Ok s.ends.sender.ng))) s' _ _ s.got s.book h.1.2 h.1.3 h.2 h.3
      (keeps_offer b P Q es s i x h.0 h.1.0))
  keeps (offer x (Err r)) d = let h = d.does in stays (offer x (Err r)) refl refl refl h.1.1 h.1.2 h.2 h.3
  keeps (seal (Ok n)) d =
      let h = d.does in
      subst (λ n. After (seal (Ok n)) s') (sym h.0.1)
      (placed (After (seal (Ok s.ends.sender.ng))) s' _ _ s.got s.book h.0.2 h.0.3 h.1 h.2
      (keeps_seal b P Q es s i h.0.0))
  keeps (seal (Err r)) d = let h = d.does in stays (seal (Err r)) refl refl refl h.0.1 h.0.2 h.1 h.2
  keeps (send (Ok n)) d =
      let h = d.does in
      subst (λ n. After (send (Ok n)) s') (sym h.0.1)
      (placed (After (send (Ok s.ends.sender.ns))) s' _ _ s.got s.book h.0.3 h.1 h.2 h.3
      (keeps_send b P Q es s i h.0.0 s'.ends.out h.0.2))
  keeps (send (Err r)) d = let h = d.does in stays (send (Err r)) refl refl refl h.0.1 h.1 h.2 h.3
  keeps (resend j (Ok n)) d =
      let h = d.does in
      subst (λ n. After (resend j (Ok n)) s') (sym h.0.1)
      (placed (After (resend j (Ok (s.ends.sender.na + j)))) s' _ _ s.got s.book h.0.3 h.1 h.2 h.3
      (keeps_resend b P Q es s i j h.0.0 s'.ends.out h.0.2))
  keeps (resend j (Err r)) d = let h = d.does in stays (resend j (Err r)) refl refl refl h.0.1 h.1 h.2 h.3
  keeps (arrive place (Ok (Some m))) d =
      let h = d.does in
      let open' = arrive_open b.reads place s.ends s.got h.0.0 in
      let c = h.0.1.0 in
      let k = h.0.1.2 in
      let f = frame_at s.ends.out place in
      let age = (get_or s.ends.out place no_frame).1 in
      let t = out_traced b back P Q es s i place open'.1 in
      let u = i.nums in
      let under = read_under b back P Q es s i f age t.num t.put t.young c h.0.1.1 k.0 in
      let is = entry_is b back P Q es s i f age t.num t.put t.young c h.0.1.1 in
      let same : t.num ≡ m = under ∙ sym k.1 in
      let ahead = k.0 in
      let at = k.1 in
      let known = (i.data_puts f age t.num t.put).below in
      placed (After (arrive place (Ok (Some m)))) s' _ s.kept _ s.book k.4 h.1 k.2 h.2
      (keeps_take b P Q es s i place m s'.ends.receiver.nr (entry_in c) (omega arith) (omega (arith, u.room)) (omega arith) (subst (λ n. Accepted es n (entry_in c)) same is)
      (subst (λ g. Risen g s.ends.receiver.nr (min (s.ends.receiver.nd + s.ends.setting.terms.receive_window) 1000001) s'.ends.receiver.nr) k.2 k.3))
  keeps (arrive place (Ok None)) d = let h = d.does in let k = h.0.1.2 in stays (arrive place (Ok None)) refl refl refl k.1 h.1 k.2 h.2
  keeps (arrive place (Err r)) d = let h = d.does in stays (arrive place (Err r)) refl refl refl h.0.1 h.1 h.0.2 h.2
  keeps (hear place (Ok n)) d =
      let h = d.does in
      let w = h.0.1.0 in
      placed (After (hear place (Ok n))) s' _ s.kept s.got s.book h.0.1.3 h.1 h.2 h.3
      (keeps_hear b P Q es s i place (ahead s.ends.setting.terms.numbers (cyclic_in w) s.ends.sender.na) (window_in w) n
      (heeded_low b back P Q es s i place (hear_open place s.ends h.0.0) w h.0.1.1) h.0.1.2)
  keeps (hear place (Err r)) d = let h = d.does in stays (hear place (Err r)) refl refl refl h.0.1 h.1 h.2 h.3
  keeps (deliver (Ok n)) d =
      let h = d.does in
      let o = deliver_open s.ends s.got s.book h.0.0 in
      let u = i.nums.dr in
      let left = o.1 in
      let due : s.ends.receiver.nd < s.ends.receiver.nr = elim (dec_lt s.ends.receiver.nd s.ends.receiver.nr) [ yes y ↦ y | no y ↦ absurd (left (omega arith)) ] in
      let x = i.stored.full s.ends.receiver.nd (omega arith) due in
      let free = ap (λ v. past_book v s.ends.receiver.nd (length s.book)) (sym x.1) ∙ o.2 in
      subst (λ n. After (deliver (Ok n)) s') (sym h.0.1)
      (placed (After (deliver (Ok s.ends.receiver.nd))) s' _ s.kept _ _ h.0.2 h.1 h.0.3 (h.0.4 ∙ ap (λ v. booked v s.ends.receiver.nd s.book) x.1)
      (keeps_deliver b P Q es s i x.0 due x.1 free))
  keeps (deliver (Err r)) d = let h = d.does in stays (deliver (Err r)) refl refl refl h.0.1 h.1 h.0.2 h.0.3
  keeps (acknowledge (Ok n)) d =
      let h = d.does in
      subst (λ n. After (acknowledge (Ok n)) s') (sym h.0.1)
      (placed (After (acknowledge (Ok s.ends.receiver.nr))) s' _ s.kept s.got s.book h.0.3 h.1 h.2 h.3
      (keeps_acknowledge b P Q es s i s'.ends.back h.0.2))
  keeps (acknowledge (Err r)) d = let h = d.does in stays (acknowledge (Err r)) refl refl refl h.0.1 h.1 h.2 h.3
  keeps (lose_out place (Ok u)) d = let h = d.does in placed (After (lose_out place (Ok u))) s' _ s.kept s.got s.book h.0.1 h.1 h.2 h.3 (keeps_lose_out b P Q es s i place)
  keeps (lose_out place (Err r)) d = let h = d.does in stays (lose_out place (Err r)) refl refl refl h.0.1 h.1 h.2 h.3
  keeps (lose_back place (Ok u)) d = let h = d.does in placed (After (lose_back place (Ok u))) s' _ s.kept s.got s.book h.0.1 h.1 h.2 h.3 (keeps_lose_back b P Q es s i place)
  keeps (lose_back place (Err r)) d = let h = d.does in stays (lose_back place (Err r)) refl refl refl h.0.1 h.1 h.2 h.3
  keeps (tick (Ok u)) d = let h = d.does in placed (After (tick (Ok u))) s' _ s.kept s.got s.book h.0.1 h.1 h.2 h.3 (keeps_tick b P Q es s i)
  keeps (tick (Err r)) d = let h = d.does in stays (tick (Err r)) refl refl refl h.0.1 h.1 h.2 h.3

empty_of : {X : Type 0} (l : List X) → length l ≡ 0 → l ≡ []
empty_of [] h = refl
empty_of (x ∷ l) h = absurd (omega arith)

module _ {B : Type 0} (b : Ghosts B) where
  begins : (s : State B) → JustMade b s → Fresh b s → Inv b (λ f age n. ⊥) (λ f age n. ⊥) [] s
  begins s f free =
      let z = s.ends.setting in
      let o = make_open z.terms z.out_life z.out_room z.back_life z.back_room s.ends.out s.ends.back (length s.got) (sym f.barred ∙ free) in
      let l = legal z.terms in
      let out = empty_of s.ends.out o.2 in
      let back = empty_of s.ends.back o.3 in
      placed (Inv b (λ f age n. ⊥) (λ f age n. ⊥) []) s (new_ends z [] []) s.kept (replicate z.terms.receive_window None) s.book
      (f.new ∙ (λ i. new_ends z (out i) (back i))) refl (f.emptied free ∙ ap (λ n. replicate n None) o.4) refl
      (record {
        made = record { made = free; out_short = o.0; back_short = o.1; out_some = o.5; back_some = o.6 };
        nums = omega arith;
        few = omega arith;
        acc = record { all = λ j h. absurd (omega arith); only = λ j x m. absurd (nothing_accepted j x m); once = λ j x y m n. absurd (nothing_accepted j x m); fits = λ j x m. absurd (nothing_accepted j _ m) };
        sent = (λ j h. absurd (omega arith), λ j m. absurd (Memᴰ.not-nil m));
        delivered = (λ j h. absurd (omega arith), λ j m. absurd (Memᴰ.not-nil m));
        hears = refl;
        there = record { low = λ j h. absurd (omega arith); sent = λ j m. absurd (Memᴰ.not-nil m.1) };
        held = record { size = λ h. absurd (omega arith); entry = λ j lo hi. absurd (omega arith) };
        stored = record {
          size = length-replicate z.terms.receive_window None;
          sound = λ j x lo hi q. absurd (let y : ◌≡◌ {A = ℕ} 0 1 = cc (q, bare z.terms.receive_window l.rw_some j) in omega arith);
          full = λ j lo hi. absurd (omega arith);
          ends = λ h. bare z.terms.receive_window l.rw_some 0;
          held = λ j m lo. absurd (Memᴰ.not-nil m.1);
        };
        booked = λ j h. absurd (omega arith);
        data_puts = λ f age n p. absurd p;
        ack_puts = λ f age n p. absurd p;
        outward = tt;
        backward = tt;
      })
    where
      bare : (n : ℕ) → 1 ≤ n → (j : ℕ) → at_number {T = Option (Entry B)} None (replicate n None) j ≡ None
      bare n some j =
          let size = length-replicate {A = Option (Entry B)} n None in
          let z : 0 < length (replicate {A = Option (Entry B)} n None) = omega arith in
          let k = mod-lt j z in
          get_or-replicate n _ None None (omega arith)

      nothing_accepted : (j : ℕ) (x : Entry B) → Accepted {B = B} [] j x → ⊥
      nothing_accepted j x (by_offer m) = Memᴰ.not-nil m
      nothing_accepted j x (by_seal m) = Memᴰ.not-nil m

  module _ (back : (x : B) → b.fits x → b.reads (b.written x) ≡ Ok x) where
    -- what the puts of a history are, by their ages
    pub holds : (es : List (Event B)) (s : State B) (h : History b es s) → Fresh b s → Inv b (λ f age n. Ago b (PutsOut b f n) age h) (λ f age n. Ago b (PutsBack b f n) age h) es s
    holds es s (made f) free = begins s f free
    holds es s (then {e = e} {es = past} {s = m} h d) free =
        let before : Fresh b m = ap (λ (z : Setting). z.refused) (sym (setting_kept b m s e d)) ∙ free in
        keeps b back (λ f age n. Ago b (PutsOut b f n) age h) (λ f age n. Ago b (PutsBack b f n) age h) past m s (holds past m h before) e d
