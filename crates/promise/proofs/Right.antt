-- What the invariant says in the words of a history.
use Rattle.std.proofs.Common.{◌≡◌, ℕ, ◌+◌, ◌-◌, ◌≤◌, Bool, true, false, cond, eqb, List, get_or, Ok, sym, refl, ap, ◌∙◌, subst, inl, inr, arith}
use native.Mathlib.Decide.{dec_lt}
use Rattle.std.proofs.lemmas.Bool.Decides.{eqb_tells}
use Rattle.carrier.specs.Carriers.{no_frame}
use Rattle.path.specs.Events.{Event, History, Fresh}
use Rattle.promise.specs.Promise.{NumbersInOrder, NumbersCount, InBook, OutcomeTrue, ReadRight}
use Rattle.promise.specs.Vocabulary.{Accepted, Sent, AtReceiver, InSequence, ExactlyBelow, PutsOut, PutsBack, Ago}
use Rattle.promise.proofs.Gates.{arrive_open, hear_open}
use Rattle.promise.proofs.Invariant.{AtBook, Inv}
use Rattle.promise.proofs.Keeps.{holds}
use Rattle.promise.proofs.Reading.{out_traced, read_under, back_traced, heard_under}
use Rattle.path.specs.Bars.{frame_at}
use Rattle.path.specs.States.{Ends, State}
use Rattle.ends.specs.Numbers.{ahead}
use Rattle.path.specs.Steps.{cyclic_in, outcome_of}
use Rattle.path.specs.declared.entry.Entry.{Entry}
use Rattle.path.specs.declared.entry.Entry.TheVariants.{Block}
use Rattle.ends.specs.declared.outcome.Outcome.{Outcome}
use Rattle.ends.specs.declared.outcome.Outcome.TheVariants.{Complete, Unsure}
use Rattle.wire.specs.declared.block.Block.{Ghosts}
use Rattle.wire.specs.declared.frame.Frame.{Frame}

unsure_not_complete : (a c d : ℕ) → Unsure a c d ≡ Complete → ⊥
unsure_not_complete a c d h = let z : ◌≡◌ {A = ℕ} 0 1 = cc h in omega arith

pub complete_all : (e : Ends) → outcome_of e ≡ Complete → e.sender.na ≡ e.sender.ng
complete_all e h = by e.sender.sealed (eqb e.sender.na e.sender.ng) refl h
  where
    un : Outcome
    un = Unsure e.sender.na e.sender.ns e.sender.ng

    by : (z q : Bool) → eqb e.sender.na e.sender.ng ≡ q → cond z (cond q Complete (Unsure e.sender.na e.sender.ns e.sender.ng)) (Unsure e.sender.na e.sender.ns e.sender.ng) ≡ Complete → e.sender.na ≡ e.sender.ng
    by true true p k = elim (eqb_tells e.sender.na e.sender.ng) [ inl y ↦ y.1 | inr y ↦ absurd (let z : true ≡ false = sym p ∙ y.0 in let w : ◌≡◌ {A = ℕ} 0 1 = cc z in omega arith) ]
    by true false p k = absurd (unsure_not_complete _ _ _ k)
    by false q p k = absurd (unsure_not_complete _ _ _ k)

unsure_is : (e : Ends) (na ns ng : ℕ) → outcome_of e ≡ Unsure na ns ng → (e.sender.na ≡ na) × (e.sender.ns ≡ ns) × (e.sender.ng ≡ ng)
unsure_is e na ns ng h = by e.sender.sealed (eqb e.sender.na e.sender.ng) h
  where
    parts : Unsure e.sender.na e.sender.ns e.sender.ng ≡ Unsure na ns ng → (e.sender.na ≡ na) × (e.sender.ns ≡ ns) × (e.sender.ng ≡ ng)
    parts k = (cc k, cc k, cc k)

    by : (z q : Bool) → cond z (cond q Complete (Unsure e.sender.na e.sender.ns e.sender.ng)) (Unsure e.sender.na e.sender.ns e.sender.ng) ≡ Unsure na ns ng → (e.sender.na ≡ na) × (e.sender.ns ≡ ns) × (e.sender.ng ≡ ng)
    by true true k = absurd (unsure_not_complete _ _ _ (sym k))
    by true false k = parts k
    by false q k = parts k

module _ {B : Type 0} (b : Ghosts B) (P Q : Frame → ℕ → ℕ → Type 0) (es : List (Event B)) (s : State B) (i : Inv b P Q es s) where
  pub in_order : NumbersInOrder s
  in_order =
      let u = i.nums in
      record { heard_in_sequence = u.ar; in_sequence_sent = u.rs; sent_accepted = u.sg; accepted_kept = u.ga; delivered_in_sequence = u.dr; in_sequence_stored = u.room; window_kept = u.ws }

  -- nr itself is not at the receiver
  not_there : AtReceiver es s.ends.receiver.nr → ⊥
  not_there m =
      let w = i.stored.held s.ends.receiver.nr m i.nums.dr in
      let none = i.stored.ends w.0 in
      let z : ◌≡◌ {A = ℕ} 0 1 = cc (none, w.1.1) in
      omega arith

  pub sequence : ExactlyBelow s.ends.receiver.nr (InSequence es)
  sequence = (
    λ j lo k h. i.there.low k (omega arith),
    λ j m. elim (dec_lt j s.ends.receiver.nr) [ yes y ↦ y | no y ↦ absurd (not_there (m s.ends.receiver.nr (omega arith))) ],
  )

  pub counts : NumbersCount es s
  counts =
      record {
        accepted = (i.acc.all, λ j m. i.acc.only j m.0 m.1);
        accepted_once = i.acc.once;
        sent = i.sent;
        heard_of = i.hears;
        in_sequence = sequence;
        delivered = i.delivered;
      }

  pub in_book : InBook es s.ends.receiver.nd s.book
  in_book j x lo m = let w = i.booked j lo in subst (λ y. AtBook y j s.book) (i.acc.once j w.0 (Block x) w.1 m) w.2

  pub outcome : OutcomeTrue es s
  outcome =
      record {
        complete = λ h j x m. (let all = complete_all s.ends h in sequence.0 j (omega (arith, i.acc.only j x m, i.nums.ar)));
        unsure = λ na ns ng h.
            (let w = unsure_is s.ends na ns ng h in (
              sym w.0 ∙ sym i.hears,
              subst (λ n. ExactlyBelow n (Sent es)) w.1 i.sent,
              subst (λ n. ExactlyBelow n (λ j. (x : Entry B) × Accepted es j x)) w.2 counts.accepted,
            ));
        heard_in_sequence = λ j lo. sequence.0 j (omega (arith, i.hears, i.nums.ar));
        in_sequence_sent = λ j m. i.sent.0 j (i.there.sent j (m j (omega arith)));
        undelivered_stored = λ j m left.
            (let lo : s.ends.receiver.nd ≤ j = elim (dec_lt j s.ends.receiver.nd) [ yes y ↦ absurd (left (i.delivered.0 j y)) | no y ↦ omega arith ] in
            let w = i.stored.held j m lo in
            (w.1.0, (i.stored.sound j w.1.0 lo w.0 w.1.1).1, w.1.1));
      }

module _ {B : Type 0} (b : Ghosts B) (back : (x : B) → b.fits x → b.reads (b.written x) ≡ Ok x) (es : List (Event B)) (s : State B) (h : History b es s) (free : Fresh b s) where
  pub read_right : ReadRight b h
  read_right =
      let P : Frame → ℕ → ℕ → Type 0 = λ f age n. Ago b (PutsOut b f n) age h in
      let Q : Frame → ℕ → ℕ → Type 0 = λ f age n. Ago b (PutsBack b f n) age h in
      let i = holds b back es s h free in
      record {
        taken = λ place m s' d.
            (let f = frame_at s.ends.out place in
            let age = (get_or s.ends.out place no_frame).1 in
            let k = d.does.0 in
            let t = out_traced b back P Q es s i place (arrive_open b.reads place s.ends s.got k.0).1 in
            let under : (n : ℕ) → P f age n → n ≡ m = λ n p. read_under b back P Q es s i f age n p t.young k.1.0 k.1.1 k.1.2.0 ∙ sym k.1.2.1 in
            record { was = subst (λ n. P f age n) (under t.num t.put) t.put; alike = under });
        heeded = λ place n s' d w taken t is low.
            (let f = frame_at s.ends.back place in
            let age = (get_or s.ends.back place no_frame).1 in
            let a = ahead s.ends.setting.terms.numbers (cyclic_in w) s.ends.sender.na in
            let v = back_traced b back P Q es s i place (hear_open place s.ends d.does.0.0) in
            let low' : a ≤ s.ends.sender.ns - s.ends.sender.na = omega arith in
            let under : (m : ℕ) → Q f age m → m ≡ s.ends.sender.na + t = λ m p. heard_under b back P Q es s i f age m p v.young w taken low' ∙ ap (λ x. s.ends.sender.na + x) (sym is) in
            record { was = subst (λ m. Q f age m) (under v.num v.put) v.put; alike = under });
      }
