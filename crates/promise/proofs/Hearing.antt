-- Hearing an acknowledgement keeps the invariant.
use Rattle.std.proofs.Common.{◌≡◌, ℕ, ◌+◌, ◌-◌, ◌<◌, ◌≤◌, min, max, true, cond, leb, ◌⊎◌, List, ◌∷◌, Ok, sym, refl, ap, ◌∙◌, subst, inl, inr, arith}
use Rattle.std.proofs.lemmas.Bool.Decides.{leb_tells, eqb_tells}
use Rattle.path.specs.Events.{Event, hear}
use Rattle.promise.proofs.Events.{out_more, back_more, out_before, back_before}
use Rattle.promise.proofs.Invariant.{Inv}
use Rattle.promise.proofs.Later.{held_later, stored_later, booked_later, there_still, sent_still, delivered_still, acc_still, data_later, out_still, back_still, inv_still}
use Rattle.ends.specs.Numbers.{Sends}
use Rattle.path.specs.States.{State}
use Rattle.ends.specs.Numbers.{heard_of, hearing, rise}
use Rattle.path.specs.Steps.{with_sender}
use Rattle.wire.specs.declared.block.Block.{Ghosts}
use Rattle.wire.specs.declared.frame.Frame.{Frame}

-- na rises by t with a window of at most `most`, or nothing changes
pub record Heeds (most t w : ℕ) (a : Sends) (a' : Sends) (n : ℕ) : Type 0 where
  pub within : t ≤ a.ns - a.na
  pub window : ℕ
  pub most_is : a.sw ≤ most → window ≤ most
  pub least_is : min w most ≤ window
  pub becomes : a' ≡ heard_of (a.na + t) window a
  pub answers : n ≡ t

pub hearing_cases : (most t w : ℕ) (a : Sends) → Heeds most t w a (hearing most t w a) (rise t a) ⊎ ((a.ns - a.na < t) × (hearing most t w a ≡ a) × (rise t a ≡ 0))
hearing_cases most t w a = elim (eqb_tells t 0) [
  | inl p ↦
      let z : t ≡ 0 = p.1 in
      let na : a.na ≡ a.na + t = omega arith in
      let le : leb t (a.ns - a.na) ≡ true = elim (leb_tells t (a.ns - a.na)) [ inl q ↦ q.0 | inr q ↦ absurd (omega (arith, q.1)) ] in
      inl (record {
        within = omega arith;
        window = max a.sw (min w most);
        most_is = λ h. omega arith;
        least_is = omega arith;
        becomes = ap (λ v. cond v (heard_of a.na (max a.sw (min w most)) a) (cond (leb t (a.ns - a.na)) (heard_of (a.na + t) (min w most) a) a)) p.0 ∙ ap (λ m. heard_of m (max a.sw (min w most)) a) na;
        answers = ap (λ v. cond v t 0) le;
      })
  | inr p ↦ elim (leb_tells t (a.ns - a.na)) [
    | inl q ↦ inl (record {
      within = q.1;
      window = min w most;
      most_is = λ h. omega arith;
      least_is = omega arith;
      becomes = ap (λ v. cond v (heard_of a.na (max a.sw (min w most)) a) (cond (leb t (a.ns - a.na)) (heard_of (a.na + t) (min w most) a) a)) p.0 ∙ ap (λ v. cond v (heard_of (a.na + t) (min w most) a) a) q.0;
      answers = ap (λ v. cond v t 0) q.0;
    })
    | inr q ↦ inr (
      q.1,
      ap (λ v. cond v (heard_of a.na (max a.sw (min w most)) a) (cond (leb t (a.ns - a.na)) (heard_of (a.na + t) (min w most) a) a)) p.0 ∙ ap (λ v. cond v (heard_of (a.na + t) (min w most) a) a) q.0,
      ap (λ v. cond v t 0) q.0,
    )
  ]
]

module _ {B : Type 0} (b : Ghosts B) (P Q : Frame → ℕ → ℕ → Type 0) (es : List (Event B)) (s : State B) (i : Inv b P Q es s) (place : ℕ) where
  heeds : (t w : ℕ) → t ≤ s.ends.sender.ns - s.ends.sender.na → s.ends.sender.na + t ≤ s.ends.receiver.nr → w ≤ s.ends.setting.terms.send_window
      → Inv b (out_more b s (hear place (Ok t)) P) (back_more b s (hear place (Ok t)) Q) (hear place (Ok t) ∷ es)
      (record { ends = with_sender s.ends (heard_of (s.ends.sender.na + t) w s.ends.sender); kept = s.kept; got = s.got; book = s.book })
  heeds t w low high most =
      let e : Event B = hear place (Ok t) in
      let u = i.nums in
      let h = held_later e es _ _ _ _ i.held in
      record {
        made = i.made;
        nums = record { dr = u.dr; room = u.room; ar = high; rs = u.rs; sg = u.sg; ga = omega (arith, u.ga); ws = most; rd = u.rd };
        few = i.few;
        acc = acc_still b e es _ (λ q. omega arith) (λ q. omega arith) i.acc;
        sent = sent_still e es _ (λ q. omega arith) i.sent;
        delivered = delivered_still e es _ (λ q. omega arith) i.delivered;
        hears = omega (arith, i.hears);
        there = there_still e es _ _ (λ q. omega arith) i.there;
        held = record { size = h.size; entry = λ j lo hi. h.entry j (omega arith) hi };
        stored = stored_later e es _ _ _ _ _ (λ q. omega arith) i.stored;
        booked = booked_later e es _ _ i.booked;
        data_puts = λ f age n p. data_later b e es _ _ _ _ _ f age n (i.data_puts f age n (out_before b s e P refl f age n (λ q. omega arith) (λ q. omega arith) p));
        ack_puts = λ f age n p. i.ack_puts f age n (back_before b s e Q refl f age n (λ q. omega arith) p);
        outward = out_still b e es s refl _ _ P i.outward;
        backward = back_still b e es s refl _ _ Q i.backward;
      }

  pub keeps_hear : (t w n : ℕ) → (t ≤ s.ends.sender.ns - s.ends.sender.na → s.ends.sender.na + t ≤ s.ends.receiver.nr) → n ≡ rise t s.ends.sender
      → Inv b (out_more b s (hear place (Ok n)) P) (back_more b s (hear place (Ok n)) Q) (hear place (Ok n) ∷ es)
      (record { ends = with_sender s.ends (hearing s.ends.setting.terms.send_window t w s.ends.sender); kept = s.kept; got = s.got; book = s.book })
  keeps_hear t w n low answer =
      let M : ℕ → Sends → Type 0 = λ m a. Inv b (out_more b s (hear place (Ok m)) P) (back_more b s (hear place (Ok m)) Q) (hear place (Ok m) ∷ es) (record { ends = with_sender s.ends a; kept = s.kept; got = s.got; book = s.book }) in
      elim (hearing_cases s.ends.setting.terms.send_window t w s.ends.sender) [
        | inl h ↦ subst (λ m. M m (hearing s.ends.setting.terms.send_window t w s.ends.sender)) (sym (answer ∙ h.answers))
            (subst (λ a. M t a) (sym h.becomes) (heeds t h.window h.within (low h.within) (h.most_is i.nums.ws)))
        | inr h ↦ subst (λ m. M m (hearing s.ends.setting.terms.send_window t w s.ends.sender)) (sym (answer ∙ h.2))
            (subst (λ a. M 0 a) (sym h.1) (inv_still b (hear place (Ok 0)) es P Q s s refl refl refl i))
      ]
