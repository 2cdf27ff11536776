-- What holds of a history holds with one event more that adds nothing to it.
use Rattle.std.proofs.Common.{◌≡◌, ℕ, List, ◌∷◌, Option, arith}
use mathlib.Core.List.Memᴰ
use Rattle.std.proofs.ByRecursion.{All-weaker}
use Rattle.std.specs.List.{AllByRecursion}
use Rattle.carrier.specs.Carriers.{Aged}
use Rattle.path.specs.Events.{Event}
use Rattle.promise.specs.Vocabulary.{takes_ticks, rises, Sent, Delivered, ExactlyBelow}
use Rattle.promise.proofs.Events.{kind, accepted_later, accepted_before, sent_before, delivered_before, there_later, there_before, out_more, back_more, out_later, back_later, out_before, back_before}
use Rattle.promise.proofs.Invariant.{Traced, Held, Stored, Booked, There, Acc, DataPut, Inv}
use Rattle.path.specs.States.{State}
use Rattle.path.specs.declared.entry.Entry.{Entry}
use Rattle.wire.specs.declared.block.Block.{Ghosts}
use Rattle.wire.specs.declared.frame.Frame.{Frame}

module _ {B : Type 0} (e : Event B) (es : List (Event B)) where
  pub held_later : (SW na ng : ℕ) (kept : List (Entry B)) → Held es SW na ng kept → Held (e ∷ es) SW na ng kept
  held_later SW na ng kept h = record { size = h.size; entry = λ j lo hi. accepted_later e es j _ (h.entry j lo hi) }

  pub stored_later : (RW ns nr nd : ℕ) (got : List (Option (Entry B))) → (kind e ≡ 5 → ⊥) → Stored es RW ns nr nd got → Stored (e ∷ es) RW ns nr nd got
  stored_later RW ns nr nd got other h =
      record {
        size = h.size;
        sound = λ j x lo hi q. (let w = h.sound j x lo hi q in (w.0, accepted_later e es j x w.1, there_later e es j w.2));
        full = h.full;
        ends = h.ends;
        held = λ j m lo. h.held j (there_before e es other j m) lo;
      }

  pub booked_later : (nd : ℕ) (book : List B) → Booked es nd book → Booked (e ∷ es) nd book
  booked_later nd book h j lo = let w = h j lo in (w.0, accepted_later e es j w.0 w.1, w.2)

  pub there_still : (ns nr : ℕ) → (kind e ≡ 5 → ⊥) → There es ns nr → There (e ∷ es) ns nr
  there_still ns nr other h = record { low = λ j lo. there_later e es j (h.low j lo); sent = λ j m. h.sent j (there_before e es other j m) }

  pub sent_still : (ns : ℕ) → (kind e ≡ 3 → ⊥) → ExactlyBelow ns (Sent es) → ExactlyBelow ns (Sent (e ∷ es))
  sent_still ns other h = (λ j lo. Memᴰ.tail (h.0 j lo), λ j m. h.1 j (sent_before e es other j m))

  pub delivered_still : (nd : ℕ) → (kind e ≡ 4 → ⊥) → ExactlyBelow nd (Delivered es) → ExactlyBelow nd (Delivered (e ∷ es))
  delivered_still nd other h = (λ j lo. Memᴰ.tail (h.0 j lo), λ j m. h.1 j (delivered_before e es other j m))

module _ {B : Type 0} (b : Ghosts B) (e : Event B) (es : List (Event B)) where
  pub acc_still : (ng : ℕ) → (kind e ≡ 1 → ⊥) → (kind e ≡ 2 → ⊥) → Acc b es ng → Acc b (e ∷ es) ng
  acc_still ng other other' h =
      record {
        all = λ j lo. (let w = h.all j lo in (w.0, accepted_later e es j w.0 w.1));
        only = λ j x m. h.only j x (accepted_before e es other other' j x m);
        once = λ j x y m n. h.once j x y (accepted_before e es other other' j x m) (accepted_before e es other other' j y n);
        fits = λ j x m. h.fits j x (accepted_before e es other other' j _ m);
      }

  pub data_later : (N SW gap ns rest : ℕ) (f : Frame) (age n : ℕ) → DataPut b es N SW gap ns rest f age n → DataPut b (e ∷ es) N SW gap ns rest f age n
  data_later N SW gap ns rest f age n d = record { entry = d.entry; is = accepted_later e es n d.entry d.is; words = d.words; below = d.below; timed = d.timed }

  module _ (s : State B) (still : takes_ticks e ≡ 0) (life : ℕ) (l : List Aged) where
    pub out_still : (P : Frame → ℕ → ℕ → Type 0) → AllByRecursion (Traced P life) l → AllByRecursion (Traced (out_more b s e P) life) l
    out_still P h = All-weaker (Traced P life) (Traced (out_more b s e P) life) (λ a t. record { num = t.num; put = out_later b s e P still a.0 a.1 t.num t.put; young = t.young }) l h

    pub back_still : (Q : Frame → ℕ → ℕ → Type 0) → AllByRecursion (Traced Q life) l → AllByRecursion (Traced (back_more b s e Q) life) l
    back_still Q h = All-weaker (Traced Q life) (Traced (back_more b s e Q) life) (λ a t. record { num = t.num; put = back_later b s e Q still a.0 a.1 t.num t.put; young = t.young }) l h

  -- an event that answers no number that a history is asked for, in a state that stays
  pub inv_still : (P Q : Frame → ℕ → ℕ → Type 0) (u s : State B) → kind e ≡ 0 → takes_ticks e ≡ 0 → rises e ≡ 0 → Inv b P Q es s → Inv b (out_more b u e P) (back_more b u e Q) (e ∷ es) s
  inv_still P Q u s none still flat i =
      record {
        made = i.made;
        nums = i.nums;
        few = i.few;
        acc = acc_still _ (λ q. omega arith) (λ q. omega arith) i.acc;
        sent = sent_still e es _ (λ q. omega arith) i.sent;
        delivered = delivered_still e es _ (λ q. omega arith) i.delivered;
        hears = omega (arith, i.hears);
        there = there_still e es _ _ (λ q. omega arith) i.there;
        held = held_later e es _ _ _ _ i.held;
        stored = stored_later e es _ _ _ _ _ (λ q. omega arith) i.stored;
        booked = booked_later e es _ _ i.booked;
        data_puts = λ f age n p. data_later _ _ _ _ _ f age n (i.data_puts f age n (out_before b u e P still f age n (λ q. omega arith) (λ q. omega arith) p));
        ack_puts = λ f age n p. i.ack_puts f age n (back_before b u e Q still f age n (λ q. omega arith) p);
        outward = out_still u still _ _ P i.outward;
        backward = back_still u still _ _ Q i.backward;
      }
