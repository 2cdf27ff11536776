-- What one event more adds to a history, by its kind.
use Rattle.std.proofs.Common.{◌≡◌, ℕ, ◌+◌, ◌⊎◌, List, ◌∷◌, Some, None, Ok, Err, Option, Result, sym, refl, ap, ◌∙◌, subst, inl, inr, arith}
use mathlib.Core.List.Memᴰ
use mathlib.Core.List.{Memᴰ}
use Rattle.path.specs.Events.{Event, offer, seal, send, resend, arrive, hear, deliver, acknowledge, lose_out, lose_back, tick}
use Rattle.promise.specs.Vocabulary.{takes_ticks, Accepted, by_offer, by_seal, Sent, Delivered, AtReceiver, PutsOut, by_send, by_resend, PutsBack, by_acknowledge}
use Rattle.path.specs.States.{State}
use Rattle.path.specs.Steps.{entry_frame, acknowledgement, room_left}
use Rattle.store.specs.Stores.{at_number}
use Rattle.path.specs.declared.entry.Entry.{Entry}
use Rattle.path.specs.declared.entry.Entry.TheVariants.{EndMark}
use Rattle.wire.specs.declared.block.Block.{Ghosts}
use Rattle.wire.specs.declared.frame.Frame.{Frame}
use Rattle.refusal.specs.declared.refusals.Refusal.{Refusal}

abbrev if_ok : ℕ → Result ℕ Refusal → ℕ
if_ok k (Ok n) = k
if_ok k (Err r) = 0

abbrev if_taken : Result (Option ℕ) Refusal → ℕ
if_taken (Ok (Some j)) = 5
if_taken (Ok None) = 0
if_taken (Err r) = 0

module _ {B : Type 0} where
  -- a number for each kind of event that a history is asked for, and 0 for any other
  abbrev pub kind : Event B → ℕ
  kind (offer x r) = if_ok 1 r
  kind (seal r) = if_ok 2 r
  kind (send r) = if_ok 3 r
  kind (resend j r) = if_ok 6 r
  kind (arrive place r) = if_taken r
  kind (hear place r) = 0
  kind (deliver r) = if_ok 4 r
  kind (acknowledge r) = if_ok 7 r
  kind (lose_out place r) = 0
  kind (lose_back place r) = 0
  kind (tick r) = 0

  module _ (e : Event B) (es : List (Event B)) where
    pub accepted_later : (j : ℕ) (x : Entry B) → Accepted es j x → Accepted (e ∷ es) j x
    accepted_later j x (by_offer m) = by_offer (Memᴰ.tail m)
    accepted_later j x (by_seal m) = by_seal (Memᴰ.tail m)

    pub earlier : (k : ℕ) (x : Event B) → kind x ≡ k → (kind e ≡ k → ⊥) → Memᴰ x (e ∷ es) → Memᴰ x es
    earlier k x q other m = elim (Memᴰ.cases_cons m) [ inl p ↦ absurd (other (sym (ap (λ (v : Event B). kind v) p) ∙ q)) | inr m' ↦ m' ]

    pub accepted_before : (kind e ≡ 1 → ⊥) → (kind e ≡ 2 → ⊥) → (j : ℕ) (x : Entry B) → Accepted (e ∷ es) j x → Accepted es j x
    accepted_before n m j x (by_offer {x = y} h) = by_offer (earlier 1 (offer y (Ok j)) refl n h)
    accepted_before n m j x (by_seal h) = by_seal (earlier 2 (seal (Ok j)) refl m h)

    pub sent_before : (kind e ≡ 3 → ⊥) → (j : ℕ) → Sent (e ∷ es) j → Sent es j
    sent_before n j h = earlier 3 (send (Ok j)) refl n h

    pub delivered_before : (kind e ≡ 4 → ⊥) → (j : ℕ) → Delivered (e ∷ es) j → Delivered es j
    delivered_before n j h = earlier 4 (deliver (Ok j)) refl n h

    pub there_later : (j : ℕ) → AtReceiver es j → AtReceiver (e ∷ es) j
    there_later j h = (h.0, Memᴰ.tail h.1)

    pub there_before : (kind e ≡ 5 → ⊥) → (j : ℕ) → AtReceiver (e ∷ es) j → AtReceiver es j
    there_before n j h = (h.0, earlier 5 (arrive h.0 (Ok (Some j))) refl n h.1)

module _ {B : Type 0} (b : Ghosts B) where
  -- the puts of a history with one event more, by those before it
  abbrev pub out_more : State B → Event B → (Frame → ℕ → ℕ → Type 0) → Frame → ℕ → ℕ → Type 0
  out_more s e P f age n = ((age ≡ 0) × PutsOut b f n s e) ⊎ ((old : ℕ) × (old + takes_ticks e ≡ age) × P f old n)

  abbrev pub back_more : State B → Event B → (Frame → ℕ → ℕ → Type 0) → Frame → ℕ → ℕ → Type 0
  back_more s e Q f age n = ((age ≡ 0) × PutsBack b f n s e) ⊎ ((old : ℕ) × (old + takes_ticks e ≡ age) × Q f old n)

  out_kind : (f : Frame) (n : ℕ) (s : State B) (e : Event B) → PutsOut b f n s e → (kind e ≡ 3) ⊎ (kind e ≡ 6)
  out_kind f n s e (by_send q) = inl refl
  out_kind f n s e (by_resend q) = inr refl

  back_kind : (f : Frame) (n : ℕ) (s : State B) (e : Event B) → PutsBack b f n s e → kind e ≡ 7
  back_kind f n s e (by_acknowledge q) = refl

  module _ (s : State B) (e : Event B) (P : Frame → ℕ → ℕ → Type 0) (still : takes_ticks e ≡ 0) (f : Frame) (age n : ℕ) where
    same_age : (old : ℕ) → old + takes_ticks e ≡ age → P f old n → P f age n
    same_age old q p = let z : old ≡ age = omega arith in subst (λ a. P f a n) z p

    pub out_later : P f age n → out_more s e P f age n
    out_later p = inr (age, omega arith, p)

    pub back_later : P f age n → back_more s e P f age n
    back_later p = inr (age, omega arith, p)

    pub out_before : (kind e ≡ 3 → ⊥) → (kind e ≡ 6 → ⊥) → out_more s e P f age n → P f age n
    out_before other other' p = elim p [
      | inl q ↦ absurd (elim (out_kind f n s e q.1) [ inl k ↦ other k | inr k ↦ other' k ])
      | inr q ↦ same_age q.0 q.1 q.2
    ]

    pub back_before : (kind e ≡ 7 → ⊥) → back_more s e P f age n → P f age n
    back_before other p = elim p [
      | inl q ↦ absurd (other (back_kind f n s e q.1))
      | inr q ↦ same_age q.0 q.1 q.2
    ]

  module _ (s : State B) (P : Frame → ℕ → ℕ → Type 0) (f : Frame) (age n : ℕ) where
    send_puts : (m : ℕ) (e : Event B) → e ≡ send (Ok m) → PutsOut b f n s e → (n ≡ m) × (f ≡ entry_frame b.written s.ends.setting.terms.numbers n (at_number EndMark s.kept n))
    send_puts m e q (by_send w) = (cc q, w)
    send_puts m e q (by_resend w) = absurd (let z : ◌≡◌ {A = ℕ} 0 1 = cc q in omega arith)

    resend_puts : (j m : ℕ) (e : Event B) → e ≡ resend j (Ok m) → PutsOut b f n s e → (n ≡ m) × (f ≡ entry_frame b.written s.ends.setting.terms.numbers n (at_number EndMark s.kept n))
    resend_puts j m e q (by_send w) = absurd (let z : ◌≡◌ {A = ℕ} 0 1 = cc q in omega arith)
    resend_puts j m e q (by_resend w) = (cc q, w)

    acknowledge_puts : (m : ℕ) (e : Event B) → e ≡ acknowledge (Ok m) → PutsBack b f n s e → (n ≡ m) × (f ≡ acknowledgement s.ends.setting.terms.numbers n (room_left s.ends))
    acknowledge_puts m e q (by_acknowledge w) = (cc q, w)

    same : (old : ℕ) → old + 0 ≡ age → P f old n → P f age n
    same old q p = let z : old ≡ age = omega arith in subst (λ a. P f a n) z p

    -- a put, or one as old as before
    pub send_cases : (m : ℕ) → out_more s (send (Ok m)) P f age n → ((age ≡ 0) × (n ≡ m) × (f ≡ entry_frame b.written s.ends.setting.terms.numbers n (at_number EndMark s.kept n))) ⊎ P f age n
    send_cases m p = elim p [ inl q ↦ (let w = send_puts m (send (Ok m)) refl q.1 in inl (q.0, w.0, w.1)) | inr q ↦ inr (same q.0 q.1 q.2) ]

    pub resend_cases : (j m : ℕ) → out_more s (resend j (Ok m)) P f age n → ((age ≡ 0) × (n ≡ m) × (f ≡ entry_frame b.written s.ends.setting.terms.numbers n (at_number EndMark s.kept n))) ⊎ P f age n
    resend_cases j m p = elim p [ inl q ↦ (let w = resend_puts j m (resend j (Ok m)) refl q.1 in inl (q.0, w.0, w.1)) | inr q ↦ inr (same q.0 q.1 q.2) ]

    pub acknowledge_cases : (m : ℕ) → back_more s (acknowledge (Ok m)) P f age n → ((age ≡ 0) × (n ≡ m) × (f ≡ acknowledgement s.ends.setting.terms.numbers n (room_left s.ends))) ⊎ P f age n
    acknowledge_cases m p = elim p [ inl q ↦ (let w = acknowledge_puts m (acknowledge (Ok m)) refl q.1 in inl (q.0, w.0, w.1)) | inr q ↦ inr (same q.0 q.1 q.2) ]
