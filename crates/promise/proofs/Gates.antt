-- What an accepted call tells of the state that it was made in.
use Rattle.std.proofs.Common.{◌≡◌, ℕ, ◌+◌, ◌-◌, ◌<◌, ◌≤◌, Bool, true, false, List, length, Some, None, Ok, Err, Option, Result, refl, arith}
use Rattle.std.proofs.lemmas.Bool.Decides.{nat_tests}
use Rattle.carrier.specs.Carriers.{Aged}
use Rattle.ends.specs.Stops.{where_so}
use Rattle.path.specs.Bars.{first_of, make_bar, frame_at, far_end, near_end, admitted, fault_in, past_book, offer_bar, seal_bar, send_bar, resend_bar, arrive_bar, deliver_bar, hear_bar, acknowledge_bar, lose_bar}
use Rattle.path.specs.States.{Ends}
use Rattle.store.specs.Stores.{at_number}
use Rattle.path.specs.declared.entry.Entry.{Entry}
use Rattle.wire.specs.Ends.{taken_of}
use Rattle.wire.specs.declared.content.Content.{Content}
use Rattle.wire.specs.declared.content.Head.{Head}
use Rattle.refusal.specs.declared.fault.Fault.{Fault}
use Rattle.refusal.specs.declared.refusals.Refusal.{Refusal}
use Rattle.terms.specs.declared.agreed.Terms.{Terms}
use Rattle.wire.specs.declared.words.Words.{Words as Pair}

first_none : (o n : Option Refusal) → first_of o n ≡ None → (o ≡ None) × (n ≡ None)
first_none (Some r) n h = absurd (let z : ◌≡◌ {A = ℕ} 0 1 = cc h in omega arith)
first_none None n h = (refl, h)

where_none : (b : Bool) (r : Refusal) (n : Option Refusal) → where_so b r n ≡ None → (b ≡ false) × (n ≡ None)
where_none true r n h = absurd (let z : ◌≡◌ {A = ℕ} 0 1 = cc h in omega arith)
where_none false r n h = (refl, h)

module _ {B : Type 0} (e : Ends) (kept : List (Entry B)) where
  pub offer_open : offer_bar e kept ≡ None → (length kept ≡ e.setting.terms.send_window) × (e.sender.ng - e.sender.na ≡ e.setting.terms.send_window → ⊥) × (e.sender.sealed ≡ false) × (e.sender.ng < 1000000)
  offer_open h = let g = (first_none e.setting.refused _ h).1 in grind (arith, nat_tests)

  pub seal_open : seal_bar e kept ≡ None → (length kept ≡ e.setting.terms.send_window) × (e.sender.ng - e.sender.na ≡ e.setting.terms.send_window → ⊥) × (e.sender.sealed ≡ false)
  seal_open h = let g = (first_none e.setting.refused _ h).1 in grind (arith, nat_tests)

  pub send_open : send_bar e kept ≡ None → (length kept ≡ e.setting.terms.send_window) × (e.sender.ns ≡ e.sender.ng → ⊥) × (e.sender.ns < e.sender.na + e.sender.sw) × (e.setting.terms.gap ≤ e.sender.rest)
  send_open h = let g = (first_none e.setting.refused _ h).1 in grind (arith, nat_tests)

  pub resend_open : (j : ℕ) → resend_bar j e kept ≡ None → (length kept ≡ e.setting.terms.send_window) × (j < e.sender.ns - e.sender.na)
  resend_open j h = let g = (first_none e.setting.refused _ h).1 in grind (arith, nat_tests)

  pub send_shut : (r : Refusal) → send_bar e kept ≡ Some r → e.setting.refused ≡ None → length kept ≡ e.setting.terms.send_window → e.sender.ns < e.sender.ng → e.sender.ns < e.sender.na + e.sender.sw → e.setting.terms.gap ≤ e.sender.rest → length e.out < e.setting.out_room → ⊥
  send_shut r h n a c d f g = grind (arith, nat_tests)

  pub resend_shut : (j : ℕ) (r : Refusal) → resend_bar j e kept ≡ Some r → e.setting.refused ≡ None → length kept ≡ e.setting.terms.send_window → j < e.sender.ns - e.sender.na → length e.out < e.setting.out_room → ⊥
  resend_shut j r h n a c d = grind (arith, nat_tests)

fault_none : {R : Type 0} (x : Result R Fault) → fault_in x ≡ None → (r : R) × (x ≡ Ok r)
fault_none (Ok r) h = (r, refl)
fault_none (Err y) h = absurd (let z : ◌≡◌ {A = ℕ} 0 1 = cc h in omega arith)

module _ {B : Type 0} (reads : Pair → Result B Fault) (place : ℕ) (e : Ends) (got : List (Option (Entry B))) where
  pub arrive_open : arrive_bar reads place e got ≡ None → (length got ≡ e.setting.terms.receive_window) × (place < length e.out)
  arrive_open h = let g = (first_none e.setting.refused _ h).1 in grind (arith, nat_tests)

  pub arrive_shut : (r : Refusal) (c : Content B) → taken_of (far_end e) reads (frame_at e.out place) ≡ Ok c → arrive_bar reads place e got ≡ Some r → e.setting.refused ≡ None → length got ≡ e.setting.terms.receive_window → place < length e.out → ⊥
  arrive_shut r c t h n a d = grind (arith, nat_tests)

module _ (place : ℕ) (e : Ends) where
  pub hear_open : hear_bar place e ≡ None → place < length e.back
  hear_open h = let g = (first_none e.setting.refused _ h).1 in grind (arith, nat_tests)

  pub hear_shut : (r : Refusal) (w : Head) → admitted (near_end e) (frame_at e.back place) ≡ Ok w → hear_bar place e ≡ Some r → e.setting.refused ≡ None → place < length e.back → ⊥
  hear_shut r w t h n a = grind (arith, nat_tests)

  pub lose_shut : (l : List Aged) (r : Refusal) → lose_bar place e l ≡ Some r → e.setting.refused ≡ None → place < length l → ⊥
  lose_shut l r h n a = grind (arith, nat_tests)

pub acknowledge_shut : (e : Ends) (r : Refusal) → acknowledge_bar e ≡ Some r → e.setting.refused ≡ None → length e.back < e.setting.back_room → ⊥
acknowledge_shut e r h n a = grind (arith, nat_tests)

module _ {B : Type 0} (e : Ends) (got : List (Option (Entry B))) (book : List B) where
  pub deliver_open : deliver_bar e got book ≡ None → (length got ≡ e.setting.terms.receive_window) × (e.receiver.nd ≡ e.receiver.nr → ⊥) × (past_book (at_number None got e.receiver.nd) e.receiver.nd (length book) ≡ false)
  deliver_open h = let g = (first_none e.setting.refused _ h).1 in grind (arith, nat_tests)

  -- a delivery is refused for want of an entry, or of a place in the book
  pub deliver_shut : (r : Refusal) → deliver_bar e got book ≡ Some r → e.setting.refused ≡ None → length got ≡ e.setting.terms.receive_window → past_book (at_number None got e.receiver.nd) e.receiver.nd (length book) ≡ false → e.receiver.nd ≡ e.receiver.nr
  deliver_shut r h n a p = grind (arith, nat_tests)

-- a path that could be made
pub make_open : (t : Terms) (out_life out_room back_life back_room : ℕ) (out back : List Aged) (places : ℕ) → make_bar t out_life out_room back_life back_room out back places ≡ None
    → (out_life ≤ t.lifetime) × (back_life ≤ t.lifetime) × (length out ≡ 0) × (length back ≡ 0) × (places ≡ t.receive_window) × (1 ≤ out_room) × (1 ≤ back_room)
make_open t out_life out_room back_life back_room out back places h = grind (arith, nat_tests)
