-- Refused calls: they change nothing, they never name a malformed frame, and a refused making refuses them all.
use Rattle.std.proofs.Common.{◌≡◌, ℕ, ◌<◌, List, length, Some, None, Ok, Err, Option, sym, ap, ◌∙◌, inl, inr, arith}
use mathlib.Core.List.Memᴰ
use Rattle.std.proofs.lemmas.Bool.Decides.{nat_tests}
use Rattle.carrier.specs.Carriers.{Aged}
use Rattle.path.specs.Events.{Event, Step, History, offer, seal, send, resend, arrive, hear, deliver, acknowledge, lose_out, lose_back, tick, made, then}
use Rattle.promise.specs.Promise.{AllRefused}
use Rattle.promise.specs.Vocabulary.{refused}
use Rattle.promise.proofs.Gates.{arrive_shut, hear_shut}
use Rattle.promise.proofs.Invariant.{Inv}
use Rattle.promise.proofs.Reading.{out_fine, back_fine}
use Rattle.promise.proofs.Settings.{setting_kept}
use Rattle.path.specs.Bars.{first_of, offer_bar, seal_bar, send_bar, resend_bar, arrive_bar, deliver_bar, hear_bar, acknowledge_bar, lose_bar, tick_bar}
use Rattle.path.specs.States.{Setting, Ends, State}
use Rattle.path.specs.Steps.{outcome_of}
use Rattle.path.specs.declared.entry.Entry.{Entry}
use Rattle.wire.specs.declared.block.Block.{Ghosts}
use Rattle.refusal.specs.declared.fault.Fault.{Fault}
use Rattle.wire.specs.declared.frame.Frame.{Frame}
use Rattle.refusal.specs.declared.refusals.Refusal.{Refusal}
use Rattle.refusal.specs.declared.refusals.Refusal.TheVariants.{Malformed}

module _ {B : Type 0} (e : Ends) (free : e.setting.refused ≡ None) (x : Fault) where
  offer_fair : (kept : List (Entry B)) → offer_bar e kept ≡ Some (Malformed x) → ⊥
  offer_fair kept h = grind (arith, nat_tests)

  seal_fair : (kept : List (Entry B)) → seal_bar e kept ≡ Some (Malformed x) → ⊥
  seal_fair kept h = grind (arith, nat_tests)

  send_fair : (kept : List (Entry B)) → send_bar e kept ≡ Some (Malformed x) → ⊥
  send_fair kept h = grind (arith, nat_tests)

  resend_fair : (j : ℕ) (kept : List (Entry B)) → resend_bar j e kept ≡ Some (Malformed x) → ⊥
  resend_fair j kept h = grind (arith, nat_tests)

  deliver_fair : (got : List (Option (Entry B))) (book : List B) → deliver_bar e got book ≡ Some (Malformed x) → ⊥
  deliver_fair got book h = grind (arith, nat_tests)

module _ (e : Ends) (free : e.setting.refused ≡ None) (x : Fault) where
  acknowledge_fair : acknowledge_bar e ≡ Some (Malformed x) → ⊥
  acknowledge_fair h = grind (arith, nat_tests)

  lose_fair : (place : ℕ) (l : List Aged) → lose_bar place e l ≡ Some (Malformed x) → ⊥
  lose_fair place l h = grind (arith, nat_tests)

  tick_fair : tick_bar e ≡ Some (Malformed x) → ⊥
  tick_fair h = let z : ◌≡◌ {A = ℕ} 0 1 = cc in omega arith

none_some : {X : Type 0} (x : X) → None ≡ Some x → ⊥
none_some x h = let z : ◌≡◌ {A = ℕ} 0 1 = cc h in omega arith

module _ {B : Type 0} (b : Ghosts B) where
  same_state : (s s' : State B) → s'.ends ≡ s.ends → s'.kept ≡ s.kept → s'.got ≡ s.got → s'.book ≡ s.book → s' ≡ s
  same_state s s' p q r t = λ i. record { ends = p i; kept = q i; got = r i; book = t i }

  pub unchanged : (s s' : State B) (e : Event B) (r : Refusal) → Step b s e s' → refused e ≡ Some r → s' ≡ s
  unchanged s s' (offer x (Ok n)) r d h = absurd (none_some r h)
  unchanged s s' (offer x (Err y)) r d h = let k = d.does in same_state s s' k.1.1 k.1.2 k.2 k.3
  unchanged s s' (seal (Ok n)) r d h = absurd (none_some r h)
  unchanged s s' (seal (Err y)) r d h = let k = d.does in same_state s s' k.0.1 k.0.2 k.1 k.2
  unchanged s s' (send (Ok n)) r d h = absurd (none_some r h)
  unchanged s s' (send (Err y)) r d h = let k = d.does in same_state s s' k.0.1 k.1 k.2 k.3
  unchanged s s' (resend j (Ok n)) r d h = absurd (none_some r h)
  unchanged s s' (resend j (Err y)) r d h = let k = d.does in same_state s s' k.0.1 k.1 k.2 k.3
  unchanged s s' (arrive place (Ok n)) r d h = absurd (none_some r h)
  unchanged s s' (arrive place (Err y)) r d h = let k = d.does in same_state s s' k.0.1 k.1 k.0.2 k.2
  unchanged s s' (hear place (Ok n)) r d h = absurd (none_some r h)
  unchanged s s' (hear place (Err y)) r d h = let k = d.does in same_state s s' k.0.1 k.1 k.2 k.3
  unchanged s s' (deliver (Ok n)) r d h = absurd (none_some r h)
  unchanged s s' (deliver (Err y)) r d h = let k = d.does in same_state s s' k.0.1 k.1 k.0.2 k.0.3
  unchanged s s' (acknowledge (Ok n)) r d h = absurd (none_some r h)
  unchanged s s' (acknowledge (Err y)) r d h = let k = d.does in same_state s s' k.0.1 k.1 k.2 k.3
  unchanged s s' (lose_out place (Ok n)) r d h = absurd (none_some r h)
  unchanged s s' (lose_out place (Err y)) r d h = let k = d.does in same_state s s' k.0.1 k.1 k.2 k.3
  unchanged s s' (lose_back place (Ok n)) r d h = absurd (none_some r h)
  unchanged s s' (lose_back place (Err y)) r d h = let k = d.does in same_state s s' k.0.1 k.1 k.2 k.3
  unchanged s s' (tick (Ok n)) r d h = absurd (none_some r h)
  unchanged s s' (tick (Err y)) r d h = let k = d.does in same_state s s' k.0.1 k.1 k.2 k.3

  -- a first refusal is given whatever comes after
  barred : (o next : Option Refusal) (r : Refusal) → o ≡ Some r → first_of o next ≡ None → ⊥
  barred (Some y) next r h k = none_some y (sym k)
  barred None next r h k = none_some r h

  barred_by : (o next : Option Refusal) (r y : Refusal) → o ≡ Some r → first_of o next ≡ Some y → Some y ≡ Some r
  barred_by (Some z) next r y h k = sym k ∙ h
  barred_by None next r y h k = absurd (none_some r h)

  pub all_refused : (s s' : State B) (e : Event B) (r : Refusal) → s.ends.setting.refused ≡ Some r → Step b s e s' → refused e ≡ Some r
  all_refused s s' (offer x (Ok n)) r q d = absurd (barred s.ends.setting.refused _ r q d.does.1.0)
  all_refused s s' (offer x (Err y)) r q d = barred_by s.ends.setting.refused _ r y q d.does.1.0
  all_refused s s' (seal (Ok n)) r q d = absurd (barred s.ends.setting.refused _ r q d.does.0.0)
  all_refused s s' (seal (Err y)) r q d = barred_by s.ends.setting.refused _ r y q d.does.0.0
  all_refused s s' (send (Ok n)) r q d = absurd (barred s.ends.setting.refused _ r q d.does.0.0)
  all_refused s s' (send (Err y)) r q d = barred_by s.ends.setting.refused _ r y q d.does.0.0
  all_refused s s' (resend j (Ok n)) r q d = absurd (barred s.ends.setting.refused _ r q d.does.0.0)
  all_refused s s' (resend j (Err y)) r q d = barred_by s.ends.setting.refused _ r y q d.does.0.0
  all_refused s s' (arrive place (Ok n)) r q d = absurd (barred s.ends.setting.refused _ r q d.does.0.0)
  all_refused s s' (arrive place (Err y)) r q d = barred_by s.ends.setting.refused _ r y q d.does.0.0
  all_refused s s' (hear place (Ok n)) r q d = absurd (barred s.ends.setting.refused _ r q d.does.0.0)
  all_refused s s' (hear place (Err y)) r q d = barred_by s.ends.setting.refused _ r y q d.does.0.0
  all_refused s s' (deliver (Ok n)) r q d = absurd (barred s.ends.setting.refused _ r q d.does.0.0)
  all_refused s s' (deliver (Err y)) r q d = barred_by s.ends.setting.refused _ r y q d.does.0.0
  all_refused s s' (acknowledge (Ok n)) r q d = absurd (barred s.ends.setting.refused _ r q d.does.0.0)
  all_refused s s' (acknowledge (Err y)) r q d = barred_by s.ends.setting.refused _ r y q d.does.0.0
  all_refused s s' (lose_out place (Ok n)) r q d = absurd (barred s.ends.setting.refused _ r q d.does.0.0)
  all_refused s s' (lose_out place (Err y)) r q d = barred_by s.ends.setting.refused _ r y q d.does.0.0
  all_refused s s' (lose_back place (Ok n)) r q d = absurd (barred s.ends.setting.refused _ r q d.does.0.0)
  all_refused s s' (lose_back place (Err y)) r q d = barred_by s.ends.setting.refused _ r y q d.does.0.0
  all_refused s s' (tick (Ok n)) r q d = absurd (none_some r (sym d.does.0.0 ∙ q))
  all_refused s s' (tick (Err y)) r q d = sym d.does.0.0 ∙ q

  -- the history of a path whose making was refused
  pub refused_still : (es : List (Event B)) (s : State B) → History b es s → (r : Refusal) → s.ends.setting.refused ≡ Some r → AllRefused b r es s
  refused_still es s (made f) r q =
      record { each = λ e m. absurd (Memᴰ.not-nil m); end = ap outcome_of f.new }
  refused_still es s (then {e = e} {es = past} {s = t} h d) r q =
      let before : t.ends.setting.refused ≡ Some r = ap (λ (z : Setting). z.refused) (sym (setting_kept b t s e d)) ∙ q in
      let i = refused_still past t h r before in
      let x = all_refused t s e r before d in
      record {
        each = λ v m. elim (Memᴰ.cases_cons m) [ inl p ↦ ap (λ (y : Event B). refused y) p ∙ x | inr m' ↦ i.each v m' ];
        end = ap (λ (v : State B). outcome_of v.ends) (unchanged t s e r d x) ∙ i.end;
      }

  module _ (back : (x : B) → b.fits x → b.reads (b.written x) ≡ Ok x) (P Q : Frame → ℕ → ℕ → Type 0) (es : List (Event B)) (s s' : State B) (i : Inv b P Q es s) (x : Fault) where
    arrive_place : (place : ℕ) → arrive_bar b.reads place s.ends s.got ≡ Some (Malformed x) → place < length s.ends.out
    arrive_place place h = let free = i.made.made in grind (arith, nat_tests)

    hear_place : (place : ℕ) → hear_bar place s.ends ≡ Some (Malformed x) → place < length s.ends.back
    hear_place place h = let free = i.made.made in grind (arith, nat_tests)

    arrive_fair : (place : ℕ) → arrive_bar b.reads place s.ends s.got ≡ Some (Malformed x) → ⊥
    arrive_fair place h =
        let k = arrive_place place h in
        let c = out_fine b back P Q es s i place k in
        arrive_shut b.reads place s.ends s.got (Malformed x) c.0 c.1 h i.made.made i.stored.size k

    hear_fair : (place : ℕ) → hear_bar place s.ends ≡ Some (Malformed x) → ⊥
    hear_fair place h =
        let k = hear_place place h in
        let c = back_fine b back P Q es s i place k in
        hear_shut place s.ends (Malformed x) c.0 c.1 h i.made.made k

    pub never_malformed : (e : Event B) → Step b s e s' → refused e ≡ Some (Malformed x) → ⊥
    never_malformed (offer y (Ok n)) d h = none_some _ h
    never_malformed (offer y (Err r)) d h = offer_fair s.ends i.made.made x s.kept (d.does.1.0 ∙ h)
    never_malformed (seal (Ok n)) d h = none_some _ h
    never_malformed (seal (Err r)) d h = seal_fair s.ends i.made.made x s.kept (d.does.0.0 ∙ h)
    never_malformed (send (Ok n)) d h = none_some _ h
    never_malformed (send (Err r)) d h = send_fair s.ends i.made.made x s.kept (d.does.0.0 ∙ h)
    never_malformed (resend j (Ok n)) d h = none_some _ h
    never_malformed (resend j (Err r)) d h = resend_fair s.ends i.made.made x j s.kept (d.does.0.0 ∙ h)
    never_malformed (arrive place (Ok n)) d h = none_some _ h
    never_malformed (arrive place (Err r)) d h = arrive_fair place (d.does.0.0 ∙ h)
    never_malformed (hear place (Ok n)) d h = none_some _ h
    never_malformed (hear place (Err r)) d h = hear_fair place (d.does.0.0 ∙ h)
    never_malformed (deliver (Ok n)) d h = none_some _ h
    never_malformed (deliver (Err r)) d h = deliver_fair s.ends i.made.made x s.got s.book (d.does.0.0 ∙ h)
    never_malformed (acknowledge (Ok n)) d h = none_some _ h
    never_malformed (acknowledge (Err r)) d h = acknowledge_fair s.ends i.made.made x (d.does.0.0 ∙ h)
    never_malformed (lose_out place (Ok n)) d h = none_some _ h
    never_malformed (lose_out place (Err r)) d h = lose_fair s.ends i.made.made x place s.ends.out (d.does.0.0 ∙ h)
    never_malformed (lose_back place (Ok n)) d h = none_some _ h
    never_malformed (lose_back place (Err r)) d h = lose_fair s.ends i.made.made x place s.ends.back (d.does.0.0 ∙ h)
    never_malformed (tick (Ok n)) d h = none_some _ h
    never_malformed (tick (Err r)) d h = tick_fair s.ends i.made.made x (d.does.0.0 ∙ h)
