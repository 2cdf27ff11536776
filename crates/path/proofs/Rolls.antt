-- The calls of a round, one after the other. Assumes nothing.
use Rattle.std.proofs.Common.{◌≡◌, ℕ, suc, ◌+◌, List, Ok, Err, Option, Result, sym, refl, ap, subst}
use Rattle.path.specs.Rounds.{Ticks, Delivers}
use Rattle.path.specs.Rounds.Ticks.{more as one-tick}
use Rattle.path.specs.Rounds.Delivers.{none as no-delivery, more as one-delivery}
use Rattle.path.specs.States.{State, Ends, state_with}
use Rattle.path.specs.Steps.{Delivered, Ticked}
use Rattle.path.specs.declared.entry.Entry.{Entry}
use Rattle.wire.specs.declared.block.Block.{Ghosts}
use Rattle.refusal.specs.declared.refusals.Refusal.{Refusal}

pub delivered_nd : {B : Type 0} (e e' : Ends) (got got' : List (Option (Entry B))) (book book' : List B) (j : ℕ) → Delivered e got book (Ok j) e' got' book' → e'.receiver.nd ≡ e.receiver.nd + 1
delivered_nd e e' got got' book book' j d = ap (λ (x : Ends). x.receiver.nd) d.2

module _ {B : Type 0} (b : Ghosts B) (kept : List (Entry B)) where
  pub deliver_more : (e e' : Ends) (got got' : List (Option (Entry B))) (book book' : List B) (j : ℕ) → Delivered e got book (Ok j) e' got' book'
      → (n : ℕ) (s' : State B) → Delivers b n (state_with e' kept got' book') s' → Delivers b (suc n) (state_with e kept got book) s'
  deliver_more e e' got got' book book' j d n s' rest = one-delivery {j = j} (record { does = (d, refl) }) rest

  pub deliver_stop : (e e' : Ends) (got got' : List (Option (Entry B))) (book book' : List B) (r : Refusal) → Delivered e got book (Err r) e' got' book'
      → Delivers b 0 (state_with e kept got book) (state_with e' kept got' book')
  deliver_stop e e' got got' book book' r d =
      let P : State B → Type 0 = λ s. Delivers b 0 (state_with e kept got book) s in
      subst P (λ i. state_with (sym d.1 i) kept (sym d.2 i) (sym d.3 i)) (no-delivery d.0)

  pub tick_more : (e e' : Ends) (got : List (Option (Entry B))) (book : List B) (r : Result (Unit {0}) Refusal) → Ticked e r e'
      → (n : ℕ) (s' : State B) → Ticks b n (state_with e' kept got book) s' → Ticks b (suc n) (state_with e kept got book) s'
  tick_more e e' got book r d n s' rest = one-tick {r = r} (record { does = (d, refl, refl, refl) }) rest
