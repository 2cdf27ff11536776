-- The worked history: each step can be taken, and answers what the rules say.
use Rattle.std.proofs.Common.{◌≡◌, ℕ, ◌<◌, ◌≤◌, true, false, List, [], ◌∷◌, is_some, Some, None, Ok, Err, Option, refl, ap, arith}
use Rattle.carrier.specs.Carriers.{Aged}
use Rattle.path.specs.Events.{Step, JustMade, made, then, offer, send, arrive, hear, deliver, acknowledge}
use Rattle.promise.specs.Worked.{Worked, Works}
use Rattle.promise.proofs.Frames.{entry_back}
use Rattle.path.specs.Bars.{fault_in}
use Rattle.path.specs.States.{Setting, State}
use Rattle.path.specs.Steps.{entry_frame, acknowledgement}
use Rattle.store.specs.Stores.{at_number}
use Rattle.path.specs.declared.entry.Entry.{Entry}
use Rattle.path.specs.declared.entry.Entry.TheVariants.{Block, EndMark}
use Rattle.wire.specs.Ends.{taken_of}
use Rattle.wire.specs.Windows.{window_of}
use Rattle.wire.specs.declared.block.Block.{Ghosts}
use Rattle.wire.specs.declared.content.Content.TheVariants as content
use Rattle.wire.specs.declared.content.Head.TheVariants as head
use Rattle.wire.specs.declared.end.Side.TheVariants.{Receiver}
use Rattle.refusal.specs.declared.refusals.Refusal.TheVariants.{NothingToSend}
use Rattle.terms.specs.declared.agreed.Terms.{Terms}

abbrev terms : Terms
terms =
    record {
      send_window = 2;
      receive_window = 2;
      lifetime = 3;
      gap = 2;
      numbers = 6;
      range = (((omega arith, omega arith), (omega arith, omega arith)), ((omega arith, omega arith), (omega arith, omega arith)));
      count = (omega arith, omega arith);
      enough = λ k h. omega (arith, h.0, h.1);
    }

abbrev setting : Setting
setting = record { terms = terms; refused = None; out_life = 3; out_room = 8; back_life = 3; back_room = 8 }

module _ {B : Type 0} (b : Ghosts B) (x y : B) (fit : b.fits x) (back : b.reads (b.written x) ≡ Ok x) where
  abbrev at : ℕ → ℕ → ℕ → ℕ → ℕ → ℕ → List Aged → List Aged → List (Entry B) → List (Option (Entry B)) → List B → State B
  at ng ns na rest nr nd out in' kept got book =
      record {
        ends = record { setting = setting; sender = record { ng = ng; ns = ns; na = na; sw = 2; rest = rest; sealed = false }; receiver = record { nr = nr; nd = nd }; out = out; back = in' };
        kept = kept;
        got = got;
        book = book;
      }

  abbrev s0 : State B
  s0 = at 0 0 0 2 0 0 [] [] (EndMark ∷ EndMark ∷ []) (None ∷ None ∷ []) (y ∷ [])

  abbrev s1 : State B
  s1 = at 1 0 0 2 0 0 [] [] (Block x ∷ EndMark ∷ []) (None ∷ None ∷ []) (y ∷ [])

  abbrev s2 : State B
  s2 = at 1 1 0 0 0 0 ((entry_frame b.written 6 0 (Block x), 0) ∷ []) [] (Block x ∷ EndMark ∷ []) (None ∷ None ∷ []) (y ∷ [])

  abbrev s3 : State B
  s3 = at 1 1 0 0 1 0 ((entry_frame b.written 6 0 (Block x), 0) ∷ []) [] (Block x ∷ EndMark ∷ []) (Some (Block x) ∷ None ∷ []) (y ∷ [])

  abbrev s4 : State B
  s4 = at 1 1 0 0 1 1 ((entry_frame b.written 6 0 (Block x), 0) ∷ []) [] (Block x ∷ EndMark ∷ []) (None ∷ None ∷ []) (x ∷ [])

  abbrev s5 : State B
  s5 = at 1 1 0 0 1 1 ((entry_frame b.written 6 0 (Block x), 0) ∷ []) ((acknowledgement 6 1 2, 0) ∷ []) (Block x ∷ EndMark ∷ []) (None ∷ None ∷ []) (x ∷ [])

  abbrev s6 : State B
  s6 = at 1 1 1 0 1 1 ((entry_frame b.written 6 0 (Block x), 0) ∷ []) ((acknowledgement 6 1 2, 0) ∷ []) (Block x ∷ EndMark ∷ []) (None ∷ None ∷ []) (x ∷ [])

  read : taken_of (record { side = Receiver; numbers = 6 }) b.reads (entry_frame b.written 6 0 (Block x)) ≡ Ok (content.Data 0 x)
  read = entry_back b.written b.reads 6 (omega arith) 0 (Block x) (omega arith) back

  starts : JustMade b s0
  starts = record { barred = refl; new = refl; emptied = λ _. refl }

  offered : Step b s0 (offer x (Ok 0)) s1
  offered = record { does = (fit, (refl, refl, refl, refl), refl, refl) }

  first_sent : Step b s1 (send (Ok 0)) s2
  first_sent = record { does = ((refl, refl, (0, omega arith, refl), refl), refl, refl, refl) }

  none_sent : Step b s2 (send (Err NothingToSend)) s2
  none_sent = record { does = ((refl, refl), refl, refl, refl) }

  filled : (j : ℕ) → 0 ≤ j → j < 1 → is_some (at_number {T = Option (Entry B)} None (Some (Block x) ∷ None ∷ []) j) ≡ true
  filled j lo hi = let z : j ≡ 0 = omega arith in ap (λ k. is_some (at_number {T = Option (Entry B)} None (Some (Block x) ∷ None ∷ []) k)) z

  taken : Step b s2 (arrive 0 (Ok (Some 0))) s3
  taken =
      record {
        does = ((ap fault_in read, (content.Data 0 x, read, (omega arith, refl, refl, record { low = omega arith; high = omega arith; filled = filled; stops = λ h. refl }, refl))), refl, refl);
      }

  ignored : Step b s3 (arrive 0 (Ok None)) s3
  ignored = record { does = ((ap fault_in read, (content.Data 0 x, read, (omega arith, refl, refl))), refl, refl) }

  delivered : Step b s3 (deliver (Ok 0)) s4
  delivered = record { does = ((refl, refl, refl, refl, refl), refl) }

  acknowledged : Step b s4 (acknowledge (Ok 1)) s5
  acknowledged = record { does = ((refl, refl, (0, omega arith, refl), refl), refl, refl, refl) }

  heard : Step b s5 (hear 0 (Ok 1)) s6
  unfolding window_of
  heard = record { does = ((refl, (head.Acknowledgement 1 (window_of (acknowledgement 6 1 2).head), refl, refl, refl)), refl, refl, refl) }

  worked : Worked b x y
  worked =
      record {
        last = s6;
        history = then (then (then (then (then (then (then (then (made starts) offered) first_sent) none_sent) taken) ignored) delivered) acknowledged) heard;
        book = refl;
        outcome = refl;
      }

pub works : {B : Type 0} (b : Ghosts B) → ((x : B) → b.fits x → b.reads (b.written x) ≡ Ok x) → Works b
works b back x y fit = worked b x y fit (back x fit)
