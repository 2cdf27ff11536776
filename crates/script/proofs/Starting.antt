-- A script's path is made over empty shelves, so its making is accepted. Assumes nothing.
use Rattle.std.proofs.Common.{◌≡◌, ℕ, min, max, List, [], length, replicate, None, Option, refl, ap, ◌∙◌, subst, arith}
use Rattle.std.proofs.lemmas.List.{length-replicate}
use Rattle.std.proofs.lemmas.Bool.Decides.{nat_tests}
use Rattle.carrier.specs.Carriers.{Aged}
use Rattle.carrier.specs.declared.carrier.Carrier.{Ghosts as Carries}
use Rattle.history.specs.Runs.{Run, first_state}
use Rattle.promise.specs.Turns.{Replayed}
use Rattle.promise.specs.declared.call.Turn.{Turn}
use Rattle.path.specs.Bars.{make_bar}
use Rattle.path.specs.States.{State, state_with, new_ends}
use Rattle.path.specs.Steps.{emptied}
use Rattle.path.specs.declared.entry.Entry.{Entry}
use Rattle.path.specs.declared.entry.Entry.TheVariants.{EndMark}
use Rattle.ends.specs.declared.outcome.Outcome.{Outcome}
use Rattle.script.specs.Runs.{commands, started, Ran}
use Rattle.wire.specs.declared.command.Command.{Command}
use Rattle.refusal.specs.declared.refusals.Refusal.{Refusal}
use Rattle.terms.specs.declared.agreed.Terms.{Terms}

-- a lifetime of the terms is no shelf's to cut
life_kept : (t : Terms) (life : ℕ) → life ≡ min 65535 (max 1 t.lifetime) → life ≡ t.lifetime
life_kept t life e = omega (arith, e, t.range)

unbarred : (t : Terms) (places : ℕ) → places ≡ t.receive_window → make_bar t t.lifetime 8 t.lifetime 8 [] [] places ≡ None
unbarred t places e = grind (arith, nat_tests)

module _ (t : Terms) (kept : List (Entry Command)) (book : List Command) where
  abbrev making : Option Refusal → List Aged → List Aged → ℕ → ℕ → ℕ → ℕ → List (Option (Entry Command)) → State Command
  making refused out back out_life back_life out_room back_room got =
      state_with (new_ends (record { terms = t; refused = refused; out_life = out_life; out_room = out_room; back_life = back_life; back_room = back_room }) out back) kept (emptied refused got) book

  abbrev barred : List Aged → List Aged → ℕ → ℕ → ℕ → ℕ → List (Option (Entry Command)) → Option Refusal
  barred out back out_life back_life out_room back_room got = make_bar t out_life out_room back_life back_room out back (length got)

  pub starts : (out back : List Aged) (out_life back_life out_room back_room : ℕ) (got : List (Option (Entry Command)))
      → out ≡ [] → back ≡ [] → out_life ≡ t.lifetime → back_life ≡ t.lifetime → out_room ≡ 8 → back_room ≡ 8 → got ≡ replicate t.receive_window None
      → making (barred out back out_life back_life out_room back_room got) out back out_life back_life out_room back_room got ≡ started t kept book
  starts out back out_life back_life out_room back_room got a b c d e f g =
      let empty : List (Option (Entry Command)) = replicate t.receive_window None in
      let size : length empty ≡ t.receive_window = length-replicate t.receive_window None in
      rw (a, b, c, d, e, f, g) (rw (unbarred t (length empty) size) (rw size refl))

pub ran_from : {O K : Type 0} (o : Carries O) (k : Carries K) (t : Terms) (out : O) (back : K) (kept kept' : List (Entry Command)) (got got' : List (Option (Entry Command))) (book book' : List Command)
    (asked turns : List (Turn Command)) (outcome : Outcome) (ol bl : List Aged)
    → o.list out ≡ [] → k.list back ≡ [] → o.life out ≡ min 65535 (max 1 t.lifetime) → k.life back ≡ min 65535 (max 1 t.lifetime) → o.room out ≡ 8 → k.room back ≡ 8
    → kept ≡ replicate t.send_window EndMark → got ≡ replicate t.receive_window None → length book ≡ 64
    → Run commands (first_state o k t out back kept got book) asked turns outcome ol bl kept' got' book' → Ran t asked turns outcome
ran_from o k t out back kept kept' got got' book book' asked turns outcome ol bl a b c d e f h g long r =
    let same = starts t kept book (o.list out) (k.list back) (o.life out) (k.life back) (o.room out) (k.room back) got a b (life_kept t (o.life out) c) (life_kept t (k.life back) d) e f g in
    let last = state_with r.ends kept' got' book' in
    let P : State Command → Type 0 = λ s. Replayed commands s turns last in
    record {
      kept = kept;
      book = book;
      last = last;
      kept_long = ap length h ∙ length-replicate t.send_window EndMark;
      book_long = long;
      same_calls = r.same_calls;
      replayed = subst P same r.replayed;
      outcome_told = r.outcome_told;
    }
