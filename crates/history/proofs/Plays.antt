-- One turn more of a list of calls, and the promise for the whole list. Assumes nothing.
use Rattle.std.proofs.Common.{◌≡◌, ℕ, zero, suc, ◌+◌, ◌<◌, List, [], ◌∷◌, ◌++◌, length, get_or, take, set, Ok, Option, sym, refl, ap, ◌∙◌, subst}
use mathlib.Core.Path.{transport}
use Rattle.std.proofs.lemmas.List.{take_more_set}
use Rattle.carrier.specs.Carriers.{Aged}
use Rattle.carrier.specs.declared.carrier.Carrier.{Ghosts as Carries}
use Rattle.history.specs.Calls.{Makes}
use Rattle.history.specs.Runs.{first_state, Plays, Run}
use Rattle.path.specs.Events.{Event, JustMade}
use Rattle.path.specs.Makings.{bar_of}
use Rattle.path.specs.States.{State, Ends, state_with, setting_with, new_ends}
use Rattle.path.specs.Steps.{emptied, outcome_of}
use Rattle.path.specs.declared.entry.Entry.{Entry}
use Rattle.ends.specs.declared.outcome.Outcome.{Outcome}
use Rattle.promise.proofs.Playing.{played_more, turns_promised}
use Rattle.promise.proofs.Whole.{promise as kept-promise}
use Rattle.promise.specs.Turns.{Answer, Turning, Played, calls_of}
use Rattle.promise.specs.Turns.Played.{none}
use Rattle.promise.specs.declared.call.Call.{Call}
use Rattle.promise.specs.declared.call.Call.TheVariants.{Offer, Seal, Send, Resend, Arrive, Hear, Deliver, Acknowledge, LoseOutward, LoseBack, Tick, Round}
use Rattle.promise.specs.declared.call.Turn.{Turn}
use Rattle.wire.specs.declared.block.Block.{Ghosts}
use Rattle.terms.specs.declared.agreed.Terms.{Terms}

pub calls_of_set : {B : Type 0} (ts : List (Turn B)) (i : ℕ) (t : Turn B) → t.call ≡ (get_or ts i t).call → calls_of (set ts i t) ≡ calls_of ts
calls_of_set [] i t e = refl
calls_of_set (u ∷ ts) zero t e = ap (λ c. c ∷ calls_of ts) e
calls_of_set (u ∷ ts) (suc i) t e = ap (λ cs. u.call ∷ cs) (calls_of_set ts i t e)

-- a path just made, over stores that hold what was lent
pub first_made : {O K B : Type 0} (o : Carries O) (k : Carries K) (t : Terms) (out : O) (back : K) (kept kept₀ : List (Entry B)) (got got₀ got₁ : List (Option (Entry B))) (book : List B) (e : Ends)
    → e ≡ new_ends (setting_with o k t (bar_of o k t out back (length got₀)) out back) (o.list out) (k.list back) → kept₀ ≡ kept
    → got₁ ≡ emptied (bar_of o k t out back (length got₀)) got₀ → got₀ ≡ got → state_with e kept₀ got₁ book ≡ first_state o k t out back kept got book
first_made o k t out back kept kept₀ got got₀ got₁ book e he hk hg lent =
    let ends = he ∙ ap (λ x. new_ends (setting_with o k t (bar_of o k t out back (length x)) out back) (o.list out) (k.list back)) lent in
    let store = hg ∙ ap (λ x. emptied (bar_of o k t out back (length x)) x) lent in
    λ i. state_with (ends i) (hk i) (store i) book

module _ {B : Type 0} (b : Ghosts B) where
  pub plays_none : {s : State B} → Plays b s [] s
  plays_none = record { events = []; played = none }

  -- a call made by its own rule is a turn, with the events that it is
  turn_of : (s s' : State B) (c : Call B) (a : Answer) → Makes b s c a s' → (es : List (Event B)) × Turning b s (record { call = c; answer = a }) es s'
  turn_of s s' (Offer x) a (r, q, d) = (_, record { turned = (r, q, (refl, d)) })
  turn_of s s' Seal a (r, q, d) = (_, record { turned = (r, q, (refl, d)) })
  turn_of s s' Send a (r, q, d) = (_, record { turned = (r, q, (refl, d)) })
  turn_of s s' (Resend j) a (r, q, d) = (_, record { turned = (r, q, (refl, d)) })
  turn_of s s' (Arrive place) a (r, q, d) = (_, record { turned = (r, q, (refl, d)) })
  turn_of s s' (Hear place) a (r, q, d) = (_, record { turned = (r, q, (refl, d)) })
  turn_of s s' Deliver a (r, q, d) = (_, record { turned = (r, q, (refl, d)) })
  turn_of s s' Acknowledge a (r, q, d) = (_, record { turned = (r, q, (refl, d)) })
  turn_of s s' (LoseOutward place) a (r, q, d) = (_, record { turned = (r, q, (refl, d)) })
  turn_of s s' (LoseBack place) a (r, q, d) = (_, record { turned = (r, q, (refl, d)) })
  turn_of s s' Tick a (r, q, d) = (_, record { turned = (r, q, (refl, d)) })
  turn_of s s' Round a (r, q, d) = (_, record { turned = (r, q, (d, refl)) })

  plays_more : {s m s' : State B} (t : Turn B) {ts : List (Turn B)} → Plays b s ts m → Makes b m t.call t.answer s' → Plays b s (ts ++ t ∷ []) s'
  plays_more {s} {m} {s'} t {ts} p q =
      let now = turn_of m s' t.call t.answer q in
      record { events = now.0 ++ p.events; played = played_more b s m s' ts t p.events now.0 p.played now.1 }

  -- one turn of a loop that writes the answers in
  pub plays_turn : {s m s' : State B} (ts : List (Turn B)) (i : ℕ) (t : Turn B) → i < length ts → Plays b s (take i ts) m → Makes b m t.call t.answer s' → Plays b s (take (i + 1) (set ts i t)) s'
  plays_turn {s} {m} {s'} ts i t h p q = subst (λ us. Plays b s us s') (sym (take_more_set ts i t h)) (plays_more t p q)

  -- a run from the making to the end, by what the code holds at both
  pub whole : (back-law : (x : B) → b.fits x → b.reads (b.written x) ≡ Ok x) (first s₀ s₁ : State B) (asked turns : List (Turn B)) (outcome : Outcome) (out back : List Aged)
      (kept : List (Entry B)) (got : List (Option (Entry B))) (book : List B)
      → JustMade b first → Plays b s₀ turns s₁ → s₀ ≡ first → calls_of turns ≡ calls_of asked → outcome ≡ outcome_of s₁.ends → out ≡ s₁.ends.out → back ≡ s₁.ends.back
      → s₁.kept ≡ kept → s₁.got ≡ got → s₁.book ≡ book → Run b first asked turns outcome out back kept got book
  whole back-law first s₀ s₁ asked turns outcome out back kept got book new p start same told o k hk hg hb =
      let last = state_with s₁.ends kept got book in
      let played : Played b first turns p.events last = transport (λ i. Played b (start i) turns p.events (state_with s₁.ends (hk i) (hg i) (hb i))) p.played in
      record {
        ends = s₁.ends;
        same_calls = same;
        promise = kept-promise b back-law;
        replayed = turns_promised b (kept-promise b back-law) first last turns p.events new played;
        outcome_told = told;
        out_given = o;
        back_given = k;
      }
