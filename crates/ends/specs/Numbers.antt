-- The numbers of both ends, and what each step does to them.
use Rattle.std.specs.Prelude.{◌≡◌, ℕ, ◌+◌, ◌-◌, ◌%◌, ◌<◌, ◌≤◌, min, max, Bool, false, cond, Some, None, Option, ◌==◌, nat_le}
use Rattle.ends.specs.declared.outcome.Outcome.{Outcome}
use Rattle.ends.specs.declared.outcome.Outcome.TheVariants.{Complete, Unsure}
use Rattle.ends.specs.declared.receiver.Receiver.{Receiver}
use Rattle.ends.specs.declared.sender.Sender.{Sender}
use Rattle.terms.specs.declared.agreed.Terms.{Terms}

-- the sender's numbers
pub record Sends : Type 0 where
  pub ng : ℕ
  pub ns : ℕ
  pub na : ℕ
  pub sw : ℕ
  pub rest : ℕ
  pub sealed : Bool

-- the receiver's numbers
pub record Gets : Type 0 where
  pub nr : ℕ
  pub nd : ℕ

abbrev pub sends_of : Sender → Sends
sends_of s = record { ng = s.ng; ns = s.ns; na = s.na; sw = s.sw; rest = s.rest; sealed = s.sealed }

abbrev pub gets_of : Receiver → Gets
gets_of r = record { nr = r.nr; nd = r.nd }

-- a sender that has done nothing may send at once
abbrev pub new_sends : Terms → Sends
new_sends t = record { ng = 0; ns = 0; na = 0; sw = t.send_window; rest = t.gap; sealed = false }

-- one entry more is accepted; the end mark seals
abbrev pub one_accepted : Bool → Sends → Sends
one_accepted sealed s = record { ng = s.ng + 1; ns = s.ns; na = s.na; sw = s.sw; rest = s.rest; sealed = sealed }

-- one entry more is sent, and the rest begins
abbrev pub one_sent : Sends → Sends
one_sent s = record { ng = s.ng; ns = s.ns + 1; na = s.na; sw = s.sw; rest = 0; sealed = s.sealed }

-- na rises, with a new window
abbrev pub heard_of : ℕ → ℕ → Sends → Sends
heard_of na sw s = record { ng = s.ng; ns = s.ns; na = na; sw = sw; rest = s.rest; sealed = s.sealed }

-- a tick passed: the rest grows up to the gap
abbrev pub rested : ℕ → Sends → Sends
rested gap s = record { ng = s.ng; ns = s.ns; na = s.na; sw = s.sw; rest = min (s.rest + 1) gap; sealed = s.sealed }

abbrev pub one_delivered : Gets → Gets
one_delivered g = record { nr = g.nr; nd = g.nd + 1 }

-- how far a cyclic number lies past a whole one: (cyclic − whole) mod n
abbrev pub ahead : ℕ → ℕ → ℕ → ℕ
ahead n cyclic whole = (cyclic + n - whole % n) % n

-- the sender after an acknowledgement t past na with window w: heeded where t is at most ns − na
abbrev pub hearing : ℕ → ℕ → ℕ → Sends → Sends
hearing most t w s =
    cond (t == 0) (heard_of s.na (max s.sw (min w most)) s) (cond (nat_le t (s.ns - s.na)) (heard_of (s.na + t) (min w most) s) s)

-- the answer is the rise of na
abbrev pub rise : ℕ → Sends → ℕ
rise t s = cond (nat_le t (s.ns - s.na)) t 0

-- a number t past nr is read as nr + t where there is room for it, and else ignored
abbrev pub ReadAs : ℕ → ℕ → ℕ → Option ℕ → Type 0
ReadAs t room nr None = room ≤ t
ReadAs t room nr (Some j) = (t < room) × (j ≡ nr + t)

-- na, ns and ng as they stand
abbrev pub unsure : Sends → Outcome
unsure s = Unsure s.na s.ns s.ng

-- complete exactly if a seal was accepted and every accepted entry was heard of
abbrev pub outcome : Sends → Outcome
outcome s = cond s.sealed (cond (s.na == s.ng) Complete (unsure s)) (unsure s)
