-- When an end refuses a step by its own numbers; `next` is what else may refuse it, by a larger number.
use Rattle.std.specs.Prelude.{◌≡◌, ℕ, ◌+◌, ◌-◌, Bool, cond, Some, None, Ok, Err, Option, Result, ◌==◌, nat_le, nat_lt}
use Rattle.ends.specs.Numbers.{Sends, Gets, sends_of}
use Rattle.ends.specs.declared.sender.Sender.{Sender}
use Rattle.refusal.specs.declared.refusals.Refusal.{Refusal}
use Rattle.refusal.specs.declared.refusals.Refusal.TheVariants.{SenderStoreFull, AlreadySealed, PathFull, NothingToSend, WindowClosed, TooSoon, NotOutstanding, NothingToDeliver}
use Rattle.terms.specs.declared.agreed.Terms.{Terms}

-- one refusal where a test holds, and else the next
abbrev pub where_so : Bool → Refusal → Option Refusal → Option Refusal
where_so b r next = cond b (Some r) next

-- an entry more: the store is full, or the end mark was accepted
abbrev pub accept_stop : Terms → Sends → Option Refusal → Option Refusal
accept_stop t s next = where_so (s.ng - s.na == t.send_window) SenderStoreFull (where_so s.sealed AlreadySealed next)

-- a million blocks were accepted
abbrev pub block_stop : Sends → Option Refusal → Option Refusal
block_stop s next = where_so (nat_le 1000000 s.ng) PathFull next

-- a first send: nothing is left to send, the window has no room, or the gap has not passed
abbrev pub send_stop : Terms → Sends → Option Refusal → Option Refusal
send_stop t s next =
    where_so (s.ns == s.ng) NothingToSend
    (where_so (nat_le (s.na + s.sw) s.ns) WindowClosed
    (where_so (nat_lt s.rest t.gap) TooSoon next))

-- sending the entry j past na again: it was not sent, or was heard of
abbrev pub resend_stop : ℕ → Sends → Option Refusal → Option Refusal
resend_stop j s next = where_so (nat_le (s.ns - s.na) j) NotOutstanding next

-- a delivery: every entry in sequence was delivered
abbrev pub deliver_stop : Gets → Option Refusal → Option Refusal
deliver_stop g next = where_so (g.nd == g.nr) NothingToDeliver next

-- nothing but whether there is a refusal, and which
abbrev pub Checked : Option Refusal → Result (Unit {0}) Refusal → Type 0
Checked bar (Ok u) = bar ≡ None
Checked bar (Err r) = bar ≡ Some r

-- the sender with these numbers, or a refusal
abbrev pub Stepped : Terms → Option Refusal → Sends → Result Sender Refusal → Type 0
Stepped t bar s (Ok x) = (bar ≡ None) × (sends_of x ≡ s) × (x.terms ≡ t)
Stepped t bar s (Err r) = bar ≡ Some r
