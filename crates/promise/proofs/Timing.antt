-- First sends are a gap apart, so few fall into a frame's life.
use Rattle.std.proofs.Common.{◌≡◌, ℕ, zero, suc, ◌+◌, ◌-◌, ◌*◌, ◌/◌, ◌<◌, ◌≤◌, min, arith}
use native.Mathlib.Decide.{dec_le}
use Rattle.promise.proofs.Cyclic.{rounded}
use Rattle.terms.specs.declared.agreed.Terms.{Terms}

-- what terms leave room for: K gaps cover a lifetime, and the numbers suffice for both windows and K more
pub record Legal (t : Terms) : Type 0 where
  pub K : ℕ
  pub covered : t.lifetime ≤ K * t.gap
  pub enough : t.send_window + t.receive_window + K ≤ t.numbers
  pub sw_some : 1 ≤ t.send_window
  pub rw_some : 1 ≤ t.receive_window
  pub rw_small : t.receive_window ≤ 4096
  pub l_some : 1 ≤ t.lifetime
  pub δ-some : 1 ≤ t.gap
  pub n_small : t.numbers ≤ 65536

pub legal : (t : Terms) → Legal t
legal t =
    let range = t.range in
    let gap : 0 < t.gap = omega (arith, range.1.1) in
    let up = rounded t.lifetime t.gap gap in
    record {
      K = (t.lifetime + t.gap - 1) / t.gap;
      covered = up.0;
      enough = t.enough _ up;
      sw_some = range.0.0.0;
      rw_some = range.0.1.0;
      rw_small = range.0.1.1;
      l_some = range.1.0.0;
      δ-some = range.1.1.0;
      n_small = t.count.1;
    }

-- a put so many ticks ago, when no more than `base` entries were sent: since then the sends were a gap apart
pub record Timed (gap ns rest base age : ℕ) : Type 0 where
  pub spaced : (c : ℕ) → base + c < ns → c * gap + rest ≤ age

pub timed_new : (gap ns rest base age : ℕ) → ns ≤ base → Timed gap ns rest base age
timed_new gap ns rest base age h = record { spaced = λ c k. absurd (omega arith) }

module _ (gap ns rest base age : ℕ) (t : Timed gap ns rest base age) where
  pub timed_send : gap ≤ rest → Timed gap (ns + 1) 0 base age
  timed_send d = record { spaced = go }
    where
      go : (c : ℕ) → base + c < ns + 1 → c * gap + 0 ≤ age
      go zero h = omega arith
      go (suc c) h = omega (arith, t.spaced c (omega arith), d)

  pub timed_tick : (older : ℕ) → age + 1 ≡ older → Timed gap ns (min (rest + 1) gap) base older
  timed_tick older q = record { spaced = λ c h. omega (arith, t.spaced c h) }

  pub recent : (K life : ℕ) → life ≤ K * gap → age < life → ns ≤ base + K
  recent K life cover young = elim (dec_le ns (base + K)) [ yes h ↦ h | no n ↦ absurd (beyond n) ]
    where
      beyond : ¬ (ns ≤ base + K) → ⊥
      beyond n =
          let s : K * gap + rest ≤ age = t.spaced K (omega arith) in
          omega arith
