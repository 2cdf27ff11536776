-- Windows of one size are one window. Assumes nothing.
use Rattle.std.proofs.Common.{◌≡◌, ℕ, ◌+◌, ◌*◌, ◌^◌, ◌<◌, arith}
use mathlib.Core.HLevel.{is_prop→PathP}
use native.Mathlib.Bridge.{le_prop}
use Rattle.wire.specs.Windows.{window_of}
use Rattle.wire.specs.declared.window.Window.{Window}

pub same_width : (v w : Window) → v.size ≡ w.size → v ≡ w
same_width v w e = λ i. record { size = e i; narrow = is_prop→PathP (λ j. e j < 2 ^ 14) (λ j. le_prop) v.narrow w.narrow i }

pub window_back : (w : Window) (n : ℕ) → n < 2 ^ 16 → window_of (2 * 2 ^ 30 + w.size * 2 ^ 16 + n) ≡ w
unfolding window_of
window_back w n h = same_width (window_of (2 * 2 ^ 30 + w.size * 2 ^ 16 + n)) w (omega (arith, w.narrow))
