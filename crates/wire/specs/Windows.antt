-- The window in the head of an acknowledgement.
use Rattle.std.specs.Prelude.{ℕ, ◌/◌, ◌%◌, ◌^◌, ◌<◌}
use Rattle.std.proofs.Common.{arith}
use Rattle.wire.specs.declared.window.Window.{Window}

-- bits 29 to 16
abbrev pub middle_of : ℕ → ℕ
middle_of w = w % 2 ^ 30 / 2 ^ 16

pub narrow_middle : (w : ℕ) → middle_of w < 2 ^ 14
narrow_middle w = omega arith

unfoldable pub window_of : ℕ → Window
window_of w = record { size = middle_of w; narrow = narrow_middle w }
