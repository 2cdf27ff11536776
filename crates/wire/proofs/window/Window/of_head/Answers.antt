use Rattle.std.proofs.Common.{rules}
use Rattle.wire.specs.Windows.{window_of}
use Rattle.wire.proofs.Widths.{same_width}
use Rattle.wire.proofs.window.Window.of_head.Goals as goal

pub returns : goal.returns
unfolding window_of
returns c = record { value = same_width _ (window_of c.args.head) (search rules); size = search rules }
