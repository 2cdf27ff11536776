use Rattle.std.proofs.Common.{rules}
use Rattle.wire.proofs.Widths.{window_back}
use Rattle.wire.proofs.window.Window.in_head.Goals as goal

pub returns : goal.returns
returns c = record { value = search rules; back = window_back c.args.self }
