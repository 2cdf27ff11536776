use Rattle.std.proofs.Common.{rules}
use Rattle.std.proofs.lemmas.Iterator.{YieldsList-from_slice, YieldsList-from_map}
use Rattle.std.proofs.lemmas.Iterator.Adapters.{items_from_extend}
use Rattle.std.proofs.lemmas.Iterator.Consumers.{YieldsList-at, YieldsList-from_enumerate}
use Rattle.lines.specs.Lines.{line_of}
use Rattle.script.proofs.Listing.{lines_placed}
use Rattle.script.proofs.running.turn_lines.Goals as goal

pub returns : goal.returns
returns c =
    let h =
    items_from_extend c.extend.result c.extend.ensures.ran
    (YieldsList-from_map _ (λ p. line_of p.0 p.1)
    (YieldsList-at c.map.ensures.source (YieldsList-from_enumerate (YieldsList-at c.enumerate.ensures.source (YieldsList-from_slice c.args.turns.now c.iter.ensures.rest)) c.enumerate.ensures.count)) c.map.ensures.closure (λ x r q k. search rules)) in
    rw (← lines_placed 0 c.args.turns.now) (search rules)
