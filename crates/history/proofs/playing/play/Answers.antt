use Rattle.std.proofs.Common.{refl, ap, ◌∙◌, arith}
use Rattle.std.proofs.lemmas.List.{get_or_default}
use Rattle.promise.specs.declared.call.Turn.{Turn}
use Rattle.history.proofs.Plays.{plays_none, plays_turn, calls_of_set}
use Rattle.history.proofs.playing.play.Goals as goal

pub loop-turn-init : goal.loop-turn-init
loop-turn-init g c = (plays_none _, refl, refl, refl)

pub loop-turn-preserved : goal.loop-turn-preserved
loop-turn-preserved g c =
    let told = c.make_call-turn.ensures in
    let inv = c.loop-turn.invariant in (
      plays_turn _ c.loop-turn.turns c.loop-turn.turn-index _ (omega arith) inv.0 told.makes,
      calls_of_set c.loop-turn.turns c.loop-turn.turn-index _ (ap (λ (t : Turn _). t.call) (get_or_default c.loop-turn.turns c.loop-turn.turn-index _ _ (omega arith))) ∙ inv.1,
      told.kept_lender ∙ inv.2,
      told.got_lender ∙ inv.3,
    )
