use Rattle.std.proofs.Common.{map, refl, ap, ◌∙◌, arith}
use Rattle.carrier.specs.Lifetimes.{ticks_of}
use Rattle.carrier.specs.Records.{records_list}
use Rattle.carrier.proofs.Held.{held_tick}
use Rattle.word_log.specs.declared.log.Now.{Now}
use Rattle.word_log.specs.Logs.{played, next, log_life}
use Rattle.word_log.proofs.Logged.{later}
use Rattle.word_log.proofs.log.LogCarrier.tick.Goals as goal

pub returns-clause-ticked : goal.returns-clause-ticked
returns-clause-ticked c =
    let s = c.args.self.now in
    let life = log_life s in
    let clock = s.now.clock in
    let after = played (next s.now).clock life in
    ap (λ (n : Now). map (played n.clock (ticks_of n.life)) (records_list c.retain.new.self)) c.next-self.ensures
    ∙ ap (map after) c.retain.ensures.list
    ∙ held_tick (played clock life) (records_list s.quads) life after (later clock (next s.now).clock life refl (omega arith))
