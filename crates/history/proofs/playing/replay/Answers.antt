use Rattle.std.proofs.Common.{refl, ap, rules}
use Rattle.promise.proofs.Making.{just_made}
use Rattle.history.proofs.Plays.{whole, first_made}
use Rattle.history.proofs.playing.replay.Goals as goal

pub returns : goal.returns
returns g c =
    whole g.B.Block g.met.B.Block.back _ _ _ _ _ _ _ _ _ _ _
    (just_made g.B.Block _ _ _ _ _ _ refl) c.play.ensures.played
    (first_made g.O.Carrier g.K.Carrier c.args.terms c.args.out c.args.back c.args.kept.now _ c.args.got.now _ _ c.args.book.now _ c.new-path.ensures.ends c.new-kept.ensures.value c.new-path.ensures.store c.new-got.ensures.value)
    c.play.ensures.same c.end.ensures.outcome
    (ap g.O.Carrier.list c.end.ensures.carriers.0) (ap g.K.Carrier.list c.end.ensures.carriers.1) (search rules) (search rules) refl
