use Rattle.std.proofs.Common.{◌≡◌, ◌∷◌, drop, filter, length, sym, refl, ap, ◌∙◌, arith}
use Rattle.std.proofs.lemmas.List.{drop-drop, length-drop}
use Rattle.std.proofs.lemmas.Bool.{lt-ltb}
use Rattle.lists.proofs.Kept.{kept_yes}
use Rattle.carrier.specs.Carriers.{Aged, under}
use Rattle.walk.specs.Frames.{frames_left}
use Rattle.walk.proofs.show_each_young.Goals as goal

pub loop-frame-preserved-then-age-life : goal.loop-frame-preserved-then-age-life
loop-frame-preserved-then-age-life g c =
    let p = under c.args.life in
    let all = filter p (g.C.Carrier.list c.args.c.now) in
    let x : Aged = (c.in-Some.frame, c.in-Some.age) in
    let rest = frames_left g.C.Carrier c.next.new.self in
    let here : drop c.loop-frame.young all ≡ x ∷ filter p rest = sym c.loop-frame.invariant.0 ∙ ap (filter p) c.in-Some.ensures.steps ∙ kept_yes p x rest (lt-ltb c.in-Some.age c.args.life c.if-age-life.true) in
    (sym (ap (drop 1) here) ∙ drop-drop 1 c.loop-frame.young all, omega (arith, c.loop-frame.invariant.1, c.if-young-place.false))

pub returns : goal.returns
returns g c =
    let p = under c.args.life in
    let all = filter p (g.C.Carrier.list c.args.c.now) in
    let none = sym c.loop-frame.invariant.0 ∙ ap (filter p) c.in-None.ensures.steps.0 in
    (omega (arith, c.loop-frame.invariant.1, length-drop c.loop-frame.young all, ap length none), refl)
