-- A round counts as the calls it makes.
use Rattle.std.proofs.Common.{ℕ, zero, suc, List, [], ◌∷◌, ◌++◌, Ok, sym, subst, append_assoc}
use Rattle.path.specs.Events.{Event, History, deliver, tick, then}
use Rattle.path.specs.Rounds.{Ticks, Delivers, Lands, Closes, again, first, stop, Round, tick_events, deliver_events, close_events, round_events}
use Rattle.path.specs.Rounds as R
use Rattle.path.specs.States.{State}
use Rattle.wire.specs.declared.block.Block.{Ghosts}

module _ {B : Type 0} (b : Ghosts B) where
  -- one event before the others
  regroup : (es more : List (Event B)) (e : Event B) (s : State B) → History b (more ++ e ∷ es) s → History b ((more ++ e ∷ []) ++ es) s
  regroup es more e s h = subst (λ l. History b l s) (sym (append_assoc more (e ∷ []) es)) h

  ticking : (n : ℕ) (es : List (Event B)) (s m : State B) → History b es s → (ts : Ticks b n s m) → History b (tick_events ts ++ es) m
  ticking zero es s m h R.Ticks.none = h
  ticking (suc n) es s m h (R.Ticks.more {r = r} {m = t} d ts) = regroup es (tick_events ts) (tick r) m (ticking n (tick r ∷ es) t m (then h d) ts)

  delivering : (n : ℕ) (es : List (Event B)) (s m : State B) → History b es s → (ds : Delivers b n s m) → History b (deliver_events ds ++ es) m
  delivering zero es s m h (R.Delivers.none q) = h
  delivering (suc n) es s m h (R.Delivers.more {j = j} {m = t} d ds) = regroup es (deliver_events ds) (deliver (Ok j)) m (delivering n (deliver (Ok j) ∷ es) t m (then h d) ds)

  closing : (es : List (Event B)) (s m : State B) → History b es s → (c : Closes b s m) → History b (close_events c ++ es) m
  closing es s m h (again {m = t} z k l) = then (then (then h k.1) l.arrives.1) l.strikes.1
  closing es s m h (first {t = t} {m = v} g z w ts k l) = then (then (then (ticking s.ends.setting.terms.gap es s t h ts) k.1) l.arrives.1) l.strikes.1
  closing es s m h (stop g n) = h

  pub round_calls : (es : List (Event B)) (s m : State B) (n : ℕ) → History b es s → (r : Round b n s m) → History b (round_events r ++ es) m
  round_calls es s m n h r =
      let o = r.opens in
      let x = delivering n es s o.stored h o.delivers in
      let y = then (then (then x o.acknowledges.1) o.hears.1) o.strikes.1 in
      subst (λ l. History b l m) (sym (append_assoc (close_events r.closes) _ es)) (closing _ r.half m y r.closes)
