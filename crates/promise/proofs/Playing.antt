-- Turns that are played are a history, and come through where they end with ticks and rounds.
use Rattle.std.proofs.Common.{◌≡◌, ℕ, zero, suc, List, [], ◌∷◌, ◌++◌, Ok, Err, Result, sym, refl, ap, ◌∙◌, subst, append_assoc, append-nil}
use Rattle.path.specs.Events as event
use Rattle.path.specs.Events.{Event, Step, JustMade, History, Fresh, made, then}
use Rattle.promise.specs.Promise.{Promise, Promised}
use Rattle.path.specs.Rounds as R
use Rattle.path.specs.Rounds.{Ticks, Delivers, Lands, Closes, again, first, stop, Opens, Rounded, Rounds}
use Rattle.promise.specs.Turns.{Answer, Turned, Turning, Played, OnTheWay, Only, TurnsPromised}
use Rattle.promise.specs.Turns as T
use Rattle.promise.specs.Vocabulary.{AtEveryMoment}
use Rattle.promise.specs.declared.call.Call.{Call}
use Rattle.promise.specs.declared.call.Call.TheVariants.{Offer, Seal, Send, Resend, Arrive, Hear, Deliver, Acknowledge, LoseOutward, LoseBack, Tick, Round}
use Rattle.promise.specs.declared.call.Turn.{Turn}
use Rattle.promise.proofs.Calls.{round_calls}
use Rattle.promise.proofs.Settings.{setting_kept}
use Rattle.path.specs.States.{Setting, State}
use Rattle.wire.specs.declared.block.Block.{Ghosts}
use Rattle.refusal.specs.declared.refusals.Refusal.{Refusal}

module _ {B : Type 0} (b : Ghosts B) where
  -- what a turn adds to a history
  module _ (past es : List (Event B)) (s m : State B) (h : History b past s) where
    adds : (e : Event B) → (es ≡ e ∷ []) × Step b s e m → History b (es ++ past) m
    adds e d = subst (λ l. History b (l ++ past) m) (sym d.0) (then h d.1)

    adds_round : (r : Result ℕ Refusal) → (d : Rounded b s r m) × (es ≡ T.rounded_events b s r m d) → History b (es ++ past) m
    adds_round (Ok n) d = subst (λ l. History b (l ++ past) m) (sym d.1) (round_calls b past s m n h d.0.1)
    adds_round (Err r) d = subst (λ l. History b (l ++ past) m) (sym d.1) (subst (λ v. History b past v) (sym d.0.1) h)

    turned : (c : Call B) (a : Answer) → Turned b s c a es m → History b (es ++ past) m
    turned (Offer x) a d = adds _ d.2
    turned Seal a d = adds _ d.2
    turned Send a d = adds _ d.2
    turned (Resend j) a d = adds _ d.2
    turned (Arrive place) a d = adds _ d.2
    turned (Hear place) a d = adds _ d.2
    turned Deliver a d = adds _ d.2
    turned Acknowledge a d = adds _ d.2
    turned (LoseOutward place) a d = adds _ d.2
    turned (LoseBack place) a d = adds _ d.2
    turned Tick a d = adds _ d.2
    turned Round a d = adds_round d.0 d.2

  pub played_on : (past es : List (Event B)) (s m : State B) (ts : List (Turn B)) → History b past s → Played b s ts es m → History b (es ++ past) m
  played_on past es s m ts h T.Played.none = h
  played_on past es s m ts h (T.Played.more {t = t} {ts = us} {es = now} {later = later} {m = v} d p) =
      subst (λ l. History b l m) (sym (append_assoc later now past)) (played_on (now ++ past) later v m us (turned past now s v h t.call t.answer d.turned) p)

  pub played_history : (start last : State B) (ts : List (Turn B)) (es : List (Event B)) → JustMade b start → Played b start ts es last → History b es last
  played_history start last ts es j p = subst (λ l. History b l last) (append-nil es) (played_on [] es start last ts (made j) p)

  -- one turn more
  pub played_more : (s m s' : State B) (ts : List (Turn B)) (t : Turn B) (es now : List (Event B)) → Played b s ts es m → Turning b m t now s' → Played b s (ts ++ t ∷ []) (now ++ es) s'
  played_more s m s' ts t es now T.Played.none d = subst (λ l. Played b s (t ∷ []) l s') (sym (append-nil now)) (T.Played.more d T.Played.none)
  played_more s m s' ts t es now (T.Played.more {t = u} {ts = us} {es = old} {later = later} {m = v} c p) d =
      subst (λ l. Played b s (u ∷ (us ++ t ∷ [])) l s') (append_assoc now later old) (T.Played.more c (played_more v m s' us t later now p d))

  -- the setting stays
  steps : (s m : State B) (e : Event B) → Step b s e m → m.ends.setting ≡ s.ends.setting
  steps s m e d = setting_kept b s m e d

  ticks_setting : (n : ℕ) (s m : State B) → Ticks b n s m → m.ends.setting ≡ s.ends.setting
  ticks_setting zero s m R.Ticks.none = refl
  ticks_setting (suc n) s m (R.Ticks.more {m = v} d ts) = ticks_setting n v m ts ∙ steps s v _ d

  delivers_setting : (n : ℕ) (s m : State B) → Delivers b n s m → m.ends.setting ≡ s.ends.setting
  delivers_setting zero s m (R.Delivers.none h) = refl
  delivers_setting (suc n) s m (R.Delivers.more {m = v} d ds) = delivers_setting n v m ds ∙ steps s v _ d

  lands_setting : (s m : State B) → Lands b s m → m.ends.setting ≡ s.ends.setting
  lands_setting s m l = steps l.there m _ l.strikes.1 ∙ steps s l.there _ l.arrives.1

  closes_setting : (s m : State B) → Closes b s m → m.ends.setting ≡ s.ends.setting
  closes_setting s m (again {m = v} h k l) = lands_setting v m l ∙ steps s v _ k.1
  closes_setting s m (first {t = t} {m = v} g h w ts k l) = lands_setting v m l ∙ steps t v _ k.1 ∙ ticks_setting _ s t ts
  closes_setting s m (stop g h) = refl

  opens_setting : (n : ℕ) (s m : State B) → Opens b n s m → m.ends.setting ≡ s.ends.setting
  opens_setting n s m o = steps o.known m _ o.strikes.1 ∙ steps o.told o.known _ o.hears.1 ∙ steps o.stored o.told _ o.acknowledges.1 ∙ delivers_setting n s o.stored o.delivers

  rounded_setting : (s m : State B) (r : Result ℕ Refusal) → Rounded b s r m → m.ends.setting ≡ s.ends.setting
  rounded_setting s m (Ok n) d = closes_setting d.1.half m d.1.closes ∙ opens_setting n s d.1.half d.1.opens
  rounded_setting s m (Err r) d = ap (λ (v : State B). v.ends.setting) d.1

  turned_setting : (es : List (Event B)) (s m : State B) (c : Call B) (a : Answer) → Turned b s c a es m → m.ends.setting ≡ s.ends.setting
  turned_setting es s m (Offer x) a d = steps s m _ d.2.1
  turned_setting es s m Seal a d = steps s m _ d.2.1
  turned_setting es s m Send a d = steps s m _ d.2.1
  turned_setting es s m (Resend j) a d = steps s m _ d.2.1
  turned_setting es s m (Arrive place) a d = steps s m _ d.2.1
  turned_setting es s m (Hear place) a d = steps s m _ d.2.1
  turned_setting es s m Deliver a d = steps s m _ d.2.1
  turned_setting es s m Acknowledge a d = steps s m _ d.2.1
  turned_setting es s m (LoseOutward place) a d = steps s m _ d.2.1
  turned_setting es s m (LoseBack place) a d = steps s m _ d.2.1
  turned_setting es s m Tick a d = steps s m _ d.2.1
  turned_setting es s m Round a d = rounded_setting s m d.0 d.2.0

  played_setting : (s m : State B) (ts : List (Turn B)) (es : List (Event B)) → Played b s ts es m → m.ends.setting ≡ s.ends.setting
  played_setting s m ts es T.Played.none = refl
  played_setting s m ts es (T.Played.more {t = t} {ts = us} {es = now} {later = later} {m = v} d p) = played_setting v m us later p ∙ turned_setting now s v t.call t.answer d.turned

  -- the state between two parts
  parts : (s m : State B) (us vs : List (Turn B)) (es : List (Event B)) → Played b s (us ++ vs) es m → OnTheWay b s us vs es m
  parts s m [] vs es p = record { state = s; early = []; late = es; so_far = T.Played.none; from_there = p; joined = sym (append-nil es) }
  parts s m (t ∷ us) vs es (T.Played.more {es = now} {later = later} {m = v} d p) =
      let q = parts v m us vs later p in
      record {
        state = q.state;
        early = q.early ++ now;
        late = q.late;
        so_far = T.Played.more d q.so_far;
        from_there = q.from_there;
        joined = ap (λ l. l ++ now) q.joined ∙ append_assoc q.late q.early now;
      }

  -- turns of ticks, and of rounds
  tick_of : (s m : State B) (c : Call B) (a : Answer) (es : List (Event B)) → c ≡ Tick → Turned b s c a es m → (r : Result (Unit {0}) Refusal) × Step b s (event.tick r) m
  tick_of s m c a es q d = let e = subst (λ k. Turned b s k a es m) q d in (e.0, e.2.1)

  round_of : (s m : State B) (c : Call B) (a : Answer) (es : List (Event B)) → c ≡ Round → Turned b s c a es m → (r : Result ℕ Refusal) × Rounded b s r m
  round_of s m c a es q d = let e = subst (λ k. Turned b s k a es m) q d in (e.0, e.2.0)

  ticks_of : (n : ℕ) (s m : State B) (ts : List (Turn B)) (es : List (Event B)) → Only b Tick n ts → Played b s ts es m → Ticks b n s m
  ticks_of zero s m ts es T.Only.none T.Played.none = R.Ticks.none
  ticks_of (suc n) s m ts es (T.Only.more q o) (T.Played.more {t = t} {ts = us} {es = now} {later = later} {m = v} d p) =
      R.Ticks.more (tick_of s v t.call t.answer now q d.turned).1 (ticks_of n v m us later o p)

  rounds_of : (n : ℕ) (s m : State B) (ts : List (Turn B)) (es : List (Event B)) → Only b Round n ts → Played b s ts es m → Rounds b n s m
  rounds_of zero s m ts es T.Only.none T.Played.none = R.Rounds.none
  rounds_of (suc n) s m ts es (T.Only.more q o) (T.Played.more {t = t} {ts = us} {es = now} {later = later} {m = v} d p) =
      R.Rounds.more (round_of s v t.call t.answer now q d.turned) (rounds_of n v m us later o p)

  pub always : (P : (es : List (Event B)) (s : State B) → History b es s → Type 0) → ((es : List (Event B)) (s : State B) (h : History b es s) → Fresh b s → P es s h)
      → (es : List (Event B)) (s : State B) (h : History b es s) → Fresh b s → AtEveryMoment b P es s h
  always P f es s (made j) free = f es s (made j) free
  always P f es s (then {e = e} {es = past} {s = m} h d) free = (f es s (then h d) free, always P f past m h (ap (λ (z : Setting). z.refused) (sym (steps m s e d)) ∙ free))

  pub turns_promised : Promise b → TurnsPromised b
  turns_promised whole start last ts es j p =
      let h = played_history start last ts es j p in
      let same : (v : State B) (us : List (Turn B)) (vs : List (Event B)) → Played b start us vs v → v.ends.setting.refused ≡ start.ends.setting.refused = λ v us vs q. ap (λ (z : Setting). z.refused) (played_setting start v us vs q) in
      record {
        events = es;
        played = p;
        history = h;
        promised = λ free. always (λ es s h. Promised b h) whole.of_fresh_paths es last h (same last ts es p ∙ free);
        all_refused = λ r q. whole.of_refused_makings es last h r (same last ts es p ∙ q);
        passes = λ before after q. parts start last before after es (subst (λ l. Played b start l es last) q p);
        all_through = λ free before ticks rounds w t r long.
            (let y = parts w.state last ticks rounds w.late w.from_there in
            let hm = played_history start w.state before w.early j w.so_far in
            let x = whole.of_fresh_paths w.early w.state hm (same w.state before w.early w.so_far ∙ free) in
            x.progress.completes long y.state last (ticks_of _ w.state y.state ticks y.early t y.so_far) (rounds_of _ y.state last rounds y.late r y.from_there));
      }
