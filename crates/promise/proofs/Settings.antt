-- No call changes what was fixed by the making.
use Rattle.std.proofs.Common.{◌≡◌, Some, None, Ok, Err, ap}
use Rattle.path.specs.Events.{Event, Step, offer, seal, send, resend, arrive, hear, deliver, acknowledge, lose_out, lose_back, tick}
use Rattle.path.specs.States.{Ends, State}
use Rattle.wire.specs.declared.block.Block.{Ghosts}

its : (e e' : Ends) → e' ≡ e → e'.setting ≡ e.setting
its e e' q = ap (λ (v : Ends). v.setting) q

module _ {B : Type 0} (b : Ghosts B) (s s' : State B) where
  pub setting_kept : (e : Event B) → Step b s e s' → s'.ends.setting ≡ s.ends.setting
  setting_kept (offer x (Ok n)) d = let h = d.does in its _ s'.ends h.1.2
  setting_kept (offer x (Err r)) d = let h = d.does in its s.ends s'.ends h.1.1
  setting_kept (seal (Ok n)) d = let h = d.does in its _ s'.ends h.0.2
  setting_kept (seal (Err r)) d = let h = d.does in its s.ends s'.ends h.0.1
  setting_kept (send (Ok n)) d = let h = d.does in its _ s'.ends h.0.3
  setting_kept (send (Err r)) d = let h = d.does in its s.ends s'.ends h.0.1
  setting_kept (resend j (Ok n)) d = let h = d.does in its _ s'.ends h.0.3
  setting_kept (resend j (Err r)) d = let h = d.does in its s.ends s'.ends h.0.1
  setting_kept (arrive place (Ok (Some m))) d = let h = d.does in its _ s'.ends h.0.1.2.4
  setting_kept (arrive place (Ok None)) d = let h = d.does in its s.ends s'.ends h.0.1.2.1
  setting_kept (arrive place (Err r)) d = let h = d.does in its s.ends s'.ends h.0.1
  setting_kept (hear place (Ok n)) d = let h = d.does in its _ s'.ends h.0.1.3
  setting_kept (hear place (Err r)) d = let h = d.does in its s.ends s'.ends h.0.1
  setting_kept (deliver (Ok n)) d = let h = d.does in its _ s'.ends h.0.2
  setting_kept (deliver (Err r)) d = let h = d.does in its s.ends s'.ends h.0.1
  setting_kept (acknowledge (Ok n)) d = let h = d.does in its _ s'.ends h.0.3
  setting_kept (acknowledge (Err r)) d = let h = d.does in its s.ends s'.ends h.0.1
  setting_kept (lose_out place (Ok n)) d = let h = d.does in its _ s'.ends h.0.1
  setting_kept (lose_out place (Err r)) d = let h = d.does in its s.ends s'.ends h.0.1
  setting_kept (lose_back place (Ok n)) d = let h = d.does in its _ s'.ends h.0.1
  setting_kept (lose_back place (Err r)) d = let h = d.does in its s.ends s'.ends h.0.1
  setting_kept (tick (Ok n)) d = let h = d.does in its _ s'.ends h.0.1
  setting_kept (tick (Err r)) d = let h = d.does in its s.ends s'.ends h.0.1
