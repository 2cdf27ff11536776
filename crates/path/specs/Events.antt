-- Histories: what each call did, the latest first, from the making of a path on.
use Rattle.std.specs.Prelude.{◌≡◌, ℕ, List, [], ◌∷◌, length, replicate, None, Option, Result}
use Rattle.path.specs.Bars.{make_bar}
use Rattle.path.specs.States.{State, new_ends}
use Rattle.path.specs.Steps.{Offered, Sealed, Sent, Resent, Arrived, Heard, Delivered, Acknowledged, LostOut, LostBack, Ticked}
use Rattle.wire.specs.declared.block.Block.{Ghosts}
use Rattle.refusal.specs.declared.refusals.Refusal.{Refusal}

-- a call with its answer
pub data Event (B : Type 0) : Type 0 where
  offer : B → Result ℕ Refusal → Event B
  seal : Result ℕ Refusal → Event B
  send : Result ℕ Refusal → Event B
  resend : ℕ → Result ℕ Refusal → Event B
  arrive : ℕ → Result (Option ℕ) Refusal → Event B
  hear : ℕ → Result ℕ Refusal → Event B
  deliver : Result ℕ Refusal → Event B
  acknowledge : Result ℕ Refusal → Event B
  lose_out : ℕ → Result (Unit {0}) Refusal → Event B
  lose_back : ℕ → Result (Unit {0}) Refusal → Event B
  tick : Result (Unit {0}) Refusal → Event B

module _ {B : Type 0} (b : Ghosts B) where
  -- a call leads from state to state by its own rule, and touches nothing else; an offered block is one that its type holds
  abbrev pub Does : State B → Event B → State B → Type 0
  Does s (offer x r) s' = b.fits x × Offered x s.ends s.kept r s'.ends s'.kept × (s'.got ≡ s.got) × (s'.book ≡ s.book)
  Does s (seal r) s' = Sealed s.ends s.kept r s'.ends s'.kept × (s'.got ≡ s.got) × (s'.book ≡ s.book)
  Does s (send r) s' = Sent b.written s.ends s.kept r s'.ends × (s'.kept ≡ s.kept) × (s'.got ≡ s.got) × (s'.book ≡ s.book)
  Does s (resend j r) s' = Resent b.written j s.ends s.kept r s'.ends × (s'.kept ≡ s.kept) × (s'.got ≡ s.got) × (s'.book ≡ s.book)
  Does s (arrive place r) s' = Arrived b.reads place s.ends s.got r s'.ends s'.got × (s'.kept ≡ s.kept) × (s'.book ≡ s.book)
  Does s (hear place r) s' = Heard place s.ends r s'.ends × (s'.kept ≡ s.kept) × (s'.got ≡ s.got) × (s'.book ≡ s.book)
  Does s (deliver r) s' = Delivered s.ends s.got s.book r s'.ends s'.got s'.book × (s'.kept ≡ s.kept)
  Does s (acknowledge r) s' = Acknowledged s.ends r s'.ends × (s'.kept ≡ s.kept) × (s'.got ≡ s.got) × (s'.book ≡ s.book)
  Does s (lose_out place r) s' = LostOut place s.ends r s'.ends × (s'.kept ≡ s.kept) × (s'.got ≡ s.got) × (s'.book ≡ s.book)
  Does s (lose_back place r) s' = LostBack place s.ends r s'.ends × (s'.kept ≡ s.kept) × (s'.got ≡ s.got) × (s'.book ≡ s.book)
  Does s (tick r) s' = Ticked s.ends r s'.ends × (s'.kept ≡ s.kept) × (s'.got ≡ s.got) × (s'.book ≡ s.book)

  pub record Step (s : State B) (e : Event B) (s' : State B) : Type 0 where
    pub does : Does s e s'

  -- a path just made, over carriers and a receiver's store that allow it or not; the sender's store and the book hold anything
  pub record JustMade (s : State B) : Type 0 where
    pub barred : s.ends.setting.refused ≡ make_bar s.ends.setting.terms s.ends.setting.out_life s.ends.setting.out_room s.ends.setting.back_life s.ends.setting.back_room s.ends.out s.ends.back (length s.got)
    pub new : s.ends ≡ new_ends s.ends.setting s.ends.out s.ends.back
    pub emptied : s.ends.setting.refused ≡ None → s.got ≡ replicate (length s.got) None

  -- the calls made on a path, the latest first, and the state that they lead to
  pub data History : List (Event B) → State B → Type 0 where
    made : {s : State B} → JustMade s → History [] s
    then : {e : Event B} {es : List (Event B)} {s s' : State B} → History es s → Step s e s' → History (e ∷ es) s'

  -- fresh is a path whose making was accepted
  abbrev pub Fresh : State B → Type 0
  Fresh s = s.ends.setting.refused ≡ None
