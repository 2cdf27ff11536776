-- A frame is read under the number that it was put with, and is never malformed.
use Rattle.std.proofs.Common.{◌≡◌, ℕ, ◌+◌, ◌-◌, ◌%◌, ◌<◌, ◌≤◌, List, length, get_or, Ok, Result, sym, ap, ◌∙◌, subst, arith}
use Rattle.std.proofs.ByRecursion.{All-get_or}
use Rattle.carrier.specs.Carriers.{no_frame}
use Rattle.path.specs.Events.{Event}
use Rattle.promise.specs.Vocabulary.{Accepted}
use Rattle.promise.proofs.Cyclic.{read_as}
use Rattle.promise.proofs.Frames.{entry_content, Back, entry_back, Read, ack_back, number_of, entry_of}
use Rattle.promise.proofs.Invariant.{Traced, Inv}
use Rattle.promise.proofs.Timing.{legal, recent}
use Rattle.path.specs.Bars.{frame_at, far_end, near_end, admitted}
use Rattle.path.specs.States.{State}
use Rattle.ends.specs.Numbers.{ahead}
use Rattle.path.specs.Steps.{room_left, number_in, entry_in, cyclic_in}
use Rattle.path.specs.declared.entry.Entry.{Entry}
use Rattle.path.specs.declared.entry.Entry.TheVariants.{Block, EndMark}
use Rattle.wire.specs.Ends.{taken_of}
use Rattle.wire.specs.declared.block.Block.{Ghosts}
use Rattle.wire.specs.declared.content.Content.{Content}
use Rattle.wire.specs.declared.content.Head.{Head}
use Rattle.wire.specs.declared.frame.Frame.{Frame}

pub same_ok : {R X : Type 0} (x : Result R X) (r r' : R) → x ≡ Ok r → x ≡ Ok r' → r ≡ r'
same_ok x r r' p q = cc

module _ {B : Type 0} (b : Ghosts B) (back : (x : B) → b.fits x → b.reads (b.written x) ≡ Ok x)
    (P Q : Frame → ℕ → ℕ → Type 0) (es : List (Event B)) (s : State B) (i : Inv b P Q es s) where
  pub its_back : (m : ℕ) (x : Entry B) → Accepted es m x → Back b.written b.reads s.ends.setting.terms.numbers (legal s.ends.setting.terms).n_small x
  its_back m (Block x) a = back x (i.acc.fits m x a)
  its_back m EndMark a = tt

  pub some_numbers : 0 < s.ends.setting.terms.numbers
  some_numbers = let l = legal s.ends.setting.terms in omega (arith, l.enough, l.sw_some)

  -- what a data frame or an end mark says of the number it was put with
  module _ (f : Frame) (age m : ℕ) (p : P f age m) (young : age < s.ends.setting.terms.lifetime) where
    pub data_content : taken_of (far_end s.ends) b.reads f ≡ Ok (entry_content (m % s.ends.setting.terms.numbers) (i.data_puts f age m p).entry)
    data_content =
        let d = i.data_puts f age m p in
        let l = legal s.ends.setting.terms in
        ap (λ g. taken_of (far_end s.ends) b.reads g) d.words
        ∙ entry_back b.written b.reads s.ends.setting.terms.numbers l.n_small m d.entry some_numbers (its_back m d.entry d.is)

    module _ (c : Content B) (taken : taken_of (far_end s.ends) b.reads f ≡ Ok c) where
      content_is : c ≡ entry_content (m % s.ends.setting.terms.numbers) (i.data_puts f age m p).entry
      content_is = same_ok _ c _ taken data_content

      pub entry_is : Accepted es m (entry_in c)
      entry_is =
          let d = i.data_puts f age m p in
          subst (λ x. Accepted es m x) (sym (ap (λ (x : Content B). entry_in x) content_is ∙ entry_of _ d.entry)) d.is

      pub read_under : ahead s.ends.setting.terms.numbers (number_in c) s.ends.receiver.nr < room_left s.ends → m ≡ s.ends.receiver.nr + ahead s.ends.setting.terms.numbers (number_in c) s.ends.receiver.nr
      read_under h =
          let d = i.data_puts f age m p in
          let l = legal s.ends.setting.terms in
          let u = i.nums in
          let k = recent _ _ _ _ _ d.timed l.K s.ends.setting.terms.lifetime l.covered young in
          let below = d.below in
          let en = l.enough in
          read_as s.ends.setting.terms.numbers m s.ends.receiver.nr (number_in c) some_numbers (ap (λ (x : Content B). number_in x) content_is ∙ number_of _ d.entry) (omega arith) (omega arith)

  module _ (place : ℕ) (inside : place < length s.ends.out) where
    pub out_traced : Traced P s.ends.setting.terms.lifetime (get_or s.ends.out place no_frame)
    out_traced = All-get_or (Traced P s.ends.setting.terms.lifetime) s.ends.out place no_frame inside i.outward

    pub out_fine : (c : Content B) × (taken_of (far_end s.ends) b.reads (frame_at s.ends.out place) ≡ Ok c)
    out_fine = let t = out_traced in (_, data_content (frame_at s.ends.out place) (get_or s.ends.out place no_frame).1 t.num t.put t.young)

  -- the same for an acknowledgement
  module _ (f : Frame) (age m : ℕ) (p : Q f age m) (young : age < s.ends.setting.terms.lifetime) where
    pub ack_content : Read s.ends.setting.terms.numbers m (i.ack_puts f age m p).window
    ack_content = let d = i.ack_puts f age m p in ack_back s.ends.setting.terms.numbers m d.window (legal s.ends.setting.terms).n_small some_numbers d.narrow

    pub ack_taken : admitted (near_end s.ends) f ≡ Ok ack_content.content
    ack_taken = ap (λ g. admitted (near_end s.ends) g) (i.ack_puts f age m p).words ∙ ack_content.taken

    module _ (w : Head) (taken : admitted (near_end s.ends) f ≡ Ok w) where
      pub head_is : cyclic_in w ≡ m % s.ends.setting.terms.numbers
      head_is = ap (λ (h : Head). cyclic_in h) (same_ok _ w _ taken ack_taken) ∙ ack_content.cyclic

      pub heard_under : ahead s.ends.setting.terms.numbers (cyclic_in w) s.ends.sender.na ≤ s.ends.sender.ns - s.ends.sender.na → m ≡ s.ends.sender.na + ahead s.ends.setting.terms.numbers (cyclic_in w) s.ends.sender.na
      heard_under h =
          let d = i.ack_puts f age m p in
          let l = legal s.ends.setting.terms in
          let u = i.nums in
          let k = recent _ _ _ _ _ d.timed l.K s.ends.setting.terms.lifetime l.covered young in
          let below = d.below in
          let en = l.enough in
          let some = l.rw_some in
          read_as s.ends.setting.terms.numbers m s.ends.sender.na (cyclic_in w) some_numbers head_is (omega arith) (omega arith)

  module _ (place : ℕ) (inside : place < length s.ends.back) where
    pub back_traced : Traced Q s.ends.setting.terms.lifetime (get_or s.ends.back place no_frame)
    back_traced = All-get_or (Traced Q s.ends.setting.terms.lifetime) s.ends.back place no_frame inside i.backward

    pub back_fine : (w : Head) × (admitted (near_end s.ends) (frame_at s.ends.back place) ≡ Ok w)
    back_fine = let t = back_traced in (_, ack_taken (frame_at s.ends.back place) (get_or s.ends.back place no_frame).1 t.num t.put t.young)

    -- what a hear rises to is in sequence at the receiver
    pub heeded_low : (w : Head) → admitted (near_end s.ends) (frame_at s.ends.back place) ≡ Ok w → ahead s.ends.setting.terms.numbers (cyclic_in w) s.ends.sender.na ≤ s.ends.sender.ns - s.ends.sender.na
        → s.ends.sender.na + ahead s.ends.setting.terms.numbers (cyclic_in w) s.ends.sender.na ≤ s.ends.receiver.nr
    heeded_low w taken h =
        let t = back_traced in
        let f = frame_at s.ends.back place in
        let age = (get_or s.ends.back place no_frame).1 in
        let q = heard_under f age t.num t.put t.young w taken h in
        omega (arith, (i.ack_puts f age t.num t.put).below)
