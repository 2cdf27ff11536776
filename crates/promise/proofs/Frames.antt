-- What the frames that a path puts are read as.
use Rattle.std.proofs.Common.{◌≡◌, ℕ, ◌+◌, ◌*◌, ◌%◌, ◌^◌, ◌<◌, ◌≤◌, Ok, Result, refl, mod-lt, arith}
use Rattle.std.proofs.lemmas.Bool.Decides.{nat_tests}
use Rattle.path.specs.Bars.{admitted}
use Rattle.path.specs.Steps.{entry_frame, acknowledgement, cyclic_in, window_in, number_in, entry_in}
use Rattle.path.specs.declared.entry.Entry.{Entry}
use Rattle.path.specs.declared.entry.Entry.TheVariants.{Block, EndMark}
use Rattle.wire.specs.Ends.{taken_of}
use Rattle.wire.specs.Frames.{head_of, word_of}
use Rattle.wire.specs.Windows.{window_of}
use Rattle.wire.specs.Words.{zeros}
use Rattle.wire.specs.declared.content.Content.{Content}
use Rattle.wire.specs.declared.content.Content.TheVariants as content
use Rattle.wire.specs.declared.content.Head.{Head}
use Rattle.wire.specs.declared.content.Head.TheVariants as head
use Rattle.wire.specs.declared.end.Side.TheVariants.{Sender, Receiver}
use Rattle.refusal.specs.declared.fault.Fault.{Fault}
use Rattle.wire.specs.declared.words.Words.{Words as Pair}

data_head : (k : ℕ) (w : Pair) → k < 65536 → head_of (record { head = word_of (head.Data k); words = w }) ≡ Ok (head.Data k)
data_head k w h = grind (arith, nat_tests)

mark_head : (k : ℕ) → k < 65536 → head_of (record { head = word_of (head.EndMark k); words = zeros }) ≡ Ok (head.EndMark k)
mark_head k h = grind (arith, nat_tests)

-- what an entry under a cyclic number is read as
abbrev pub entry_content : {B : Type 0} → ℕ → Entry B → Content B
entry_content k (Block x) = content.Data k x
entry_content k EndMark = content.EndMark k

module _ {B : Type 0} (written : B → Pair) (reads : Pair → Result B Fault) (N : ℕ) (small : N ≤ 65536) where
  -- the block that an entry has is read back
  abbrev pub Back : Entry B → Type 0
  Back (Block x) = reads (written x) ≡ Ok x
  Back EndMark = Unit {0}

  block_back : (k : ℕ) (x : B) → k < N → reads (written x) ≡ Ok x → taken_of (record { side = Receiver; numbers = N }) reads (record { head = word_of (head.Data k); words = written x }) ≡ Ok (content.Data k x)
  block_back k x h back = let d = data_head k (written x) (omega arith) in grind (arith, nat_tests)

  mark_back : (k : ℕ) → k < N → taken_of (record { side = Receiver; numbers = N }) reads (record { head = word_of (head.EndMark k); words = zeros }) ≡ Ok (content.EndMark k)
  mark_back k h = let d = mark_head k (omega arith) in grind (arith, nat_tests)

  pub entry_back : (j : ℕ) (x : Entry B) → 0 < N → Back x → taken_of (record { side = Receiver; numbers = N }) reads (entry_frame written N j x) ≡ Ok (entry_content (j % N) x)
  entry_back j (Block x) z back = block_back (j % N) x (mod-lt j z) back
  entry_back j EndMark z back = mark_back (j % N) (mod-lt j z)

ack_head : (k w : ℕ) → k < 65536 → w < 16384 → head_of (record { head = 2 * 2 ^ 30 + w * 2 ^ 16 + k; words = zeros }) ≡ Ok (head.Acknowledgement k (window_of (2 * 2 ^ 30 + w * 2 ^ 16 + k)))
ack_head k w h g = grind (arith, nat_tests)

ack_taken : (N k w : ℕ) → N ≤ 65536 → k < N → w < 16384 → admitted (record { side = Sender; numbers = N }) (record { head = 2 * 2 ^ 30 + w * 2 ^ 16 + k; words = zeros }) ≡ Ok (head.Acknowledgement k (window_of (2 * 2 ^ 30 + w * 2 ^ 16 + k)))
ack_taken N k w small h g = let d = ack_head k w (omega arith) g in grind (arith, nat_tests)

window_size : (k w : ℕ) → k < 65536 → w < 16384 → (window_of (2 * 2 ^ 30 + w * 2 ^ 16 + k)).size ≡ w
unfolding window_of
window_size k w h g = omega arith

-- an acknowledgement is read as its cyclic number and its window
pub record Read (N j w : ℕ) : Type 0 where
  pub content : Head
  pub taken : admitted (record { side = Sender; numbers = N }) (acknowledgement N j w) ≡ Ok content
  pub cyclic : cyclic_in content ≡ j % N
  pub window : window_in content ≡ w

pub ack_back : (N j w : ℕ) → N ≤ 65536 → 0 < N → w < 16384 → Read N j w
ack_back N j w small z g =
    let k = mod-lt j z in
    record { content = head.Acknowledgement (j % N) (window_of (2 * 2 ^ 30 + w * 2 ^ 16 + j % N)); taken = ack_taken N (j % N) w small k g; cyclic = refl; window = window_size (j % N) w (omega arith) g }

pub number_of : {B : Type 0} (k : ℕ) (x : Entry B) → number_in (entry_content k x) ≡ k
number_of k (Block x) = refl
number_of k EndMark = refl

pub entry_of : {B : Type 0} (k : ℕ) (x : Entry B) → entry_in (entry_content k x) ≡ x
entry_of k (Block x) = refl
entry_of k EndMark = refl
