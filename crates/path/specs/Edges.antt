-- How cyclic numbers are read near the edges of a window, where there are six of them.
use Rattle.std.specs.Prelude.{◌≡◌, ℕ, List, Some, None, Ok, Option, Result}
use Rattle.path.specs.Bars.{admitted, near_end, far_end, frame_at}
use Rattle.path.specs.States.{Ends}
use Rattle.path.specs.Steps.{Arrived, Heard, room_left, number_in, cyclic_in}
use Rattle.path.specs.declared.entry.Entry.{Entry}
use Rattle.wire.specs.Ends.{taken_of}
use Rattle.wire.specs.declared.content.Content.{Content}
use Rattle.wire.specs.declared.content.Head.{Head}
use Rattle.refusal.specs.declared.fault.Fault.{Fault}
use Rattle.wire.specs.declared.words.Words.{Words as Pair}

-- what a receiver at nr 7 with room for two answers to a cyclic number
abbrev pub Reads : ℕ → Option ℕ → Type 0
Reads cyclic answer =
    (reads : Pair → Result Pair Fault) (place : ℕ) (e e' : Ends) (got got' : List (Option (Entry Pair))) (c : Content Pair) (a : Option ℕ)
    → e.setting.terms.numbers ≡ 6 → e.receiver.nr ≡ 7 → room_left e ≡ 2 → taken_of (far_end e) reads (frame_at e.out place) ≡ Ok c → number_in c ≡ cyclic
    → Arrived reads place e got (Ok a) e' got' → a ≡ answer

-- what a sender at na 5 that has sent up to 7 answers to a cyclic number
abbrev pub Rises : ℕ → ℕ → Type 0
Rises cyclic answer =
    (place : ℕ) (e e' : Ends) (h : Head) (n : ℕ) → e.setting.terms.numbers ≡ 6 → e.sender.na ≡ 5 → e.sender.ns ≡ 7
    → admitted (near_end e) (frame_at e.back place) ≡ Ok h → cyclic_in h ≡ cyclic → Heard place e (Ok n) e' → n ≡ answer

pub record Readings : Type 0 where
  pub read_1 : Reads 1 (Some 7)
  pub read_2 : Reads 2 (Some 8)
  pub read_3 : Reads 3 None
  pub read_0 : Reads 0 None
  pub heard_1 : Rises 1 2
  pub heard_5 : Rises 5 0
  pub heard_4 : Rises 4 0
