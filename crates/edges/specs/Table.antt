-- The readings at the edges of the rules.
use Rattle.std.specs.Prelude.{◌≡◌, ℕ, ◌%◌}
use Rattle.path.specs.Edges.{Readings}
use Rattle.wire.specs.Commands.{words_of}
use Rattle.wire.specs.Frames.{frame_of}
use Rattle.terms.specs.Rules.{Fit, TermsRefused}
use Rattle.terms.specs.Rules.{Enough, RoundedUp}
use Rattle.wire.specs.declared.command.Command.{Command}
use Rattle.wire.specs.declared.command.Command.TheVariants.{Stop}
use Rattle.wire.specs.declared.content.Content.{Content}
use Rattle.wire.specs.declared.content.Content.TheVariants.{Data, Acknowledgement, EndMark}
use Rattle.refusal.specs.declared.refusals.Refusal.TheVariants.{TooFewNumbers}
use Rattle.wire.specs.declared.window.Window.{Window}

abbrev pub Accepted : ℕ → ℕ → ℕ → ℕ → ℕ → Type 0
Accepted sw rv life gap n = Fit sw rv life gap n × Enough sw rv life gap n

abbrev pub TooFew : ℕ → ℕ → ℕ → ℕ → ℕ → Type 0
TooFew sw rv life gap n = TermsRefused sw rv life gap n TooFewNumbers

-- the three words of a frame
abbrev pub Words3 : Content Command → ℕ → ℕ → ℕ → Type 0
Words3 c head first second = frame_of words_of c ≡ record { head = head; words = record { first = first; second = second } }

pub record Table : Type 0 where
  -- SW 2, RW 2, L 3, δ 2
  pub six_suffice : Accepted 2 2 3 2 6
  pub five_do_not : TooFew 2 2 3 2 5
  -- all four 1
  pub three_suffice : Accepted 1 1 1 1 3
  pub two_do_not : TooFew 1 1 1 1 2
  -- the largest windows and the longest life
  pub most_do_not : TooFew 4096 4096 65535 1 65536
  -- δ 4: K is 1 at L 4, and 2 at L 5
  pub even : RoundedUp 4 4 1
  pub over : RoundedUp 5 4 2
  -- N 6: a receiver at nr 7 with room for two, and a sender at na 5 that has sent up to 7
  pub cyclic_numbers : Readings
  -- N 6: data 7 with Stop, acknowledgement 7 with window 2, end mark 8
  pub stop_seven : Words3 (Data (7 % 6) Stop) 0x40000001 0x40000000 0
  pub heard_seven : (w : Window) → w.size ≡ 2 → Words3 (Acknowledgement (7 % 6) w) 0x80020001 0 0
  pub end_eight : Words3 (EndMark (8 % 6)) 0xC0000002 0 0
