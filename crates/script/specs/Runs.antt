-- What a script's calls are run on, and what they come to.
use Rattle.std.specs.Prelude.{◌≡◌, ℕ, Bool, true, false, List, [], ◌∷◌, ◌++◌, length, replicate, Some, None, Ok, Err, Option, Result, slice_index}
use Rattle.promise.specs.Turns.{Replayed, calls_of}
use Rattle.promise.specs.declared.call.Turn.{Turn}
use Rattle.path.specs.States.{State, state_with, new_ends}
use Rattle.path.specs.Steps.{outcome_of}
use Rattle.path.specs.declared.entry.Entry.{Entry}
use Rattle.ends.specs.declared.outcome.Outcome.{Outcome}
use Rattle.ends.specs.declared.outcome.Outcome.TheVariants.{Complete, Unsure}
use Rattle.decode.specs.Decoding.{Script}
use Rattle.lines.specs.Lines.{lines_from}
use Rattle.lines.specs.declared.line.Line.{Line}
use Rattle.lines.specs.declared.line.Line.TheVariants as line
use Rattle.decode.specs.declared.phase.Phase.{Phase}
use Rattle.decode.specs.declared.phase.Phase.TheVariants.{Terms as InTerms, Calls, First, Second, Ended, Bad}
use Rattle.wire.specs.Commands.{Fits, words_of, command_of}
use Rattle.wire.specs.declared.block.Block.{Ghosts}
use Rattle.wire.specs.declared.command.Command.{Command}
use Rattle.terms.specs.Rules.{TermsRefused}
use Rattle.refusal.specs.declared.refusals.Refusal.{Refusal}
use Rattle.terms.specs.declared.agreed.Terms.{Terms}

-- scripts carry commands
abbrev pub commands : Ghosts Command
commands = record { fits = Fits; written = words_of; reads = command_of }

-- a path just made over two empty carriers of lifetime L and capacity 8
abbrev pub started : Terms → List (Entry Command) → List Command → State Command
started t kept book =
    state_with (new_ends (record { terms = t; refused = None; out_life = t.lifetime; out_room = 8; back_life = t.lifetime; back_room = 8 }) [] []) kept (replicate t.receive_window None) book

-- the calls with their answers, made one after the other on such a path with a book of 64
pub record Ran (t : Terms) (asked turns : List (Turn Command)) (outcome : Outcome) : Type 0 where
  pub kept : List (Entry Command)
  pub book : List Command
  pub last : State Command
  pub kept_long : length kept ≡ t.send_window
  pub book_long : length book ≡ 64
  pub same_calls : calls_of turns ≡ calls_of asked
  -- with the whole promise
  pub replayed : Replayed commands (started t kept book) turns last
  pub outcome_told : outcome ≡ outcome_of last.ends

-- what five numbers come to: terms, or the refusal of their making
abbrev pub TermsMade : ℕ → ℕ → ℕ → ℕ → ℕ → Result Terms Refusal → Type 0
TermsMade sw rv life gap n (Ok t) = (t.send_window ≡ sw) × (t.receive_window ≡ rv) × (t.lifetime ≡ life) × (t.gap ≡ gap) × (t.numbers ≡ n)
TermsMade sw rv life gap n (Err r) = TermsRefused sw rv life gap n r

-- the terms that a script gives, if it gives all five
abbrev pub Given : List ℕ → Option (Result Terms Refusal) → Type 0
Given l None = length l ≡ 5 → ⊥
Given l (Some r) = (length l ≡ 5) × TermsMade (slice_index l 0) (slice_index l 1) (slice_index l 2) (slice_index l 3) (slice_index l 4) r

-- the line of a bad word, if there is one
abbrev pub bad_lines : Phase → List Line
bad_lines InTerms = []
bad_lines Calls = []
bad_lines (First offer) = []
bad_lines (Second offer first) = []
bad_lines Ended = []
bad_lines (Bad place) = line.Bad place ∷ []

abbrev pub outcome_line : ℕ → Outcome → Line
outcome_line position Complete = line.Complete position
outcome_line position (Unsure heard sent accepted) = line.Unsure position

-- the line of the end, if it was called
abbrev pub end_lines : Bool → ℕ → Outcome → List Line
end_lines false position outcome = []
end_lines true position outcome = outcome_line position outcome ∷ []

-- the calls' lines, as many as there are calls, and then that of the end
pub record CallLines (t : Terms) (asked : List (Turn Command)) (ended : Bool) (lines : List Line) : Type 0 where
  pub turns : List (Turn Command)
  pub outcome : Outcome
  pub ran : Ran t asked turns outcome
  pub shown : lines ≡ lines_from 0 turns ++ end_lines ended (length turns) outcome

abbrev pub refused_line : Refusal → Line
refused_line r = line.Terms r

-- what a script prints: nothing of the calls without terms, only their refusal where they are refused, and else the calls' lines and then a bad word's
abbrev pub PrintedBy : Option (Result Terms Refusal) → Script → List Line → Type 0
PrintedBy None s lines = lines ≡ bad_lines s.phase
PrintedBy (Some (Err r)) s lines = lines ≡ refused_line r ∷ []
PrintedBy (Some (Ok t)) s lines = (calls : List Line) × CallLines t s.turns s.ended calls × (lines ≡ calls ++ bad_lines s.phase)

pub record Printed (s : Script) (lines : List Line) : Type 0 where
  pub made : Option (Result Terms Refusal)
  pub given : Given s.terms made
  pub printed : PrintedBy made s lines
