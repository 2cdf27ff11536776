-- A script word by word: five terms, then calls.
use Rattle.std.specs.Prelude.{ℕ, zero, suc, ◌+◌, ◌*◌, ◌/◌, ◌^◌, min, Bool, true, false, cond, List, [], ◌∷◌, ◌++◌, length, Some, None, Ok, Err, vec_items, Option, Result, ◌==◌, nat_lt, slice_index}
use Rattle.promise.specs.declared.call.Reply.TheVariants.{Done}
use Rattle.promise.specs.declared.call.Call.{Call}
use Rattle.promise.specs.declared.call.Call.TheVariants.{Offer}
use Rattle.promise.specs.declared.call.Turn.{Turn}
use Rattle.decode.specs.Words.{kind_of, argument_of, meaning_of}
use Rattle.decode.specs.declared.decoder.Decoder.{Decoder}
use Rattle.decode.specs.declared.phase.Phase.{Phase}
use Rattle.decode.specs.declared.phase.Phase.TheVariants.{Terms, Calls, First, Second, Ended, Bad}
use Rattle.decode.specs.declared.word.Due.{Due}
use Rattle.decode.specs.declared.word.Due.TheVariants as due
use Rattle.wire.specs.Commands.{command_of}
use Rattle.wire.specs.declared.command.Command.{Command}
use Rattle.refusal.specs.declared.fault.Fault.{Fault}
use Rattle.wire.specs.declared.words.Words.{Words as Pair}

-- what has been read: how many words, where the reading stands, the terms, the calls, and whether the end was called
pub record Script : Type 0 where
  pub place : ℕ
  pub phase : Phase
  pub terms : List ℕ
  pub turns : List (Turn Command)
  pub ended : Bool

abbrev pub script_of : Decoder → Script
script_of d = record { place = d.place; phase = d.phase; terms = vec_items d.terms; turns = vec_items d.turns; ended = d.ended }

abbrev pub with_phase : Phase → Script → Script
with_phase p s = record { place = s.place; phase = p; terms = s.terms; turns = s.turns; ended = s.ended }

-- one call more, still to be answered
abbrev pub asked : Call Command → Script → Script
asked c s = record { place = s.place; phase = s.phase; terms = s.terms; turns = s.turns ++ record { call = c; answer = Ok Done } ∷ []; ended = s.ended }

-- a term is a word of kind 1
abbrev pub termed : ℕ → Script → Script
termed word s =
    cond (kind_of word == 1)
    (record { place = s.place; phase = cond (length (s.terms ++ argument_of word ∷ []) == 5) Calls s.phase; terms = s.terms ++ argument_of word ∷ []; turns = s.turns; ended = s.ended })
    (with_phase (Bad s.place) s)

abbrev pub due_then : Option Due → Script → Script
due_then (Some (due.Call c)) s = asked c s
due_then (Some due.Offer) s = with_phase (First s.place) s
due_then (Some due.End) s = record { place = s.place; phase = Ended; terms = s.terms; turns = s.turns; ended = true }
due_then None s = with_phase (Bad s.place) s

abbrev pub called : ℕ → Script → Script
called word s = due_then (meaning_of word) s

-- the offer's own place counts where its words are refused
abbrev pub offered : ℕ → Result Command Fault → Script → Script
offered place (Ok c) s = with_phase Calls (asked (Offer c) s)
offered place (Err x) s = with_phase (Bad place) s

abbrev pub commanded : ℕ → Pair → Script → Script
commanded place words s = offered place (command_of words) s

abbrev pub by_phase : Phase → ℕ → Script → Script
by_phase Terms word s = termed word s
by_phase Calls word s = called word s
by_phase (First place) word s = with_phase (Second place word) s
by_phase (Second place first) word s = commanded place (record { first = first; second = word }) s
by_phase Ended word s = with_phase (Bad s.place) s
by_phase (Bad place) word s = s

abbrev pub counted : Script → Script
counted s = record { place = s.place + 1; phase = s.phase; terms = s.terms; turns = s.turns; ended = s.ended }

abbrev pub stepped : Script → ℕ → Script
stepped s word = counted (by_phase s.phase word s)

-- four bytes as a word, most significant first
abbrev pub word_at : List ℕ → ℕ → ℕ
word_at bs i = slice_index bs i * 2 ^ 24 + slice_index bs (i + 1) * 2 ^ 16 + slice_index bs (i + 2) * 2 ^ 8 + slice_index bs (i + 3)

abbrev pub unread : Script
unread = record { place = 0; phase = Terms; terms = []; turns = []; ended = false }

-- the first so many words, one after the other
abbrev pub read_to : List ℕ → ℕ → Script
read_to bytes zero = unread
read_to bytes (suc n) = stepped (read_to bytes n) (word_at bytes (4 * n))

-- where the reading stands when no word is left: an offer's words may be missing, and bytes may be left over
abbrev pub last_phase : Bool → ℕ → Phase → Phase
last_phase more place Terms = cond more (Bad place) Terms
last_phase more place Calls = cond more (Bad place) Calls
last_phase more place (First offer) = Bad offer
last_phase more place (Second offer first) = Bad offer
last_phase more place Ended = cond more (Bad place) Ended
last_phase more place (Bad bad) = Bad bad

abbrev pub finished : Bool → Script → Script
finished more s = with_phase (last_phase more s.place s.phase) s

-- at most 16384 words are read
abbrev pub whole_words : List ℕ → ℕ
whole_words bytes = min (length bytes / 4) 16384

abbrev pub decoded_of : List ℕ → Script
decoded_of bytes = finished (nat_lt (4 * whole_words bytes) (length bytes)) (read_to bytes (whole_words bytes))
