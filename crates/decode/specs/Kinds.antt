-- The kinds of a script's words.
use Rattle.std.specs.Prelude.{◌≡◌, ℕ, ◌<◌, ◌⊎◌, Result, MatchResult}
use Rattle.promise.specs.declared.call.Call.{Call as Made}
use Rattle.promise.specs.declared.call.Call.TheVariants as made
use Rattle.decode.specs.declared.kind.BadWord.{BadWord}
use Rattle.decode.specs.declared.kind.Kind.{Kind}
use Rattle.decode.specs.declared.kind.Kind.TheVariants.{Term, Offer, Seal, Send, Resend, Arrive, Hear, Deliver, Acknowledge, LoseOutward, LoseBack, Tick, Round, End}

abbrev pub kind_number : Kind → ℕ
kind_number Term = 1
kind_number Offer = 2
kind_number Seal = 3
kind_number Send = 4
kind_number Resend = 5
kind_number Arrive = 6
kind_number Hear = 7
kind_number Deliver = 8
kind_number Acknowledge = 9
kind_number LoseOutward = 10
kind_number LoseBack = 11
kind_number Tick = 12
kind_number Round = 13
kind_number End = 14

-- the kind of this number, or an error for a number that no kind has
abbrev pub IsKindOf : ℕ → Result Kind BadWord → Type 0
IsKindOf n r = MatchResult r (λ kind. kind_number kind ≡ n) (λ e. (n < 1) ⊎ (14 < n))

abbrev pub kind_of_call : {B : Type 0} → Made B → Kind
kind_of_call (made.Offer b) = Offer
kind_of_call made.Seal = Seal
kind_of_call made.Send = Send
kind_of_call (made.Resend j) = Resend
kind_of_call (made.Arrive place) = Arrive
kind_of_call (made.Hear place) = Hear
kind_of_call made.Deliver = Deliver
kind_of_call made.Acknowledge = Acknowledge
kind_of_call (made.LoseOutward place) = LoseOutward
kind_of_call (made.LoseBack place) = LoseBack
kind_of_call made.Tick = Tick
kind_of_call made.Round = Round
