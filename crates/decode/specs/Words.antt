-- What one word of a script means where a call is due.
use Rattle.std.specs.Prelude.{ℕ, ◌/◌, ◌%◌, ◌^◌, cond, Some, None, Option, ◌==◌}
use Rattle.promise.specs.declared.call.Call.TheVariants.{Seal, Send, Resend, Arrive, Hear, Deliver, Acknowledge, LoseOutward, LoseBack, Tick, Round}
use Rattle.decode.specs.declared.word.Due.{Due}
use Rattle.decode.specs.declared.word.Due.TheVariants.{Call, Offer, End}

-- bits 31 to 28 are the kind, the rest is the argument
abbrev pub kind_of : ℕ → ℕ
kind_of word = word / 2 ^ 28

abbrev pub argument_of : ℕ → ℕ
argument_of word = word % 2 ^ 28

-- a kind that takes no argument
abbrev pub bare : ℕ → Due → Option Due
bare argument due = cond (argument == 0) (Some due) None

-- nothing for a kind unknown or out of order, and for an argument where there is none
abbrev pub by_kind : ℕ → ℕ → Option Due
by_kind kind x =
    cond (kind == 2) (bare x Offer)
    (cond (kind == 3) (bare x (Call Seal))
    (cond (kind == 4) (bare x (Call Send))
    (cond (kind == 5) (Some (Call (Resend x)))
    (cond (kind == 6) (Some (Call (Arrive x)))
    (cond (kind == 7) (Some (Call (Hear x)))
    (cond (kind == 8) (bare x (Call Deliver))
    (cond (kind == 9) (bare x (Call Acknowledge))
    (cond (kind == 10) (Some (Call (LoseOutward x)))
    (cond (kind == 11) (Some (Call (LoseBack x)))
    (cond (kind == 12) (bare x (Call Tick))
    (cond (kind == 13) (bare x (Call Round))
    (cond (kind == 14) (bare x End) None))))))))))))

abbrev pub meaning_of : ℕ → Option Due
meaning_of word = by_kind (kind_of word) (argument_of word)
