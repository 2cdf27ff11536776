-- A line of text as a frame.
use Rattle.std.specs.Prelude.{ℕ, ◌+◌, ◌-◌, ◌*◌, Bool, false, cond, ◌&&◌, ◌||◌, List, [], ◌∷◌, length, take, drop, Some, None, Option, ◌==◌, nat_le, nat_lt}
use Rattle.wire.specs.declared.frame.Frame.{Frame}

-- a space, a tab or a carriage return
abbrev pub blank : ℕ → Bool
blank b = b == 32 || (b == 9 || b == 13)

-- 0 to 9, A to F and a to f
abbrev pub digit_of : ℕ → Option ℕ
digit_of b =
    cond (nat_le 48 b && nat_le b 57) (Some (b - 48)) (cond (nat_le 65 b && nat_le b 70) (Some (b - 65 + 10)) (cond (nat_le 97 b && nat_le b 102) (Some (b - 97 + 10)) None))

-- what is left after the blanks in front
abbrev pub skipped : List ℕ → List ℕ
skipped [] = []
skipped (b ∷ bs) = cond (blank b) (skipped bs) (b ∷ bs)

abbrev pub on_digit : Option ℕ → ℕ → (ℕ → Option ℕ) → Option ℕ
on_digit None word more = None
on_digit (Some d) word more = more (word * 16 + d)

-- digits after a number, each the next of base sixteen
abbrev pub digits_on : List ℕ → ℕ → Option ℕ
digits_on [] word = Some word
digits_on (b ∷ bs) word = on_digit (digit_of b) word (digits_on bs)

-- eight digits in front, as a word
abbrev pub word_in : List ℕ → Option ℕ
word_in bs = cond (nat_lt (length bs) 8) None (digits_on (take 8 bs) 0)

-- a word ends at a blank
abbrev pub gapped : List ℕ → Bool
gapped [] = false
gapped (b ∷ bs) = blank b

abbrev pub with_word : Option ℕ → (ℕ → Option Frame) → Option Frame
with_word None more = None
with_word (Some w) more = more w

-- what is left after a word and the blanks before it
abbrev pub after_word : List ℕ → List ℕ
after_word bs = drop 8 (skipped bs)

-- three words, a blank or more between them, and nothing after them but blanks
abbrev pub third_on : ℕ → ℕ → List ℕ → Option Frame
third_on head first bs =
    with_word (word_in (skipped bs)) (λ second. cond (length (skipped (after_word bs)) == 0) (Some record { head = head; words = record { first = first; second = second } }) None)

abbrev pub second_on : ℕ → List ℕ → Option Frame
second_on head bs = with_word (word_in (skipped bs)) (λ first. cond (gapped (after_word bs)) (third_on head first (after_word bs)) None)

abbrev pub frame_on : List ℕ → Option Frame
frame_on bs = with_word (word_in (skipped bs)) (λ head. cond (gapped (after_word bs)) (second_on head (after_word bs)) None)
