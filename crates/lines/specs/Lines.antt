-- The lines that a script prints.
use Rattle.std.specs.Prelude.{ℕ, ◌+◌, List, [], ◌∷◌, ◌++◌, Ok, Err, codes, decimal}
use Rattle.decode.specs.Kinds.{kind_number, kind_of_call}
use Rattle.decode.specs.declared.kind.Kind.TheVariants.{End}
use Rattle.promise.specs.Turns.{Answer}
use Rattle.promise.specs.declared.call.Reply.TheVariants.{Number, Ignored, Done}
use Rattle.promise.specs.declared.call.Turn.{Turn}
use Rattle.lines.specs.declared.line.Line.{Line}
use Rattle.lines.specs.declared.line.Line.TheVariants.{Call, Complete, Unsure, Terms, Bad}
use Rattle.refusal.specs.Refusals.{refusal_number}

abbrev pub line_of : {B : Type 0} → ℕ → Turn B → Line
line_of position t = Call position (kind_of_call t.call) t.answer

-- a line for each call, counted from a position on
abbrev pub lines_from : {B : Type 0} → ℕ → List (Turn B) → List Line
lines_from position [] = []
lines_from position (t ∷ ts) = line_of position t ∷ lines_from (position + 1) ts

-- an answer in a line: the refusal's number or 0, and then the number that is told or a dash
abbrev pub answer_text : Answer → List ℕ
answer_text (Ok (Number n)) = codes "0 " ++ decimal n
answer_text (Ok Ignored) = codes "0 -"
answer_text (Ok Done) = codes "0 -"
answer_text (Err r) = decimal (refusal_number r) ++ codes " -"

abbrev pub end_text : ℕ → List ℕ → List ℕ
end_text position outcome = decimal position ++ (codes " " ++ (decimal (kind_number End) ++ (codes " 0 " ++ outcome)))

abbrev pub line_text : Line → List ℕ
line_text (Call position kind answer) = decimal position ++ (codes " " ++ (decimal (kind_number kind) ++ (codes " " ++ answer_text answer)))
line_text (Complete position) = end_text position (codes "complete")
line_text (Unsure position) = end_text position (codes "unsure")
line_text (Terms refusal) = codes "terms " ++ decimal (refusal_number refusal)
line_text (Bad place) = codes "bad " ++ decimal place
