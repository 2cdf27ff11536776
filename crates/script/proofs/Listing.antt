-- The lines of calls, each by its place. Assumes nothing.
use Rattle.std.proofs.Common.{◌≡◌, ℕ, ◌+◌, List, [], ◌∷◌, map, refl, ap}
use Rattle.std.specs.List.{enumerate_from}
use Rattle.promise.specs.declared.call.Turn.{Turn}
use Rattle.lines.specs.Lines.{line_of, lines_from}

pub lines_placed : {B : Type 0} (n : ℕ) (ts : List (Turn B)) → map (λ p. line_of p.0 p.1) (enumerate_from n ts) ≡ lines_from n ts
lines_placed n [] = refl
lines_placed n (t ∷ ts) = ap (λ ls. line_of n t ∷ ls) (lines_placed (n + 1) ts)
