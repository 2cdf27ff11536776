-- The groups of four that the words are lent as.
use Rattle.std.proofs.Common.{◌≡◌, ℕ, suc, ◌/◌, List, [], ◌∷◌, length, refl, ap, arith}
use Rattle.std.specs.Simd.{first_chunks}
use Rattle.word_log.specs.Logs.{quads}

pub chunks_quads : (ws : List ℕ) → first_chunks 4 (length ws / 4) ws ≡ quads ws
chunks_quads [] = refl
chunks_quads (a ∷ []) = refl
chunks_quads (a ∷ (b ∷ [])) = refl
chunks_quads (a ∷ (b ∷ (c ∷ []))) = refl
chunks_quads (a ∷ (b ∷ (c ∷ (d ∷ ws)))) =
    let n : length (a ∷ (b ∷ (c ∷ (d ∷ ws)))) / 4 ≡ suc (length ws / 4) = omega arith in
    rw n (ap (λ l. (a ∷ (b ∷ (c ∷ (d ∷ [])))) ∷ l) (chunks_quads ws))
