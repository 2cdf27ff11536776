-- The words of a script among its bytes. Assumes nothing.
use Rattle.std.proofs.Common.{◌≡◌, ℕ, zero, suc, ◌+◌, ◌*◌, ◌^◌, ◌<◌, List, [], get_or, length, take, drop, ap, ◌∙◌, arith}
use Rattle.std.proofs.lemmas.List.{get_or-drop, get_or-take, length-take}
use Rattle.std.specs.Simd.{first_chunks}
use Rattle.decode.specs.Decoding.{word_at}

chunk_byte : (k i j : ℕ) (xs : List ℕ) → i < k → j < 4 → get_or (get_or (first_chunks 4 k xs) i []) j 0 ≡ get_or xs (4 * i + j) 0
chunk_byte zero i j xs h within = absurd (omega arith)
chunk_byte (suc k) zero j xs h within = get_or-take 4 xs j 0 within ∙ ap (λ n. get_or xs n 0) (omega arith)
chunk_byte (suc k) (suc i) j xs h within = chunk_byte k i j (drop 4 xs) (omega arith) within ∙ get_or-drop 4 xs (4 * i + j) 0 ∙ ap (λ n. get_or xs n 0) (omega arith)

abbrev word_of : List ℕ → ℕ
word_of bs = get_or bs 0 0 * 2 ^ 24 + get_or bs 1 0 * 2 ^ 16 + get_or bs 2 0 * 2 ^ 8 + get_or bs 3 0

pub word_chunk : (m k i : ℕ) (xs : List ℕ) (words : List (List ℕ)) → words ≡ first_chunks 4 k xs → length words ≡ k → i < length (take m words) → word_of (get_or (take m words) i []) ≡ word_at xs (4 * i)
word_chunk m k i xs words e size h =
    let inside : (i < m) × (i < k) = (omega (arith, length-take m words), omega (arith, length-take m words)) in
    let inner : get_or (take m words) i [] ≡ get_or (first_chunks 4 k xs) i [] = get_or-take m words i [] inside.0 ∙ ap (λ w. get_or w i []) e in
    let byte : (j : ℕ) → j < 4 → get_or (get_or (take m words) i []) j 0 ≡ get_or xs (4 * i + j) 0 = λ j within. ap (λ b. get_or b j 0) inner ∙ chunk_byte k i j xs inside.1 within in
    let first : get_or (get_or (take m words) i []) 0 0 ≡ get_or xs (4 * i) 0 = byte 0 (omega arith) ∙ ap (λ n. get_or xs n 0) (omega arith) in
    cc (first, byte 1 (omega arith), byte 2 (omega arith), byte 3 (omega arith))
