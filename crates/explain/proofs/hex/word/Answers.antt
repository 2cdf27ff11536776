use Rattle.std.proofs.Common.{ℕ, ◌^◌, ◌<◌, ◌≤◌, arith, rules}
use Rattle.std.proofs.Math.Nat.{pow-le-pow_right}
use Rattle.explain.proofs.hex.word.Goals as goal

short_fits : (i w : ℕ) → i < 8 → w < 16 ^ i → w < 2 ^ 28
short_fits i w few small =
    let seven : i ≤ 7 = omega arith in
    let most : 16 ^ i ≤ 16 ^ 7 = pow-le-pow_right {n = 16} (omega arith) seven in
    omega arith

pub overflow_mul-word : goal.overflow_mul-word
overflow_mul-word c = let short = short_fits c.loop-byte.byte-index c.loop-byte.word (omega arith) c.loop-byte.invariant.1 in search rules

pub overflow_add-word : goal.overflow_add-word
overflow_add-word c =
    let short = short_fits c.loop-byte.byte-index c.loop-byte.word (omega arith) c.loop-byte.invariant.1 in
    let low = c.in_ok-word.ensures.small in
    search rules
