-- What a put and a tick do to the words of a log.
use Rattle.std.proofs.Common.{◌≡◌, ℕ, ◌+◌, ◌-◌, ◌%◌, ◌^◌, ◌≤◌, min, true, List, slice_index, ap, arith}
use Rattle.std.proofs.lemmas.Bool.{ltb-true}
use Rattle.carrier.specs.Carriers.{older, under}
use Rattle.word_log.specs.Logs.{framed, elapsed, played}

-- a frame that stays is read one tick older
pub later : (clock after life : ℕ) → after ≡ (clock + 1) % 2 ^ 32 → life ≤ 65535 → (q : List ℕ) → under life (older (played clock life q)) ≡ true → played after life q ≡ older (played clock life q)
later clock after life next small q e =
    let departure = slice_index q 3 in
    let lt = ltb-true (min (elapsed clock departure) (life - 1) + 1) life e in
    let n : min (elapsed after departure) (life - 1) ≡ min (elapsed clock departure) (life - 1) + 1 = omega arith in
    ap (λ (m : ℕ). (framed q, m)) n
