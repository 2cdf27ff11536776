-- Cyclic numbers: which whole number a remainder stands for.
use Rattle.std.proofs.Common.{◌≡◌, ℕ, ◌+◌, ◌-◌, ◌*◌, ◌/◌, ◌%◌, ◌<◌, ◌≤◌, sym, ap, ◌∙◌, mod-lt, le_antisymm, arith}
use native.Mathlib.Nat.{div-add-mod, lt_of_mul-lt-mul_left, mod-mod, add-mod-mod, add-mul-mod_self_left}
use Rattle.ends.specs.Numbers.{ahead}
use Rattle.terms.specs.Rules.{RoundedUp}

-- of two numbers with one remainder, less than N apart, the quotients are in order
quot_le : (N a b : ℕ) → a % N ≡ b % N → a < b + N → a / N ≤ b / N
quot_le N a b e h =
    let da = div-add-mod a N in
    let db = div-add-mod b N in
    let k : N * (a / N) < N * (b / N + 1) = omega arith in
    let q = lt_of_mul-lt-mul_left N {m = a / N} {n = b / N + 1} k in
    omega arith

pub window_unique : (N a b : ℕ) → a % N ≡ b % N → a < b + N → b < a + N → a ≡ b
window_unique N a b e h k =
    let q : a / N ≡ b / N = le_antisymm (quot_le N a b e h) (quot_le N b a (sym e) k) in
    sym (div-add-mod a N) ∙ cc (q, e, div-add-mod b N)

-- the lifetime over the gap, rounded up
pub rounded : (life gap : ℕ) → 0 < gap → RoundedUp life gap ((life + gap - 1) / gap)
rounded life gap h =
    let d = div-add-mod (life + gap - 1) gap in
    let m = mod-lt (life + gap - 1) h in
    (omega arith, omega arith)

pub ahead_reads : (N from cyc : ℕ) → 0 < N → (from + ahead N cyc from) % N ≡ cyc % N
ahead_reads N from cyc h =
    let d = div-add-mod from N in
    let m = mod-lt from h in
    let e : from + (cyc + N - from % N) ≡ cyc + N * (from / N + 1) = omega arith in
    add-mod-mod from (cyc + N - from % N) N ∙ ap (λ x. x % N) e ∙ add-mul-mod_self_left cyc N (from / N + 1)

-- a number less than N ahead is found
pub ahead_exact : (N from n : ℕ) → from ≤ n → n < from + N → from + ahead N (n % N) from ≡ n
ahead_exact N from n h k =
    let z : 0 < N = omega arith in
    let m = mod-lt (n % N + N - from % N) z in
    window_unique N (from + ahead N (n % N) from) n (ahead_reads N from (n % N) z ∙ mod-mod n N) (omega arith) (omega arith)

-- the number that a frame was put under is the one that it is read under
pub read_as : (N n from cyc : ℕ) → 0 < N → cyc ≡ n % N → from + ahead N cyc from < n + N → n < from + ahead N cyc from + N → n ≡ from + ahead N cyc from
read_as N n from cyc z f h k = sym (window_unique N (from + ahead N cyc from) n (ahead_reads N from cyc z ∙ ap (λ x. x % N) f ∙ mod-mod n N) h k)
