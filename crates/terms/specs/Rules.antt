-- The rules of the terms, and when their making is refused.
use Rattle.std.specs.Prelude.{◌≡◌, ℕ, ◌+◌, ◌*◌, ◌<◌, ◌≤◌, ◌⊎◌, Some, None, Option}
use Rattle.refusal.specs.declared.refusals.Refusal.{Refusal}
use Rattle.refusal.specs.declared.refusals.Refusal.TheVariants.{TermOutOfRange, TooFewNumbers}

abbrev pub Between : ℕ → ℕ → ℕ → Type 0
Between low x high = (low ≤ x) × (x ≤ high)

-- both windows lie in 1 to 4096, the lifetime and the gap in 1 to 65535
abbrev pub InRange : ℕ → ℕ → ℕ → ℕ → Type 0
InRange sw rv life gap = (Between 1 sw 4096 × Between 1 rv 4096) × (Between 1 life 65535 × Between 1 gap 65535)

-- k is life / gap rounded up: k gaps reach it, and one gap fewer does not
abbrev pub RoundedUp : ℕ → ℕ → ℕ → Type 0
RoundedUp life gap k = (life ≤ k * gap) × (k * gap < life + gap)

-- n numbers suffice: there are at least sw + rv + K of them
abbrev pub Enough : ℕ → ℕ → ℕ → ℕ → ℕ → Type 0
Enough sw rv life gap n = (k : ℕ) → RoundedUp life gap k → sw + rv + k ≤ n

abbrev pub TooFew : ℕ → ℕ → ℕ → ℕ → ℕ → Type 0
TooFew sw rv life gap n = (k : ℕ) → RoundedUp life gap k → n < sw + rv + k

-- n is the least count of numbers
abbrev pub Least : ℕ → ℕ → ℕ → ℕ → ℕ → Type 0
Least sw rv life gap n = (k : ℕ) → RoundedUp life gap k → n ≡ sw + rv + k

-- the least count where all four are in range, and else none
abbrev pub LeastIf : ℕ → ℕ → ℕ → ℕ → Option ℕ → Type 0
LeastIf sw rv life gap (Some n) = InRange sw rv life gap × Least sw rv life gap n
LeastIf sw rv life gap None = InRange sw rv life gap → ⊥

-- terms in range are refused for want of numbers only
abbrev pub Fit : ℕ → ℕ → ℕ → ℕ → ℕ → Type 0
Fit sw rv life gap n = InRange sw rv life gap × Between 1 n 65536

-- when the making of terms gives a refusal: the smaller number first, and no other
abbrev pub TermsRefused : ℕ → ℕ → ℕ → ℕ → ℕ → Refusal → Type 0
TermsRefused sw rv life gap n r =
    ((r ≡ TermOutOfRange) × (Fit sw rv life gap n → ⊥)) ⊎ ((r ≡ TooFewNumbers) × Fit sw rv life gap n × TooFew sw rv life gap n)
