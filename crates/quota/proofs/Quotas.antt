-- What a tick does to a list that is within the limit.
use Rattle.std.proofs.Common.{◌≡◌, ℕ, ◌≤◌, List, length, take, arith}
use Rattle.std.proofs.lemmas.List.{take_all}
use Rattle.carrier.specs.Carriers.{Aged, ticked}
use Rattle.carrier.proofs.Calls.{length-ticked}

pub take_ticked : (n life : ℕ) (l : List Aged) → length l ≤ n → take n (ticked life l) ≡ ticked life l
take_ticked n life l le = take_all n (ticked life l) (omega (arith, length-ticked life l))
