-- What a log means, at every value.
use Rattle.std.specs.Prelude.{◌≡◌, ℕ, ◌+◌, ◌-◌, ◌/◌, ◌%◌, ◌^◌, min, Bool, List, [], ◌∷◌, map, length, nat_lt, slice_index, refl}
use Rattle.std.proofs.Common.{arith}
use Rattle.wire.specs.declared.frame.Frame.{Frame}
use Rattle.carrier.specs.Carriers.{Aged, Lawful}
use Rattle.carrier.specs.Lifetimes.{ticks_of}
use Rattle.carrier.specs.Records.{records_list, records_room, records_lawful}
use Rattle.word_log.specs.declared.log.Now.{Now}
use Rattle.word_log.specs.declared.log.Log.{Log}

-- words in fours, one for each frame; what is left over counts for nothing
abbrev pub quads : List ℕ → List (List ℕ)
quads [] = []
quads (a ∷ []) = []
quads (a ∷ (b ∷ [])) = []
quads (a ∷ (b ∷ (c ∷ []))) = []
quads (a ∷ (b ∷ (c ∷ (d ∷ ws)))) = (a ∷ (b ∷ (c ∷ (d ∷ [])))) ∷ quads ws

pub length-quads : (ws : List ℕ) → length (quads ws) ≡ length ws / 4
length-quads [] = refl
length-quads (a ∷ []) = refl
length-quads (a ∷ (b ∷ [])) = refl
length-quads (a ∷ (b ∷ (c ∷ []))) = refl
length-quads (a ∷ (b ∷ (c ∷ (d ∷ ws)))) = omega (arith, length-quads ws)

-- the frame of four words, of which the last is its departure
abbrev pub framed : List ℕ → Frame
framed q = record { head = slice_index q 0; words = record { first = slice_index q 1; second = slice_index q 2 } }

-- the ticks from a departure to now, on a count that comes round at 2 ^ 32
abbrev pub elapsed : ℕ → ℕ → ℕ
elapsed clock departure = (clock + (2 ^ 32 - departure)) % 2 ^ 32

-- a frame with its age, kept below the lifetime
abbrev pub played : ℕ → ℕ → List ℕ → Aged
played clock life q = (framed q, min (elapsed clock (slice_index q 3)) (life - 1))

-- one tick on, the age is still below the lifetime
abbrev pub stays : ℕ → ℕ → List ℕ → Bool
stays clock life q = nat_lt (min (elapsed clock (slice_index q 3)) (life - 1) + 1) life

-- one tick later
abbrev pub next : Now → Now
next now = record now { clock = (now.clock + 1) % 2 ^ 32 }

abbrev pub log_life : Log → ℕ
log_life s = ticks_of s.now.life

-- the frames that fit, at most 4096
abbrev pub log_room : Log → ℕ
log_room s = records_room s.quads

-- the frames in use, in order
abbrev pub log_list : Log → List Aged
log_list s = map (played s.now.clock (log_life s)) (records_list s.quads)

pub log_laws : Lawful Log log_list log_life log_room
log_laws = records_lawful (λ s. s.quads) (λ s. played s.now.clock (log_life s)) log_life (λ s q. omega arith) (λ s. omega arith) (λ s. omega arith)
