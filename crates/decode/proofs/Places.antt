-- Each word of a script counts once. Assumes nothing.
use Rattle.std.proofs.Common.{◌≡◌, ℕ, ◌+◌, ◌*◌, List, Some, None, Option, Ok, Err, Result, sym, refl, ap, ◌∙◌, ap₂, add-one, arith}
use Rattle.std.proofs.lemmas.Bool.Decides.{nat_tests}
use Rattle.decode.specs.Decoding.{Script, termed, due_then, offered, by_phase, stepped, word_at, read_to}
use Rattle.decode.specs.Words.{meaning_of}
use Rattle.decode.specs.declared.phase.Phase.{Phase}
use Rattle.decode.specs.declared.phase.Phase.TheVariants.{Terms, Calls, First, Second, Ended, Bad}
use Rattle.decode.specs.declared.word.Due.{Due}
use Rattle.decode.specs.declared.word.Due.TheVariants as due
use Rattle.wire.specs.Commands.{command_of}
use Rattle.wire.specs.declared.command.Command.{Command}
use Rattle.refusal.specs.declared.fault.Fault.{Fault}

termed_place : (w : ℕ) (s : Script) → (termed w s).place ≡ s.place
termed_place w s = grind (arith, nat_tests)

due_place : (d : Option Due) (s : Script) → (due_then d s).place ≡ s.place
due_place (Some (due.Call c)) s = refl
due_place (Some due.Offer) s = refl
due_place (Some due.End) s = refl
due_place None s = refl

offered_place : (p : ℕ) (r : Result Command Fault) (s : Script) → (offered p r s).place ≡ s.place
offered_place p (Ok c) s = refl
offered_place p (Err x) s = refl

phase_place : (p : Phase) (w : ℕ) (s : Script) → (by_phase p w s).place ≡ s.place
phase_place Terms w s = termed_place w s
phase_place Calls w s = due_place (meaning_of w) s
phase_place (First o) w s = refl
phase_place (Second o f) w s = offered_place o (command_of record { first = f; second = w }) s
phase_place Ended w s = refl
phase_place (Bad o) w s = refl

stepped_place : (s : Script) (w : ℕ) → (stepped s w).place ≡ s.place + 1
stepped_place s w = ap (λ n. n + 1) (phase_place s.phase w s)

-- one word more
pub read_more : (bytes : List ℕ) (n w : ℕ) (s t : Script) → s ≡ read_to bytes n → w ≡ word_at bytes (4 * n) → t ≡ stepped s w → t ≡ read_to bytes (n + 1)
read_more bytes n w s t e f g = g ∙ ap₂ stepped e f ∙ sym (ap (read_to bytes) (add-one n))

pub place_more : (n w : ℕ) (s t : Script) → s.place ≡ n → t ≡ stepped s w → t.place ≡ n + 1
place_more n w s t e g = ap (λ (x : Script). x.place) g ∙ stepped_place s w ∙ ap (λ x. x + 1) e
