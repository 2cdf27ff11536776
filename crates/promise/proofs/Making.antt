-- What the making of a path leaves is where histories begin.
use Rattle.std.proofs.Common.{◌≡◌, ℕ, List, length, replicate, Some, None, Option, sym, refl, ap, ◌∙◌, arith}
use lib.ListN.{length-replicate}
use Rattle.carrier.specs.Carriers.{Aged}
use Rattle.path.specs.Events.{JustMade}
use Rattle.path.specs.Bars.{make_bar}
use Rattle.path.specs.States.{Setting, new_ends}
use Rattle.path.specs.Steps.{emptied}
use Rattle.path.specs.declared.entry.Entry.{Entry}
use Rattle.wire.specs.declared.block.Block.{Ghosts}
use Rattle.refusal.specs.declared.refusals.Refusal.{Refusal}

length-emptied : {B : Type 0} (o : Option Refusal) (got : List (Option (Entry B))) → length (emptied o got) ≡ length got
length-emptied {B} None got = length-replicate {A = Option (Entry B)} (length got) None
length-emptied (Some r) got = refl

all_empty : {B : Type 0} (o : Option Refusal) (got : List (Option (Entry B))) → o ≡ None → emptied o got ≡ replicate (length got) None
all_empty None got q = refl
all_empty (Some r) got q = absurd (let z : ◌≡◌ {A = ℕ} 0 1 = cc q in omega arith)

pub just_made : {B : Type 0} (b : Ghosts B) (z : Setting) (out back : List Aged) (kept : List (Entry B)) (got : List (Option (Entry B))) (book : List B)
    → z.refused ≡ make_bar z.terms z.out_life z.out_room z.back_life z.back_room out back (length got)
    → JustMade b (record { ends = new_ends z out back; kept = kept; got = emptied z.refused got; book = book })
just_made b z out back kept got book q =
    let size = length-emptied z.refused got in
    record {
      barred = q ∙ ap (λ n. make_bar z.terms z.out_life z.out_room z.back_life z.back_room out back n) (sym size);
      new = refl;
      emptied = λ free. all_empty z.refused got free ∙ ap (λ n. replicate n None) (sym size);
    }
