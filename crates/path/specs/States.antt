-- The state of a transfer: the numbers of both ends, the carriers' lists, both stores and the book.
use Rattle.std.specs.Prelude.{ℕ, List, Option}
use Rattle.carrier.specs.Carriers.{Aged}
use Rattle.carrier.specs.declared.carrier.Carrier.{Ghosts}
use Rattle.ends.specs.Numbers.{Sends, Gets, sends_of, gets_of, new_sends}
use Rattle.store.specs.Stores.{stored}
use Rattle.path.specs.declared.entry.Entry.{Entry}
use Rattle.path.specs.declared.path.Path.{Path}
use Rattle.store.specs.declared.store.WindowStore.{WindowStore}
use Rattle.refusal.specs.declared.refusals.Refusal.{Refusal}
use Rattle.terms.specs.declared.agreed.Terms.{Terms}

-- what stays fixed from the making on: the refusal of the making, if there was one, among it
pub record Setting : Type 0 where
  pub terms : Terms
  pub refused : Option Refusal
  pub out_life : ℕ
  pub out_room : ℕ
  pub back_life : ℕ
  pub back_room : ℕ

-- what a path holds
pub record Ends : Type 0 where
  pub setting : Setting
  pub sender : Sends
  pub receiver : Gets
  pub out : List Aged
  pub back : List Aged

-- with what is lent to its calls: the sender's store, the receiver's store and the book
pub record State (B : Type 0) : Type 0 where
  pub ends : Ends
  pub kept : List (Entry B)
  pub got : List (Option (Entry B))
  pub book : List B

-- the state with these parts
abbrev pub state_with : {B : Type 0} → Ends → List (Entry B) → List (Option (Entry B)) → List B → State B
state_with e kept got book = record { ends = e; kept = kept; got = got; book = book }

module _ {O K : Type 0} (o : Ghosts O) (k : Ghosts K) where
  abbrev pub setting_with : Terms → Option Refusal → O → K → Setting
  setting_with t refused out back =
      record { terms = t; refused = refused; out_life = o.life out; out_room = o.room out; back_life = k.life back; back_room = k.room back }

  abbrev pub ends_of : Path O K → Ends
  ends_of p =
      record {
        setting = setting_with p.sender.terms p.refused p.out p.back;
        sender = sends_of p.sender;
        receiver = gets_of p.receiver;
        out = o.list p.out;
        back = k.list p.back;
      }

  abbrev pub state_of : {B : Type 0} → Path O K → WindowStore (Entry B) → WindowStore (Option (Entry B)) → List B → State B
  state_of p kept got book = record { ends = ends_of p; kept = stored kept; got = stored got; book = book }

-- ends that have done nothing
abbrev pub new_ends : Setting → List Aged → List Aged → Ends
new_ends z out back = record { setting = z; sender = new_sends z.terms; receiver = record { nr = 0; nd = 0 }; out = out; back = back }
