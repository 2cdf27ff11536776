-- What a window store holds.
use Rattle.std.specs.Prelude.{ℕ, ◌%◌, List, length, slice_index_or, slice_set}
use Rattle.store.specs.declared.store.WindowStore.{WindowStore}

-- place by place
abbrev pub stored : {T : Type 0} → WindowStore T → List T
stored s = s.places.now

-- number j lies at place j mod the length; d where there is no place
abbrev pub at_number : {T : Type 0} → T → List T → ℕ → T
at_number d l j = slice_index_or l (j % length l) d

abbrev pub set-number : {T : Type 0} → List T → ℕ → T → List T
set-number l j x = slice_set l (j % length l) x
