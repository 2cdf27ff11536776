-- The promise, from its parts.
use Rattle.std.proofs.Common.{◌≡◌, Ok}
use Rattle.promise.specs.Promise.{Promise}
use Rattle.promise.proofs.Calls.{round_calls}
use Rattle.promise.proofs.Keeps.{holds}
use Rattle.promise.proofs.Refusing.{unchanged, refused_still, never_malformed}
use Rattle.promise.proofs.Right.{in_order, counts, in_book, outcome, read_right}
use Rattle.promise.proofs.Rolling.{progress}
use Rattle.wire.specs.declared.block.Block.{Ghosts}

pub promise : {B : Type 0} (b : Ghosts B) → ((x : B) → b.fits x → b.reads (b.written x) ≡ Ok x) → Promise b
promise b back =
    record {
      of_fresh_paths = λ es s h free.
          (let i = holds b back es s h free in
          record {
            numbers_in_order = in_order b _ _ es s i;
            numbers_count = counts b _ _ es s i;
            delivered_in_order = in_book b _ _ es s i;
            read_right = read_right b back es s h free;
            outcome_true = outcome b _ _ es s i;
            never_malformed = λ e s' x d q. never_malformed b back _ _ es s s' i x e d q;
            progress = progress b back es s h free;
          });
      of_refused_makings = refused_still b;
      refused_unchanged = unchanged b;
      round_as_calls = round_calls b;
    }
