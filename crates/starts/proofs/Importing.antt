-- A start is the import of nothing from generation 0, and an import doesn't depend on the version in which the counts come. Assumes
-- nothing.
use Prim.Native.Nat.{ℕ, ◌≤◌}
use native.Mathlib.Omega.{arith}
use mathlib.Core.Path.{◌≡◌}
use mathlib.Core.Bool.{true}
use mathlib.Core.List.{List, []}
use lib.ListN.{length}
use Rattle.types.specs.Limits.{PAIRS}
use Rattle.types.specs.Keyed.{Entry}
use Rattle.cursor.specs.Cursor.{resume}
use Rattle.cursor.proofs.Snapshot.{cursor-back}
use Rattle.attempt.specs.Snapshot.{PairsFit, known, encode_attempts}
use Rattle.attempt.proofs.Snapshot.{attempts-back, version-same}
use Rattle.consumer.specs.State.{Configuration}
use Rattle.starts.specs.Restart.{start}
use Rattle.starts.specs.Import.{import, no_cursor, no_attempts}

pub start-is-import : (c : Configuration) (size v : ℕ) → known v ≡ true → start c size ≡ import c size 0 no_cursor (no_attempts v)
unfolding start import
start-is-import c size v k =
    rw (cursor-back (resume 0) (record { fits = omega arith; above = tt; few = omega arith }), attempts-back v k [] tt tt (omega arith))

pub version-free-import : (c : Configuration) (size first : ℕ) (cursor : List ℕ) (v w : ℕ) → known v ≡ true → known w ≡ true
    → (l : List (Entry ℕ)) → PairsFit l → length l ≤ PAIRS
    → import c size first cursor (encode_attempts v l) ≡ import c size first cursor (encode_attempts w l)
unfolding import
version-free-import c size first cursor v w kv kw l f n = rw (version-same v w kv kw l f (omega arith))
