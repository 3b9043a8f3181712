-- Calls made one after the other: what the drivers of the benchmarks do.
-- SPEC.md, "Programs".
use Rattle.std.specs.Prelude.{ℕ, zero, suc, ◌+◌, ◌*◌, List, [], ◌∷◌, length}
use Rattle.types.specs.Refusal.{Result, refused, done}
use Rattle.raw.specs.Bytes.{write}
use Rattle.cursor.specs.Cursor.{Cursor, ackBounded, resume}
use Rattle.cursor.specs.Snapshot.{encode_cursor}
use Rattle.lease.specs.State.{Table}
use Rattle.lease.specs.Operations.{claim, ack}
use Rattle.bench.specs.declared.Stand.{Stand}

-- n numbers rising from one on, and n numbers falling to it
abbrev pub rising : ℕ → ℕ → List ℕ
rising from zero = []
rising from (suc n) = from ∷ rising (suc from) n

abbrev pub falling : ℕ → ℕ → List ℕ
falling to zero = []
falling to (suc n) = (to + n) ∷ falling to n

-- offsets acked in a cursor, at its limit of 128 ranges
abbrev pub acks : Cursor → List ℕ → Cursor
acks c [] = c
acks c (o ∷ os) = acks (ackBounded c o 128).state os

-- n batches of 64, each acked from its last offset down to its first, from batch i on
abbrev pub batches : Cursor → ℕ → ℕ → Cursor
batches c i zero = c
batches c i (suc n) = batches (acks c (falling (64 * i) 64)) (suc i) n

-- offsets claimed at time 0 by worker 0
abbrev pub claims : Table → List ℕ → Table
claims t [] = t
claims t (o ∷ os) = claims (claim t 0 o 0).state os

-- a lease table and a cursor
pub record Group : Type 0 where
  pub leases : Table
  pub cursor : Cursor

abbrev pub group : Table → Cursor → Group
group t c = record { leases = t; cursor = c }

-- an offset is claimed; the one that was claimed `window` offsets before it, under the generation of the same number, is acked
abbrev pub handled : ℕ → Group → ℕ → Group
handled window g i = group (ack (claim g.leases 0 (i + window) 0).state i i).state (ackBounded g.cursor i 128).state

-- n of them, from offset i on
abbrev pub works : ℕ → Group → ℕ → ℕ → Group
works window g i zero = g
works window g i (suc n) = works window (handled window g i) (suc i) n

-- the cursor of a resumption, which is a fresh one beside a refusal
abbrev pub cursor_of : Result Cursor → Cursor
cursor_of (refused r) = resume 0
cursor_of (done c) = c

-- a snapshot written n times to the front of lent bytes
abbrev pub writes : ℕ → Cursor → List ℕ → List ℕ
writes zero c out = out
writes (suc n) c out = writes n c (write 0 (encode_cursor c) out).state

-- the numbers that a driver answers
abbrev pub stand_of : Group → Stand
stand_of g = record { committed = g.cursor.committed; held = length g.leases.leases; next = g.leases.next_generation }
