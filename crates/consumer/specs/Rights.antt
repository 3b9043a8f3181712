-- What each worker may do. A worker's rights are a byte with a bit for each operation; the rights of a consumer are a
-- list of such bytes, worker 0's first.
-- SPEC.md, "Rights".
use Rattle.std.specs.Prelude.{ℕ, ◌/◌, ◌%◌, Bool, not, ◌&&◌, List, [], ◌∷◌, leb, eqb, get_or}
use Rattle.types.specs.Limits.{WORKERS}
use Rattle.types.specs.Refusal.{UnknownWorker, NotPermitted}
use Rattle.types.specs.Table.{Row, ◌⇒◌}

-- settle covers Ack and Term, extend covers Progress, checkpoint is asked for at begin, look covers every question
pub data Operation : Type 0 where
  claiming : Operation
  settling : Operation
  nacking : Operation
  extending : Operation
  committing : Operation
  checkpointing : Operation
  looking : Operation

-- the bit of an operation, as a power of two
abbrev pub bit_of : Operation → ℕ
bit_of claiming = 1
bit_of settling = 2
bit_of nacking = 4
bit_of extending = 8
bit_of committing = 16
bit_of checkpointing = 32
bit_of looking = 64

-- the bit that marks a supervisor
abbrev pub SUPERVISOR : ℕ
SUPERVISOR = 128

-- a byte has a bit; there is no bit 0
abbrev pub has_bit : ℕ → ℕ → Bool
has_bit rights bit = not (eqb bit 0) && eqb (rights / bit % 2) 1

-- a worker may do something; who was given nothing may do nothing
abbrev pub permits : List ℕ → ℕ → ℕ → Bool
permits rights w bit = has_bit (get_or rights w 0) bit

-- 38, 39
abbrev pub worker_rows : List ℕ → ℕ → ℕ → List Row
worker_rows rights w bit = leb WORKERS w ⇒ UnknownWorker ∷ not (permits rights w bit) ⇒ NotPermitted ∷ []
