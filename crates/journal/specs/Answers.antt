-- What the public functions answer on every area, slice and number. 4 stands for each part that is no block: a part
-- of another length, an area of a length that no area has, a block behind its end.
-- SPEC.md, "Journal".
use Rattle.std.specs.Prelude.{ℕ, ◌+◌, min, not, List, [], ◌∷◌, ◌++◌, ltb, eqb, length, drop}
use Rattle.std.specs.Prelude as std
use Rattle.std.proofs.Math.Option.{Option, none, some}
use Rattle.types.specs.Refusal.{Result, refused, done}
use Rattle.types.specs.Refusal as refusal
use Rattle.types.specs.Refused.{result_of, option_of}
use Rattle.types.specs.Table.{◌⇒◌, Answer, answer, checked, guarded}
use Rattle.types.specs.declared.refusals.Refusal.{Refusal}
use Rattle.journal.specs.Area.{bad_length, blocks, outside, block_at, write_at}
use Rattle.journal.specs.Blocks.{
  bodies_for,
  chunk_of,
  header_block,
  body_block,
  zero_block,
  group_of,
  ceiling_of,
  cursor_length,
  attempt_length,
  payload_length,
}
use Rattle.journal.specs.declared.Block.{Block}
use Rattle.journal.specs.declared.Block.TheVariants as block
use Rattle.journal.specs.declared.Block.TheVariants.{Body, Zeros}
use Rattle.journal.specs.declared.Header.{Header}
use Rattle.journal.specs.declared.Stop as code
use Rattle.journal.specs.Walks.{Found, nothing, unsound, group, Stop, walk, payload}

-- a part of the area is filled with a block
unfoldable pub fill : List ℕ → List ℕ → Answer (Unit {0}) (List ℕ)
fill b part = guarded (not (eqb (length part) 512) ⇒ refusal.BadArea ∷ []) part (answer (done tt) b)

-- block i of an area is written
unfoldable pub write_block : ℕ → List ℕ → List ℕ → Answer (Unit {0}) (List ℕ)
write_block i b a = guarded (outside (length a) i ⇒ refusal.BadArea ∷ []) a (answer (done tt) (write_at a i b))

-- a walk that ends at the area's end at the latest
unfoldable pub walk_in : ℕ → ℕ → ℕ → List ℕ → Result Stop
walk_in hi k i a = checked (bad_length (length a) ⇒ refusal.BadArea ∷ []) (walk a (min hi (blocks a)) k i)

-- the payload of the group whose header stands at block i is read to the front of lent memory: 4 where the group does
-- not lie in the area
unfoldable pub read_payload : ℕ → List ℕ → List ℕ → Answer ℕ (List ℕ)
read_payload i a out =
    guarded
    (outside (length a) (i + bodies_for (payload_length (block_at a i))) ⇒ refusal.BadArea
    ∷ ltb (length out) (payload_length (block_at a i)) ⇒ refusal.OutTooShort
    ∷ [])
    out
    (answer (done (payload_length (block_at a i))) (payload a i ++ drop (payload_length (block_at a i)) out))

-- what a header says, and the header that says it
abbrev pub header_in : List ℕ → Header
header_in b =
    record {
      number = group_of b;
      ceiling = ceiling_of b;
      cursor_len = cursor_length b;
      attempt_len = attempt_length b;
    }

abbrev pub header_bytes : Header → List ℕ
header_bytes h = header_block h.number h.ceiling h.cursor_len h.attempt_len

-- the block that is to be written, a body with its part of the payload
abbrev pub block_of : Block → List ℕ → List ℕ
block_of (block.Header h) payload = header_bytes h
block_of (Body k j) payload = body_block k j (chunk_of j payload)
block_of Zeros payload = zero_block

-- what a turn of the walk answers for what it found: the block behind a sound group, if there is one
abbrev pub turn_of : Found → Result (Option ℕ)
turn_of nothing = done none
turn_of (unsound j) = refused (refusal.Damaged j)
turn_of (group e) = done (some e)

-- where a walk ended
abbrev pub stop_of : code.Stop → Stop
stop_of s = record { last = option_of (λ n. n) s.last; number = s.number; block = s.block }

abbrev pub walked_of : std.Result code.Stop Refusal → Result Stop
walked_of = result_of stop_of
