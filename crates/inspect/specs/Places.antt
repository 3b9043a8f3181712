-- What is expected at each block of a half of a journal: at its first block the header that it is opened with; behind a sound header its
-- bodies, and behind these the next group's header; nothing behind a block that is no sound header where one is expected, nor anywhere
-- in a half that isn't in use and isn't opened by a header.
-- SPEC.md, "Programs".
use Rattle.std.specs.Prelude.{ℕ, zero, suc, ◌+◌, cond, Result, List, ltb, eqb, length}
use Rattle.types.specs.Limits.{MAX}
use Rattle.journal.specs.Area.{block_at}
use Rattle.journal.specs.Blocks.{bodies_for, group_of, payload_length, used_in}
use Rattle.journal.specs.Sound.{sound_header, sound_but_number}
use Rattle.consumer.specs.State.{half_blocks}
use Rattle.starts.specs.Restart.{origin}
use Rattle.inspect.specs.Verdicts.{header_verdict, body_verdict, seen_of, seen}
use Rattle.inspect.specs.declared.faults.Fault.{Fault}
use Rattle.inspect.specs.declared.faults.Seen.{Seen}
use Rattle.inspect.specs.declared.faults.Seen.TheVariants as seens
use Rattle.inspect.specs.declared.places.Place.{Place}
use Rattle.inspect.specs.declared.places.Place.TheVariants.{Header, Body, Behind, Free}

-- the end of the half that begins at block i, which no group of it may pass
abbrev pub end_of : List ℕ → ℕ → ℕ
end_of a i = i + half_blocks (length a)

-- the first block of a half that isn't in use: a header sound in all but the expected number opens it
abbrev pub opened_by : ℕ → ℕ → List ℕ → Place
opened_by hi i b = cond (sound_but_number hi i b) (Header (group_of b)) Free

-- block i, where a half begins; the one in use begins where a restart's walk does
abbrev pub first : List ℕ → ℕ → Place
first a i = cond (eqb i (origin a).block) (Header (origin a).number) (opened_by (end_of a i) i (block_at a i))

-- where the half begins that isn't in use
abbrev pub otherHalf : List ℕ → ℕ
otherHalf a = cond (eqb (origin a).block 0) (half_blocks (length a)) 0

-- a block i, judged as what is expected there, or seen by itself where nothing is
abbrev pub judged : Place → ℕ → ℕ → List ℕ → Result Seen Fault
judged (Header k) hi i b = seen_of (header_verdict hi k i b) seens.Header
judged (Body k j n t) hi i b = seen_of (body_verdict k j (used_in j n t) b) seens.Body
judged (Behind k) hi i b = seen hi i b
judged Free hi i b = seen hi i b

-- behind body j of n, the next one or the next group's header; no group has the number MAX
abbrev pub behind_body : ℕ → ℕ → ℕ → ℕ → Place
behind_body k j n t = cond (ltb j n) (Body k (j + 1) n t) (cond (eqb k MAX) (Behind k) (Header (k + 1)))

-- behind the sound header of group k
abbrev pub behind_header : ℕ → List ℕ → Place
behind_header k b = Body k 1 (bodies_for (payload_length b)) (payload_length b)

-- behind block i
abbrev pub place_after : Place → ℕ → ℕ → List ℕ → Place
place_after (Header k) hi i b = cond (sound_header hi k i b) (behind_header k b) (Behind k)
place_after (Body k j n t) hi i b = behind_body k j n t
place_after (Behind k) hi i b = Behind k
place_after Free hi i b = Free

-- at block m of the half that begins at block i
unfoldable pub place_at : List ℕ → ℕ → ℕ → Place
place_at a i zero = first a i
place_at a i (suc m) = place_after (place_at a i m) (end_of a i) (i + m) (block_at a (i + m))
