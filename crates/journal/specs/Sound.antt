-- Sound blocks: kind, check, group number, zeros as laid down, lengths, body count. A
-- header's number and its fit, which depend on where it stands, come last.
-- SPEC.md, "Sound blocks".
use Rattle.std.specs.Prelude.{ℕ, ◌+◌, ◌-◌, Bool, ◌&&◌, List, leb, eqb, length, take, drop}
use Rattle.raw.specs.Bytes.{all_zero}
use Rattle.crc.specs.Seal.{is_sealed}
use Rattle.journal.specs.Blocks.{
  bodies_for,
  kind_of,
  group_of,
  body_count,
  cursor_length,
  attempt_length,
  payload_length,
  index_of,
  used_of,
}

-- the k bytes from place pos on are zero
abbrev pub zeros_at : ℕ → ℕ → List ℕ → Bool
zeros_at k pos b = all_zero (take k (drop pos b))

-- a block of this kind with a right check
unfoldable pub is_kind : ℕ → List ℕ → Bool
is_kind kind b = eqb (length b) 512 && eqb (kind_of b) kind && is_sealed b

-- kind 1 and a right check: what could be taken for a header
abbrev pub has_header_kind : List ℕ → Bool
has_header_kind b = is_kind 1 b

-- a header sound in all but its number and its fit
unfoldable pub well_formed : List ℕ → Bool
well_formed b =
    has_header_kind b && zeros_at 2 2 b && zeros_at 488 20 b
    && leb 13 (cursor_length b) && leb (cursor_length b) 2061 && leb 9 (attempt_length b) && leb (attempt_length b) 1545
    && eqb (body_count b) (bodies_for (payload_length b))

-- the header of group k, sound in all but its fit
abbrev pub sound_but_fit : ℕ → List ℕ → Bool
sound_but_fit k b = well_formed b && eqb (group_of b) k

-- a sound header at block i, where group k is expected and no group may pass block hi
unfoldable pub sound_header : ℕ → ℕ → ℕ → List ℕ → Bool
sound_header hi k i b = sound_but_fit k b && leb (i + 1 + body_count b) hi

-- a header sound in all but the expected number: it is sound under its own
abbrev pub sound_but_number : ℕ → ℕ → List ℕ → Bool
sound_but_number hi i b = sound_header hi (group_of b) i b

-- a sound body j of group k, with this many bytes used
unfoldable pub sound_body : ℕ → ℕ → ℕ → List ℕ → Bool
sound_body k j used b =
    is_kind 2 b && eqb (group_of b) k && eqb (index_of b) j && eqb (used_of b) used && zeros_at (500 - used) (8 + used) b
