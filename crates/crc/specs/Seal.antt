-- Bytes that end with their own check, as both snapshots and every block of the journal do.
-- SPEC.md, "Check".
use Rattle.std.specs.Prelude.{ℕ, ◌-◌, Bool, ◌&&◌, List, ◌++◌, leb, eqb, length, take, drop}
use Rattle.raw.specs.Bytes.{le, unle}
use Rattle.crc.specs.Crc32c.{crc}

-- bytes with their check behind them
abbrev pub sealed : List ℕ → List ℕ
sealed bytes = bytes ++ le 4 (crc bytes)

-- the last four bytes are the check of those before
unfoldable pub is_sealed : List ℕ → Bool
is_sealed bytes =
    leb 4 (length bytes) && eqb (unle (drop (length bytes - 4) bytes)) (crc (take (length bytes - 4) bytes))
