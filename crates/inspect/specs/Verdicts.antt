-- Which test a block fails first ("Sound blocks": kind, check, group number, zeros as laid down, lengths, body count, fit),
-- as a list of tests in that order. That a block has 512 bytes comes before all.
-- SPEC.md, "Programs".
use Rattle.std.specs.Prelude.{ℕ, ◌+◌, ◌-◌, max, min, Bool, true, false, not, cond, Result, Ok, Err, List, [], ◌∷◌, ◌++◌, leb, ltb, eqb, length}
use Rattle.raw.specs.Bytes.{all_zero}
use Rattle.crc.specs.Seal.{is_sealed}
use Rattle.journal.specs.Blocks.{
  bodies_for,
  kind_of,
  group_of,
  body_count,
  cursor_length,
  attempt_length,
  payload_length,
  index_of,
  used_of,
}
use Rattle.journal.specs.Sound.{zeros_at}
use Rattle.inspect.specs.declared.faults.Fault.{Fault}
use Rattle.inspect.specs.declared.faults.Fault.TheVariants.{
  Length,
  Kind,
  Check,
  Number,
  Zeros,
  CursorLength,
  AttemptLength,
  Count,
  Fit,
  Index,
  Used,
}
use Rattle.inspect.specs.declared.faults.Seen.{Seen}
use Rattle.inspect.specs.declared.faults.Seen.TheVariants as seens

-- a block is sound, or has a fault
abbrev pub Verdict : Type 0
Verdict = Result (Unit {0}) Fault

-- a test that finds a fault
pub record Row : Type 0 where
  pub test : Bool
  pub fault : Fault

abbrev pub ◌⇒◌ : Bool → Fault → Row
◌⇒◌ t f = record { test = t; fault = f }

infix 70 ◌⇒◌
-- the first fault that is found
abbrev pub verdict : List Row → Verdict
verdict [] = Ok tt
verdict (w ∷ ws) = cond w.test (Err w.fault) (verdict ws)

-- the last tests of a header at block i, where no group may pass block hi
abbrev pub sizes_table : ℕ → ℕ → List ℕ → List Row
sizes_table hi i b =
    ltb (cursor_length b) 13 ⇒ CursorLength
    ∷ ltb 2061 (cursor_length b) ⇒ CursorLength
    ∷ ltb (attempt_length b) 9 ⇒ AttemptLength
    ∷ ltb 1545 (attempt_length b) ⇒ AttemptLength
    ∷ not (eqb (body_count b) (bodies_for (payload_length b))) ⇒ Count
    ∷ not (leb (i + 1 + body_count b) hi) ⇒ Fit
    ∷ []

-- the first tests of a block of this kind, of group k
abbrev pub opening_table : ℕ → ℕ → List ℕ → List Row
opening_table kind k b =
    not (eqb (length b) 512) ⇒ Length
    ∷ not (eqb (kind_of b) kind) ⇒ Kind
    ∷ not (is_sealed b) ⇒ Check
    ∷ not (eqb (group_of b) k) ⇒ Number
    ∷ []

-- those of a header after these
abbrev pub header_rest_table : ℕ → ℕ → List ℕ → List Row
header_rest_table hi i b = not (zeros_at 2 2 b) ⇒ Zeros ∷ not (zeros_at 488 20 b) ⇒ Zeros ∷ sizes_table hi i b

-- those of body j after these, with this many bytes used
abbrev pub body_rest_table : ℕ → ℕ → List ℕ → List Row
body_rest_table j used b =
    not (eqb (index_of b) j) ⇒ Index
    ∷ not (eqb (used_of b) used) ⇒ Used
    ∷ not (zeros_at (500 - used) (8 + used) b) ⇒ Zeros
    ∷ []

unfoldable pub opening_verdict : ℕ → ℕ → List ℕ → Verdict
opening_verdict kind k b = verdict (opening_table kind k b)

unfoldable pub sizes_verdict : ℕ → ℕ → List ℕ → Verdict
sizes_verdict hi i b = verdict (sizes_table hi i b)

unfoldable pub header_rest : ℕ → ℕ → List ℕ → Verdict
header_rest hi i b = verdict (header_rest_table hi i b)

unfoldable pub body_rest : ℕ → ℕ → List ℕ → Verdict
body_rest j used b = verdict (body_rest_table j used b)

-- a header of group k at block i, where no group may pass block hi
unfoldable pub header_verdict : ℕ → ℕ → ℕ → List ℕ → Verdict
header_verdict hi k i b = verdict (opening_table 1 k b ++ header_rest_table hi i b)

-- body j of group k, with this many bytes used
unfoldable pub body_verdict : ℕ → ℕ → ℕ → List ℕ → Verdict
body_verdict k j used b = verdict (opening_table 2 k b ++ body_rest_table j used b)

abbrev pub is_sound : Verdict → Bool
is_sound (Ok u) = true
is_sound (Err f) = false

abbrev pub seen_of : Verdict → Seen → Result Seen Fault
seen_of (Ok u) s = Ok s
seen_of (Err f) s = Err f

-- the body of group k that a block says it is; none has the index 0, nor uses more than 500 bytes
abbrev pub own_body_verdict : ℕ → List ℕ → Verdict
own_body_verdict k b = body_verdict k (max (index_of b) 1) (min (used_of b) 500) b

-- zeros, or sound as the header or the body that it says it is, of the group that it names
abbrev pub seen : ℕ → ℕ → List ℕ → Result Seen Fault
seen hi i b =
    cond (not (eqb (length b) 512)) (Err Length)
    (cond (all_zero b) (Ok seens.Empty)
    (cond (eqb (kind_of b) 2)
    (seen_of (own_body_verdict (group_of b) b) seens.Body)
    (seen_of (header_verdict hi (group_of b) i b) seens.Header)))
