-- What the contracts of the decoders say, for their callers: the outcome, and the pairs that the array or the bytes hold.
-- Assumes nothing.
use Prim.Native.Nat.{ℕ, ◌*◌, ◌≤◌}
use native.Mathlib.Omega.{arith}
use mathlib.Core.Path.{◌≡◌, refl, ap, ◌∙◌}
use mathlib.Core.List.{List, ◌++◌}
use lib.ListN.{length, take, drop, length-map}
use lib.Seq.{take_at}
use Rattle.std.specs.Prelude.{Ok}
use Rattle.types.specs.Limits.{PAIRS}
use Rattle.types.specs.Refusal.{Refusal, Result, refused, done}
use Rattle.types.specs.Table.{Answer, answer, checked}
use Rattle.types.specs.Keyed.{Entry}
use Rattle.types.proofs.Scan.{map-take}
use Rattle.attempt.specs.Snapshot.{pairs_of, pair_count, decode_table, decode_attempts, decode_into}
use Rattle.attempt.specs.Codec.{blank, decoded_of}
use Rattle.types.specs.Lists.{entry_of, entries_of, counted}
use Rattle.attempt.specs.declared.Decoded.{Decoded}
use Rattle.attempt.proofs.Snapshot.{decoded-few, fill-room}
use Rattle.attempt.proofs.Reading.{length-blank, refused-bytes, decoded-bytes, fits}

module _ (b : List ℕ) where
  pub decoded-refused : (q : Refusal) → answer (refused q) (entries_of blank) ≡ decode_into b (entries_of blank) → decode_attempts b ≡ refused q
  decoded-refused q e = go (decode_attempts b) refl
    where
      go : (a : Result (List (Entry ℕ))) → decode_attempts b ≡ a → decode_attempts b ≡ refused q
      go (refused p) h = let same : refused q ≡ refused p = ap (λ (a : Answer ℕ (List (Entry ℕ))). a.outcome) (rw h at e) in cc
      go (done l) h =
          let n : ℕ = length l in
          let room : n ≤ length (entries_of blank) = omega (arith, decoded-few b l h, length-map blank entry_of, length-blank) in
          let same : refused q ≡ done n = ap (λ (a : Answer ℕ (List (Entry ℕ))). a.outcome) (rw h at e ∙ fill-room l (entries_of blank) n refl room) in
          cc

  -- the pairs, and how many they are
  pub record Reads (r : Decoded) : Type 0 where
    pub list : List (Entry ℕ)
    pub bytes : decode_attempts b ≡ done list
    pub pairs : entries_of (take r.count r.pairs) ≡ list
    pub few : r.count ≤ PAIRS

  pub decoded-read : (r : Decoded) → decoded_of (Ok r) ≡ decode_into b (entries_of blank) → Reads r
  decoded-read r e = go (decode_attempts b) refl
    where
      go : (a : Result (List (Entry ℕ))) → decode_attempts b ≡ a → Reads r
      go (refused p) h =
          let same : ◌≡◌ {A = Result ℕ} (done r.count) (refused p) = ap (λ (a : Answer ℕ (List (Entry ℕ))). a.outcome) (rw h at e) in
          absurd (cc)
      go (done l) h =
          let n : ℕ = length l in
          let room : n ≤ length (entries_of blank) = omega (arith, decoded-few b l h, length-map blank entry_of, length-blank) in
          let is : decoded_of (Ok r) ≡ answer (done n) (l ++ drop n (entries_of blank)) = rw h at e ∙ fill-room l (entries_of blank) n refl room in
          let same : done r.count ≡ done n = ap (λ (a : Answer ℕ (List (Entry ℕ))). a.outcome) is in
          let count : r.count ≡ n = cc in
          let array = ap (λ (a : Answer ℕ (List (Entry ℕ))). a.state) is in
          record {
            list = l;
            bytes = h;
            pairs = rw (count, map-take entry_of n r.pairs, array) (take_at l (drop n (entries_of blank)) n refl);
            few = omega (arith, count, decoded-few b l h);
          }

-- what the bytes hold where `check` answers this
abbrev pub held : List ℕ → Result ℕ → Result (List (Entry ℕ))
held b (refused q) = refused q
held b (done n) = done (pairs_of n b)

module _ (b : List ℕ) where
  pub checked-bytes : (x : Result ℕ) → x ≡ checked (decode_table b) (done (pair_count b)) → decode_attempts b ≡ held b x
  checked-bytes (refused q) e = refused-bytes b q e
  checked-bytes (done n) e = decoded-bytes b n e

  pub checked-fits : (x : Result ℕ) → x ≡ checked (decode_table b) (done (pair_count b)) → 12 * counted x ≤ length b
  checked-fits (refused q) e = omega arith
  checked-fits (done n) e = omega (arith, (fits b n e).1)
