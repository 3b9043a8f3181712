-- What an export owes its contract, from what the encoders ensure; and that its counts are never too many to encode. Assumes nothing.
use Prim.Native.Nat.{ℕ, ◌+◌, ◌≤◌, ◌<◌}
use native.Mathlib.Omega.{arith}
use mathlib.Core.Path.{◌≡◌, sym, ap, ◌∙◌}
use mathlib.Core.Bool.{false}
use mathlib.Core.List.{List, ◌++◌}
use mathlib.Core.Option.{none, some}
use lib.Dec.{ltb}
use lib.ListN.{length, take, drop}
use lib.Seq.{take-append_seam}
use borrow.Author.Tests.{lt-ltb, le-ltb}
use Rattle.types.specs.Limits.{PAIRS}
use Rattle.std.specs.Prelude.{Ok, Err}
use Rattle.std.specs.Prelude as std
use Rattle.types.specs.Refusal.{Result}
use Rattle.types.specs.Refused.{refusal_of}
use Rattle.types.specs.declared.refusals.Refusal as code_refusal
use Rattle.types.specs.declared.refusals.Refusal.TheVariants as code
use Rattle.types.specs.Table.{first, answer}
use Rattle.raw.specs.Bytes.{write}
use Rattle.raw.proofs.Bytes.{wrote}
use Rattle.attempt.specs.Snapshot.{encode_into}
use Rattle.lease.specs.Counts.{all_attempt_counts}
use Rattle.consumer.specs.State.{State}
use Rattle.consumer.specs.Valid.{Valid}
use Rattle.consumer.specs.Rights.{looking}
use Rattle.consumer.specs.Calls.{call_rows}
use Rattle.consumer.specs.Export.{Snapshots, snapshots, exported, in_front}
use Rattle.consumer.specs.Questions.{reply, export_to, export}
use Rattle.consumer.specs.Parts.{Exports}
use Rattle.consumer.specs.declared.snapshots.Lengths.{Lengths}
use Rattle.consumer.proofs.Counts.{counts-few}

-- no export meets 19
pub never_too_many-pairs : (s : State) → Valid s → (at : ℕ) (out : List ℕ) → encode_into (all_attempt_counts s.table) at out ≡ write at (exported s).attempts out
never_too_many-pairs s v at out = rw (le-ltb PAIRS (length (all_attempt_counts s.table)) (counts-few s v))

-- ## bytes that were written at the front of lent ones
module _ (bytes out after : List ℕ) {o : Result ℕ} (is : answer o after ≡ write 0 bytes out) (fits : length bytes ≤ length out) where
  in_front_lem : after ≡ in_front bytes out
  in_front_lem =
      let from-0 : 0 + length bytes ≡ length bytes = omega arith in
      wrote 0 bytes out is (omega arith) ∙ ap (λ (n : ℕ). bytes ++ drop n out) from-0

  read_again : take (length bytes) after ≡ bytes
  read_again = rw in_front_lem (take-append_seam bytes (drop (length bytes) out))

-- ## a worker that may look
module _ (s : State) (w : ℕ) (out : Snapshots) where
  pub cursor-short : length out.cursor < length (exported s).cursor → Exports s (reply s w (export_to out)) out (Err code.OutTooShort) out
  cursor-short h =
      let short = lt-ltb (length out.cursor) (length (exported s).cursor) h in
      record { is = rw short; lists = rw short }

  module _ (room : length (exported s).cursor ≤ length out.cursor) where
    roomy : ltb (length out.cursor) (length (exported s).cursor) ≡ false
    roomy = le-ltb (length out.cursor) (length (exported s).cursor) room

    pub attempts-short : length out.attempts < length (exported s).attempts → Exports s (reply s w (export_to out)) out (Err code.OutTooShort) out
    attempts-short h =
        let short = lt-ltb (length out.attempts) (length (exported s).attempts) h in
        record { is = rw (roomy, short); lists = rw (roomy, short) }

    module _ (v : Valid s) (behind : length (exported s).attempts ≤ length out.attempts) (n k : ℕ) (size : n ≡ length (exported s).cursor) (size-2 : k ≡ length (exported s).attempts)
        (cursor attempts : List ℕ) {o₁ o₂ : Result ℕ}
        (e₁ : answer o₁ cursor ≡ write 0 (exported s).cursor out.cursor)
        (e₂ : answer o₂ attempts ≡ encode_into (all_attempt_counts s.table) 0 out.attempts) where
      roomy_too : ltb (length out.attempts) (length (exported s).attempts) ≡ false
      roomy_too = le-ltb (length out.attempts) (length (exported s).attempts) behind

      wrote-counts : answer o₂ attempts ≡ write 0 (exported s).attempts out.attempts
      wrote-counts = e₂ ∙ never_too_many-pairs s v 0 out.attempts

      pub both-written : Exports s (reply s w (export_to out)) out (Ok (record { cursor_len = n; attempt_len = k })) (snapshots cursor attempts)
      both-written =
          record {
            is =
                rw (
                  roomy,
                  roomy_too,
                  size,
                  size-2,
                  read_again (exported s).cursor out.cursor cursor e₁ room,
                  read_again (exported s).attempts out.attempts attempts wrote-counts behind,
                );
            lists =
                rw (
                  roomy,
                  roomy_too,
                  in_front_lem (exported s).cursor out.cursor cursor e₁ room,
                  in_front_lem (exported s).attempts out.attempts attempts wrote-counts behind,
                );
          }

  -- ## by what a worker may
  pub export-refused : (f : code_refusal.Refusal) → some (refusal_of f) ≡ first (call_rows s w looking) → Exports s (export s w out) out (Err f) out
  export-refused f e = let met : first (call_rows s w looking) ≡ some (refusal_of f) = sym e in record { is = rw met; lists = rw met }

  pub export-permitted : none ≡ first (call_rows s w looking) → (r : std.Result Lengths code_refusal.Refusal) (out' : Snapshots) → Exports s (reply s w (export_to out)) out r out'
      → Exports s (export s w out) out r out'
  export-permitted e r out' h = let met : first (call_rows s w looking) ≡ none = sym e in rw met h
