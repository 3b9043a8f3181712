-- The settled examples 1 to 6 and 11.
-- SPEC.md, "Examples".
use Rattle.std.specs.Prelude.{ℕ, ◌≡◌, refl, true, false, List, [], ◌∷◌, length}
use Rattle.types.specs.Limits.{MAX, RANGES}
use Rattle.types.specs.Refusal.{refused, done, Shed, EmptyRange, NotSortedDisjointAndAboveCommitted, CursorBadLength, CursorUnsupportedVersion}
use Rattle.types.specs.Table.{answer}
use Rattle.cursor.specs.Ranges.{range}
use Rattle.cursor.specs.Cursor.{Cursor, cursor, settled, ackBounded, commit_up_to, resume, resume_with_ahead}
use Rattle.cursor.specs.Snapshot.{decode_cursor}

abbrev fresh : Cursor
fresh = resume 0

-- fresh, ack 0: committed 1
pub example_1 : ackBounded fresh 0 RANGES ≡ answer (done true) (cursor 1 [])
unfolding ackBounded
example_1 = refl

-- fresh, ack 2, 1, 0: (2,3); (1,3); committed 3
pub record Example2 : Type 0 where
  pub two : ackBounded fresh 2 RANGES ≡ answer (done true) (cursor 0 (range 2 3 ∷ []))
  pub one : ackBounded (cursor 0 (range 2 3 ∷ [])) 1 RANGES ≡ answer (done true) (cursor 0 (range 1 3 ∷ []))
  pub zero : ackBounded (cursor 0 (range 1 3 ∷ [])) 0 RANGES ≡ answer (done true) (cursor 3 [])

pub example_2 : Example2
unfolding ackBounded
example_2 = record { two = refl; one = refl; zero = refl }

-- run limit 0: ack 1 Shed, ack 0 Recorded
pub record Example3 : Type 0 where
  pub one : ackBounded fresh 1 0 ≡ answer (refused Shed) fresh
  pub zero : ackBounded fresh 0 0 ≡ answer (done true) (cursor 1 [])

pub example_3 : Example3
unfolding ackBounded
example_3 = record { one = refl; zero = refl }

-- committed 5, (8,10): commit 7 keeps (8,10); commit 8 or 9 gives committed 10
abbrev five : Cursor
five = cursor 5 (range 8 10 ∷ [])

pub record Example4 : Type 0 where
  pub to_7 : commit_up_to five 7 ≡ answer (done true) (cursor 7 (range 8 10 ∷ []))
  pub to_8 : commit_up_to five 8 ≡ answer (done true) (cursor 10 [])
  pub to_9 : commit_up_to five 9 ≡ answer (done true) (cursor 10 [])

pub example_4 : Example4
unfolding commit_up_to
example_4 = record { to_7 = refl; to_8 = refl; to_9 = refl }

-- resume 5 with (5,6): refusal 11; (5,5): 10
pub record Example5 : Type 0 where
  pub touching : resume_with_ahead 5 (range 5 6 ∷ []) ≡ refused (NotSortedDisjointAndAboveCommitted 5 5)
  pub empty : resume_with_ahead 5 (range 5 5 ∷ []) ≡ refused (EmptyRange 5 5)

pub example_5 : Example5
unfolding resume_with_ahead
example_5 = record { touching = refl; empty = refl }

-- ack MAX: Duplicate, yet not acked
pub record Example6 : Type 0 where
  pub duplicate : ackBounded fresh MAX RANGES ≡ answer (done false) fresh
  pub not_acked : settled fresh MAX ≡ false

pub example_6 : Example6
unfolding ackBounded
example_6 = record { duplicate = refl; not_acked = refl }

-- cursor bytes of version 2, whatever stands behind it: length 30 refusal 7, length 29 refusal 8
pub record Example11 (rest : List ℕ) : Type 0 where
  pub length_30 : length rest ≡ 29 → decode_cursor (2 ∷ rest) ≡ refused (CursorBadLength 30)
  pub length_29 : length rest ≡ 28 → decode_cursor (2 ∷ rest) ≡ refused (CursorUnsupportedVersion 2)

pub example_11 : (rest : List ℕ) → Example11 rest
unfolding decode_cursor
example_11 rest = record { length_30 = λ e. rw e; length_29 = λ e. rw e }
