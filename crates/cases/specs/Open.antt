-- Cases of the open stretches between two numbers, and of the nearest open offset: with no range, with one and with 128. Worker 0
-- may look, worker 1 may do all but that.
-- SPEC.md, "Open offsets".
use Rattle.std.specs.Prelude.{ℕ, ◌-◌, ◌≡◌, refl, List, [], ◌∷◌, map, length}
use Rattle.types.specs.Limits.{MAX}
use Rattle.types.specs.Refusal.{Result, refused, done, BoundsReversed, OutTooShort, UnknownWorker, NotPermitted}
use Rattle.types.specs.Table.{answer}
use Rattle.cursor.specs.Ranges.{range}
use Rattle.cursor.specs.Cursor.{Cursor, cursor}
use Rattle.cursor.specs.Unsettled.{stretches, nearest_open, open_between}
use Rattle.cursor.specs.declared.Range.{Range}
use Rattle.consumer.specs.State.{State}
use Rattle.consumer.specs.Questions.{OpenBetween, NearestOpen, look}
use Rattle.cases.specs.States.{ranges_from, table_of}
use Rattle.cases.specs.Consumer.{consumer_of}

-- nothing settled; 0 to 4, 8 and 9; every other offset up to 255
abbrev fresh : Cursor
fresh = cursor 0 []

abbrev eight : Cursor
eight = cursor 5 (range 8 10 ∷ [])

abbrev full : Cursor
full = cursor 0 (ranges_from 128 1)

-- ## stretches
pub open_all : stretches fresh 0 MAX ≡ range 0 MAX ∷ []
open_all = refl

pub open_empty_interval : map (λ (n : ℕ). stretches fresh n n) (0 ∷ 7 ∷ MAX ∷ []) ≡ [] ∷ [] ∷ [] ∷ []
open_empty_interval = refl

pub open_below-committed : stretches eight 0 5 ≡ []
open_below-committed = refl

pub open_from-committed : stretches eight 0 6 ≡ range 5 6 ∷ []
open_from-committed = refl

-- both bounds outside of the range, inside it, and at its ends
pub open_around-a-range : stretches eight 6 20 ≡ range 6 8 ∷ range 10 20 ∷ []
open_around-a-range = refl

pub open_within-a-range : map (λ (b : ℕ). stretches eight 8 b) (8 ∷ 9 ∷ 10 ∷ []) ≡ [] ∷ [] ∷ [] ∷ []
open_within-a-range = refl

pub open_up_to_its_start : stretches eight 7 8 ≡ range 7 8 ∷ []
open_up_to_its_start = refl

pub open_into-a-range : stretches eight 7 9 ≡ range 7 8 ∷ []
open_into-a-range = refl

pub open_out-of-a-range : stretches eight 9 11 ≡ range 10 11 ∷ []
open_out-of-a-range = refl

pub open_from_its_end : stretches eight 10 MAX ≡ range 10 MAX ∷ []
open_from_its_end = refl

-- ## the list: just long enough for the longest answer, and a place short
pub open_longest : length (stretches full 0 MAX) ≡ 129
open_longest = refl

abbrev lookers : List ℕ
lookers = 64 ∷ 63 ∷ []

abbrev with : Cursor → State
with c = consumer_of lookers c (table_of [] [] 0 0) 4096

-- how many numbers are answered
abbrev numbers : Result (List ℕ) → Result ℕ
numbers (refused r) = refused r
numbers (done l) = done (length l)

pub open_fits : numbers (look (with full) 0 (OpenBetween 0 MAX 129)) ≡ done 258
open_fits = refl

pub open_one-short : numbers (look (with full) 0 (OpenBetween 0 MAX 128)) ≡ refused OutTooShort
open_one-short = refl

pub open_in_numbers : look (with eight) 0 (OpenBetween 6 20 2) ≡ done (6 ∷ 8 ∷ 10 ∷ 20 ∷ [])
open_in_numbers = refl

-- later places of a list of records stay
pub open_fills : open_between eight 6 11 (range 1 1 ∷ range 2 2 ∷ range 3 3 ∷ []) ≡ answer (done 2) (range 6 8 ∷ range 10 11 ∷ range 3 3 ∷ [])
unfolding open_between
open_fills = refl

pub open_too_short-keeps : open_between eight 6 11 (range 1 1 ∷ []) ≡ answer (refused OutTooShort) (range 1 1 ∷ [])
unfolding open_between
open_too_short-keeps = refl

-- ## the order of the refusals: 38, 39, 32, 20
pub open_by-worker_8 : look (with eight) 8 (OpenBetween 20 6 0) ≡ refused UnknownWorker
open_by-worker_8 = refl

pub open_without-a-right : look (with eight) 1 (OpenBetween 20 6 0) ≡ refused NotPermitted
open_without-a-right = refl

pub open_reversed : look (with eight) 0 (OpenBetween 20 6 0) ≡ refused BoundsReversed
open_reversed = refl

pub open_reversed_by-one : look (with eight) 0 (OpenBetween MAX (MAX - 1) 129) ≡ refused BoundsReversed
open_reversed_by-one = refl

pub open_too_short : look (with eight) 0 (OpenBetween 6 20 1) ≡ refused OutTooShort
open_too_short = refl

pub open_none_fits_nowhere : look (with eight) 0 (OpenBetween 8 10 0) ≡ done []
open_none_fits_nowhere = refl

-- ## the nearest
pub nearest_on_every_side : map (nearest_open eight) (0 ∷ 4 ∷ 5 ∷ 7 ∷ 8 ∷ 9 ∷ 10 ∷ MAX ∷ []) ≡ 5 ∷ 5 ∷ 5 ∷ 7 ∷ 10 ∷ 10 ∷ 10 ∷ MAX ∷ []
nearest_on_every_side = refl

-- the last offset is never settled, even where everything below it is
pub nearest_is_the_last : map (nearest_open (cursor MAX [])) (0 ∷ (MAX - 1) ∷ MAX ∷ []) ≡ MAX ∷ MAX ∷ MAX ∷ []
nearest_is_the_last = refl

pub nearest_in_numbers : look (with eight) 0 (NearestOpen 8) ≡ done (10 ∷ [])
nearest_in_numbers = refl

pub nearest_without-a-right : look (with eight) 1 (NearestOpen 8) ≡ refused NotPermitted
nearest_without-a-right = refl
