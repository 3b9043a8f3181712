-- Where each part of a consumer lies among its words, the consumer that they are, and what holds of them. The places are those of
-- layout.rt.
-- SPEC.md, "State".
use Rattle.std.specs.Prelude.{ℕ, ◌+◌, ◌≡◌, Bool, not, List, eqb, length}
use Rattle.types.specs.Limits.{WORKERS, STEPS}
use Rattle.words.specs.Columns.{word, column}
use Rattle.hours.specs.declared.Hours.{Hours}
use Rattle.cursor.specs.Layout.{cursor_in}
use Rattle.cursor.specs.Layout as cursor
use Rattle.lease.specs.Layout.{table_in, Fits}
use Rattle.lease.specs.Layout as lease
use Rattle.consumer.specs.State.{State}
use Rattle.consumer.specs.View as consumer
use Rattle.consumer.specs.declared.Consumer.{Consumer}

-- ## places
-- the cursor and the lease table, each by its own layout
abbrev pub CURSOR : ℕ
CURSOR = 0

abbrev pub TABLE : ℕ
TABLE = CURSOR + cursor.WORDS

-- the consumer's own
abbrev pub CEILING : ℕ
CEILING = TABLE + lease.WORDS

abbrev pub NEXT-NUMBER : ℕ
NEXT-NUMBER = CEILING + 1

abbrev pub NEXT-BLOCK : ℕ
NEXT-BLOCK = NEXT-NUMBER + 1

abbrev pub AREA-LEN : ℕ
AREA-LEN = NEXT-BLOCK + 1

-- the delivery settings
abbrev pub MAX-DELIVER : ℕ
MAX-DELIVER = AREA-LEN + 1

abbrev pub ALLOW-UNLIMITED : ℕ
ALLOW-UNLIMITED = MAX-DELIVER + 1

abbrev pub THRESHOLD : ℕ
THRESHOLD = ALLOW-UNLIMITED + 1

abbrev pub BACKOFF-LEN : ℕ
BACKOFF-LEN = THRESHOLD + 1

abbrev pub BACKOFFS : ℕ
BACKOFFS = BACKOFF-LEN + 1

-- the rights, a word for each worker
abbrev pub RIGHTS : ℕ
RIGHTS = BACKOFFS + STEPS

-- the hours
abbrev pub HOURS-GIVEN : ℕ
HOURS-GIVEN = RIGHTS + WORKERS

abbrev pub SHIFT : ℕ
SHIFT = HOURS-GIVEN + 1

abbrev pub DAYS : ℕ
DAYS = SHIFT + 1

-- all of them
abbrev pub WORDS : ℕ
WORDS = DAYS + 7

-- ## the consumer
-- a word as a truth: 0 says no
abbrev pub truth : ℕ → Bool
truth x = not (eqb x 0)

-- the words of the cursor and of the lease table
abbrev pub settled_in : List ℕ → List ℕ
settled_in w = column CURSOR cursor.WORDS w

abbrev pub leases_in : List ℕ → List ℕ
leases_in w = column TABLE lease.WORDS w

abbrev pub hours_in : List ℕ → Hours
hours_in w = record { given = truth (word HOURS-GIVEN w); shift = word SHIFT w; days = column DAYS 7 w }

abbrev pub consumer_in : List ℕ → Consumer
consumer_in w =
    record {
      cursor = cursor_in (settled_in w);
      table = table_in (leases_in w);
      ceiling = record { 0 = word CEILING w };
      next = record { number = word NEXT-NUMBER w; block = word NEXT-BLOCK w };
      area_len = word AREA-LEN w;
      settings =
          record {
            delivery =
                record {
                  max_deliver = word MAX-DELIVER w;
                  allow_unlimited = truth (word ALLOW-UNLIMITED w);
                  backoff_nanos = column BACKOFFS STEPS w;
                  backoff_len = word BACKOFF-LEN w;
                  attempts_flush_redeliveries = word THRESHOLD w;
                };
            rights = column RIGHTS WORKERS w;
            hours = hours_in w;
          };
    }

-- the state that words show
abbrev pub view : List ℕ → State
view w = consumer.view (consumer_in w)

-- ## what contracts require of words, and say of those that a call leaves
-- the numbers of 32 bits that the settings have fit by the state's invariant, those of the lease table by their own
pub record Sound (w : List ℕ) : Type 0 where
  pub long : length w ≡ WORDS
  pub state : consumer.Sound (consumer_in w)
  pub fits : Fits (table_in (leases_in w))
