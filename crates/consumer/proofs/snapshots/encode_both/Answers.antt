-- `encode_both` meets its contract: without room for one of the snapshots nothing is written, and else both are. Assumes nothing.
-- ---- what is known at a place, of every consumer with the parts that were handed in
use Prim.Native.Nat.{◌≤◌}
use native.Mathlib.Omega.{arith}
use mathlib.Core.Path.{◌≡◌, ap, ◌∙◌}
use lib.ListN.{length}
use borrow.Author.Rules.{rules}
use Rattle.types.specs.Lists.{ListsCounts}
use Rattle.types.proofs.Listing.{length_pairs}
use Rattle.cursor.specs.View.{ack_cursor}
use Rattle.cursor.proofs.Search.{runs-is}
use Rattle.cursor.proofs.Snapshot.{cursor-length}
use Rattle.attempt.proofs.Snapshot.{attempts-length}
use Rattle.attempt.specs.Snapshot.{encode_into}
use Rattle.lease.specs.Counts.{all_attempt_counts}
use Rattle.lease.specs.Parts.{listing_all}
use Rattle.consumer.specs.Export.{Snapshots, snapshots, exported}
use Rattle.consumer.specs.View.{view}
use Rattle.consumer.specs.Parts.{encoding, Whole}
use Rattle.consumer.specs.declared.Consumer.{Consumer}
use Rattle.consumer.proofs.Counts.{counts-few}
use Rattle.consumer.proofs.Exported.{cursor-short, attempts-short, both-written}
use Rattle.consumer.proofs.snapshots.encode_both.Goals as goal
use Rattle.consumer.proofs.snapshots.encode_both.Goals.{After-all_counts_in_place-counts, After-snapshot_len-attempt_len, Start}

abbrev given : Start → Consumer → Consumer
given s =
    let a = s.args in
    encoding (ack_cursor a.committed a.starts.now a.ends.now a.runs)
    (listing_all a.len a.carried_len a.offsets.now a.slots.now a.deliveries.now a.carried_offsets.now a.carried_counts.now)

abbrev lent : Start → Snapshots
lent s = snapshots s.args.cursor.now s.args.attempts.now

-- the counts
listed : (k : After-all_counts_in_place-counts) (x : Consumer) → let s = k.before.before.before.before in
    Whole (given s x) → ListsCounts k.all_counts_in_place-counts.result (all_attempt_counts (view (given s x)).table)
listed k x l = k.all_counts_in_place-counts.ensures x.table (record { full = l.full; sound = l.sound.table })

full : (k : After-all_counts_in_place-counts) → (length k.all_counts_in_place-counts.result.offsets ≡ 192) × (length k.all_counts_in_place-counts.result.attempts ≡ 192)
full k = (search rules, search rules)

counted : (k : After-all_counts_in_place-counts) (x : Consumer) → let s = k.before.before.before.before in
    Whole (given s x) → k.all_counts_in_place-counts.result.len ≡ length (all_attempt_counts (view (given s x)).table)
counted k x l =
    let r = k.all_counts_in_place-counts.result in
    let is = listed k x l in
    omega (arith, ap length is.is, length_pairs r.len r.offsets r.attempts 192 (full k).0 (full k).1, is.few)

few : (k : After-all_counts_in_place-counts) → k.all_counts_in_place-counts.result.len ≤ 128
few k =
    let s = k.before.before.before.before in
    let x = s.requires.consumer in
    omega (arith, counted k x s.requires.whole, counts-few (view (given s x)) s.requires.whole.sound.valid)

-- the lengths of the two snapshots
first : (n : After-snapshot_len-attempt_len) (x : Consumer) → let s = n.before.before.before.before.before.before in
    n.snapshot_len-cursor_len.result ≡ length (exported (view (given s x))).cursor
first n x =
    let s = n.before.before.before.before.before.before in
    omega (arith, n.snapshot_len-cursor_len.ensures, cursor-length (view (given s x)).cursor, runs-is (given s x).cursor s.requires.cursor)

second : (n : After-snapshot_len-attempt_len) (x : Consumer) → let s = n.before.before.before.before.before.before in
    n.all_counts_in_place-counts.result.len ≡ length (all_attempt_counts (view (given s x)).table) → n.snapshot_len-attempt_len.result ≡ length (exported (view (given s x))).attempts
second n x e =
    let s = n.before.before.before.before.before.before in
    omega (arith, n.snapshot_len-attempt_len.ensures, attempts-length 1 (all_attempt_counts (view (given s x)).table), e)

pub all_counts_in_place-counts-requires : goal.all_counts_in_place-counts-requires
all_counts_in_place-counts-requires c = c.requires.whole.sound.table.len

pub snapshot_len-cursor_len-requires : goal.snapshot_len-cursor_len-requires
snapshot_len-cursor_len-requires c = c.requires.cursor.sound.few

pub snapshot_len-attempt_len-requires : goal.snapshot_len-attempt_len-requires
snapshot_len-attempt_len-requires c = few (goal.at.snapshot_len-attempt_len-requires c).After-all_counts_in_place-counts

pub returns-then-cursor-cursor_len : goal.returns-then-cursor-cursor_len
returns-then-cursor-cursor_len c x l w =
    cursor-short (view (given (goal.at.returns-then-cursor-cursor_len c).Start x)) w (lent (goal.at.returns-then-cursor-cursor_len c).Start) (omega (arith, c.if-cursor-cursor_len.true, first (goal.at.returns-then-cursor-cursor_len c).After-snapshot_len-attempt_len x))

pub returns-then-attempts-attempt_len : goal.returns-then-attempts-attempt_len
returns-then-attempts-attempt_len c x l w =
    attempts-short (view (given (goal.at.returns-then-attempts-attempt_len c).Start x)) w (lent (goal.at.returns-then-attempts-attempt_len c).Start) (omega (arith, c.if-cursor-cursor_len.false, first (goal.at.returns-then-attempts-attempt_len c).After-snapshot_len-attempt_len x)) (omega (arith, c.if-attempts-attempt_len.true, second (goal.at.returns-then-attempts-attempt_len c).After-snapshot_len-attempt_len x (counted (goal.at.returns-then-attempts-attempt_len c).After-all_counts_in_place-counts x l)))

pub encode_in_place-requires : goal.encode_in_place-requires
encode_in_place-requires c = c.requires.cursor

pub encode_counts-requires : goal.encode_counts-requires
encode_counts-requires c = omega (arith, few (goal.at.encode_counts-requires c).After-all_counts_in_place-counts)

pub overflow_cast-result : goal.overflow_cast-result
overflow_cast-result c =
    omega (arith, c.snapshot_len-cursor_len.ensures, c.requires.cursor.sound.few)

pub overflow_cast-result-2 : goal.overflow_cast-result-2
overflow_cast-result-2 c =
    omega (arith, c.snapshot_len-attempt_len.ensures, few (goal.at.overflow_cast-result-2 c).After-all_counts_in_place-counts)

pub returns : goal.returns
returns c x l w =
    let t = view (given (goal.at.returns c).Start x) in
    let counts = ap (λ l. encode_into l 0 c.args.attempts.now) (listed (goal.at.returns c).After-all_counts_in_place-counts x l).is in
    both-written t w (lent (goal.at.returns c).Start) (omega (arith, c.if-cursor-cursor_len.false, first (goal.at.returns c).After-snapshot_len-attempt_len x)) l.sound.valid (omega (arith, c.if-attempts-attempt_len.false, second (goal.at.returns c).After-snapshot_len-attempt_len x (counted (goal.at.returns c).After-all_counts_in_place-counts x l))) _ _ (first (goal.at.returns c).After-snapshot_len-attempt_len x) (second (goal.at.returns c).After-snapshot_len-attempt_len x (counted (goal.at.returns c).After-all_counts_in_place-counts x l)) _ _
    c.encode_in_place.ensures (c.encode_counts.ensures ∙ counts)
