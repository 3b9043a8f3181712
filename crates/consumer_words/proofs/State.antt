-- From what holds of the consumer that words are to what holds of the words: the laws of cursor, lease and consumer, as they are.
-- Assumes nothing.
use Prim.Native.Nat.{ℕ, ◌+◌, ◌≤◌, ◌<◌}
use native.Mathlib.Omega.{arith}
use mathlib.Core.Path.{◌≡◌, refl, sym, ap, subst, ◌∙◌}
use mathlib.Core.Bool.{Bool, true, false, cond, ◌&&◌, true≢false}
use mathlib.Core.List.{List}
use mathlib.Core.Option.{Option, none, some}
use lib.Dec.{leb}
use lib.ListN.{length, take, drop}
use borrow.Author.Tests.{leb-true, leb-false}
use borrow.Rule.Slice.PartMut.{put_mid, same_len_mid, put_same}
use Rattle.std.specs.Prelude.{Some}
use Rattle.types.specs.Limits.{MAX, LEASES, RANGES, WORKERS, sat64}
use Rattle.types.specs.Refusal.{Refusal, Result, refused, done, Exhausted, CheckpointDue, Shed}
use Rattle.types.specs.Table.{Answer, answer, Kept, Passed, first}
use Rattle.types.proofs.Cases.{split}
use Rattle.words.specs.Columns.{word, spliced}
use Rattle.words.proofs.Columns.{column-is, spliced-is, column-length, column-spliced, column-beside, word-beside, spliced-length}
use Rattle.cursor.specs.Cursor.{Cursor, ackBounded, commit_up_to}
use Rattle.cursor.specs.Answers as cursor
use Rattle.cursor.specs.Layout.{cursor_in}
use Rattle.cursor.specs.Layout as cursors
use Rattle.cursor.specs.Words.{Updated, KeptUnlessNew}
use Rattle.lease.specs.State.{Table}
use Rattle.lease.specs.Rest.{release_below}
use Rattle.lease.specs.Operations.{Grant, lease_of, is_none}
use Rattle.lease.specs.Operations as operations
use Rattle.lease.specs.Answers as lease
use Rattle.lease.specs.Layout.{table_in, Fits}
use Rattle.lease.specs.Layout as leases
use Rattle.lease.specs.InWords.{OwnedIn, AnswersOwned}
use Rattle.lease.specs.InWords as lent
use Rattle.lease.specs.declared.Lease.{Lease}
use Rattle.consumer.specs.Rights.{settling, nacking, extending, committing}
use Rattle.consumer.specs.Calls.{HandOut, call_rows, claim_table, claim, token_rows, is_shed, ack, attempt_of, nack_delay, nack_deadline, nack, progress, commit}
use Rattle.consumer.specs.Parts.{handed_out}
use Rattle.consumer.specs.View.{holding, holding_both}
use Rattle.consumer.specs.View as consumer
use Rattle.consumer.specs.State.{State}
use Rattle.consumer.specs.declared.Consumer.{Consumer}
use Rattle.consumer.proofs.CallsClaim.{claim-refused, claim-granted, table-passed}
use Rattle.consumer.proofs.CallsToken.{ack-refused, ack-shed, ack-settled, nack-refused, nack_exhausted, nack-due, nack-passed, nack_requeued, progress-refused, progress-is}
use Rattle.consumer.proofs.CallsCommit.{is_unpermitted, is_unchanged, is_open, commit-done}
use Rattle.consumer_words.specs.Layout.{CURSOR, TABLE, MAX-DELIVER, WORDS, settled_in, leases_in, consumer_in, view, Sound}
use Rattle.consumer_words.specs.InWords.{Answers, Commits}

-- ## the parts
-- as they are lent
abbrev pub cursor_part : List ℕ → List ℕ
cursor_part w = take cursors.WORDS (drop CURSOR w)

abbrev pub table_part : List ℕ → List ℕ
table_part w = take leases.WORDS (drop TABLE w)

pub cursor-part : (w : List ℕ) → cursor_part w ≡ settled_in w
cursor-part w = column-is CURSOR cursors.WORDS w

pub table-part : (w : List ℕ) → table_part w ≡ leases_in w
table-part w = column-is TABLE leases.WORDS w

cursor-sound : {w : List ℕ} → Sound w → cursors.Sound (settled_in w)
cursor-sound {w} ok = let l = ok.long in record { long = column-length CURSOR cursors.WORDS w (omega arith); cursor = ok.state.cursor }

pub lent-cursor : {w : List ℕ} → Sound w → cursors.Sound (cursor_part w)
lent-cursor {w} ok = subst cursors.Sound (sym (cursor-part w)) (cursor-sound ok)

pub leases-sound : {w : List ℕ} → Sound w → leases.Sound (leases_in w)
leases-sound {w} ok = let l = ok.long in record { long = column-length TABLE leases.WORDS w (omega arith); table = ok.state.table; fits = ok.fits }

pub lent-table : {w : List ℕ} → Sound w → leases.Sound (table_part w)
lent-table {w} ok = subst leases.Sound (sym (table-part w)) (leases-sound ok)

-- ## what is lent comes back
-- another table among the words is another table of the consumer, and another cursor another cursor
spliced-table : (w : List ℕ) → length w ≡ WORDS → (t : List ℕ) → length t ≡ leases.WORDS → consumer_in (spliced TABLE leases.WORDS t w) ≡ holding (consumer_in w) (table_in t)
spliced-table w l t e =
    let room : TABLE + leases.WORDS ≤ length w = omega arith in
    simp (column-spliced TABLE leases.WORDS w t room e, column-beside TABLE leases.WORDS, word-beside TABLE leases.WORDS)

spliced-cursor : (w : List ℕ) → length w ≡ WORDS → (k : List ℕ) → length k ≡ cursors.WORDS → consumer_in (spliced CURSOR cursors.WORDS k w) ≡ holding_both (consumer_in w) (cursor_in k) (consumer_in w).table
spliced-cursor w l k e =
    let room : CURSOR + cursors.WORDS ≤ length w = omega arith in
    simp (column-spliced CURSOR cursors.WORDS w k room e, column-beside CURSOR cursors.WORDS, word-beside CURSOR cursors.WORDS)

-- ## a call on the table alone
-- what is said of its words is said of it
kept_table : {A : Type 0} (outcome : Result A) (t t' : List ℕ) → Kept outcome t t' → Kept outcome (table_in t) (table_in t')
kept_table (refused r) t t' e = ap table_in e
kept_table (done a) t t' e = tt

on-table : {A : Type 0} (outcome : Result A) {t t' : List ℕ} {right : Answer A Table} → lent.Answers outcome t t' right → lease.Answers outcome (table_in t) (table_in t') right
on-table outcome {t} {t'} a = record { is = a.is; sound = a.sound.table; kept = kept_table outcome t t' a.kept }

module _ {w : List ℕ} (ok : Sound w) (t : List ℕ) (l : length t ≡ length (table_part w)) where
  abbrev tabled : List ℕ
  tabled = put_mid TABLE leases.WORDS w t

  long-table : length t ≡ leases.WORDS
  long-table = l ∙ ap length (table-part w) ∙ (leases-sound ok).long

  table-shows : consumer_in tabled ≡ holding (consumer_in w) (table_in t)
  table-shows = ap consumer_in (spliced-is TABLE leases.WORDS w t) ∙ spliced-table w ok.long t long-table

  -- the same words of the table are the same words
  table_same : t ≡ leases_in w → tabled ≡ w
  table_same e = ap (put_mid TABLE leases.WORDS w) (e ∙ sym (table-part w)) ∙ put_same TABLE leases.WORDS w

  kept_words : {A : Type 0} (a : Result A) → Kept a (leases_in w) t → Kept a w tabled
  kept_words (refused r) e = table_same e
  kept_words (done b) e = tt

  table-came-back : {A : Type 0} (a : Result A) {right : Answer A State} → leases.Sound t → Kept a (leases_in w) t
      → consumer.Answers a (consumer_in w) (holding (consumer_in w) (table_in t)) right → Answers a w tabled right
  table-came-back a s k law =
      record {
        is = ap (λ (x : Consumer). answer a (consumer.view x)) table-shows ∙ law.is;
        sound = record { long = same_len_mid TABLE leases.WORDS w t l ∙ ok.long; state = subst consumer.Sound (sym table-shows) law.sound; fits = subst (λ (x : Consumer). Fits x.table) (sym table-shows) s.fits };
        kept = kept_words a k;
      }

-- ## a claim
-- a worker that may claim is one of the eight
pub known-worker : (s : State) (wk o now : ℕ) → Passed (claim_table s wk o now) → wk < WORKERS
known-worker s wk o now p = leb-false WORKERS wk p.0

module _ {w : List ℕ} (ok : Sound w) (wk o now : ℕ) where
  pub refused_so : (r : Refusal) → some r ≡ first (claim_table (view w) wk o now) → Answers (refused r) w w (claim (view w) wk o now)
  refused_so r e = record { is = (claim-refused (consumer_in w) ok.state wk o now r e).is; sound = ok; kept = refl }

  module _ (fits : o ≤ MAX) (p : Passed (claim_table (view w) wk o now)) where
    -- the table's own tests failed too
    pub lent-passed : Passed (operations.claim_rows (leases.view (table_part w)) o now)
    lent-passed =
        subst (λ (x : List ℕ). Passed (operations.claim_rows (leases.view x) o now)) (sym (table-part w)) (table-passed (consumer_in w) ok.state wk o now fits p)

    pub granted_so : (g : Grant) (t : List ℕ) → length t ≡ length (table_part w) → lent.Answers (done g) (table_part w) t (operations.claim (leases.view (table_part w)) wk o now)
        → (a : Result HandOut) → a ≡ handed_out (word MAX-DELIVER w) (done g) → Answers a w (put_mid TABLE leases.WORDS w t) (claim (view w) wk o now)
    granted_so g t l e a f =
        let granted = subst (λ (x : List ℕ). lent.Answers (done g) x t (operations.claim (leases.view x) wk o now)) (table-part w) e in
        table-came-back ok t l a granted.sound (rw f tt)
        (claim-granted (consumer_in w) ok.state wk o now fits p (done g) (table_in t) (on-table (done g) granted) a f)

-- 27: the offset has no lease, so that there is no room where there are 64
pub no-lease-room : (t : Table) (o : ℕ) (r : Bool) → lease_of t o ≡ none → r ≡ (is_none (lease_of t o) && leb LEASES (length t.leases)) → r ≡ leb LEASES (length t.leases)
no-lease-room t o r e q = q ∙ ap (λ (x : Option Lease). is_none x && leb LEASES (length t.leases)) e

-- ## Nack
module _ {w : List ℕ} (ok : Sound w) (wk o g now : ℕ) (explicit : Option ℕ) where
  pub nack-refused_so : (r : Refusal) → first (token_rows (view w) wk nacking o g) ≡ some r → Answers (refused r) w w (nack (view w) wk o g now explicit)
  nack-refused_so r e = record { is = (nack-refused (consumer_in w) ok.state wk o g now explicit r e).is; sound = ok; kept = refl }

  module _ (owned : Passed (token_rows (view w) wk nacking o g)) where
    pub exhausted_so : (view w).table.next_generation ≡ MAX → Answers (refused Exhausted) w w (nack (view w) wk o g now explicit)
    exhausted_so h = record { is = (nack_exhausted (consumer_in w) ok.state wk o g now explicit owned h).is; sound = ok; kept = refl }

    module _ (left : (view w).table.next_generation ≡ MAX → ⊥) where
      pub due_so : (view w).ceiling ≤ (view w).table.next_generation → Answers (refused CheckpointDue) w w (nack (view w) wk o g now explicit)
      due_so h = record { is = (nack-due (consumer_in w) ok.state wk o g now explicit owned left h).is; sound = ok; kept = refl }

      pub requeued_so : (view w).table.next_generation < (view w).ceiling → {at : ℕ} → OwnedIn o g (leases_in w) (Some at)
          → (delay : ℕ) → sat64 now delay ≡ nack_deadline (view w) o now explicit
          → (deadline : ℕ) (t : List ℕ) → length t ≡ length (table_part w) → AnswersOwned at (done deadline) (table_part w) t (λ t o g. operations.nack t o g now delay)
          → Answers (done deadline) w (put_mid TABLE leases.WORDS w t) (nack (view w) wk o g now explicit)
      requeued_so below {at} p delay waits deadline t l requeues =
          let c = consumer_in w in
          let e = subst (λ (x : List ℕ). AnswersOwned at (done deadline) x t (λ t o g. operations.nack t o g now delay)) (table-part w) requeues o g p in
          table-came-back ok t l (done deadline) e.sound tt
          (nack_requeued c ok.state wk o g now (attempt_of (view w) o) explicit (nack-passed c ok.state wk o g now explicit owned left below) refl (nack_delay (view w) o explicit) refl delay waits
          (done deadline) (table_in t) (on-table (done deadline) e))

-- ## Progress
module _ {w : List ℕ} (ok : Sound w) (wk o g now : ℕ) where
  pub progress-refused_so : (r : Refusal) → first (token_rows (view w) wk extending o g) ≡ some r → Answers (refused r) w w (progress (view w) wk o g now)
  progress-refused_so r e = record { is = (progress-refused (consumer_in w) ok.state wk o g now r e).is; sound = ok; kept = refl }

  pub progress_so : Passed (token_rows (view w) wk extending o g) → {at : ℕ} → OwnedIn o g (leases_in w) (Some at) → (outcome : Result ℕ) (t : List ℕ) → length t ≡ length (table_part w)
      → AnswersOwned at outcome (table_part w) t (λ t o g. operations.extend t o g now) → Answers outcome w (put_mid TABLE leases.WORDS w t) (progress (view w) wk o g now)
  progress_so owned {at} p outcome t l extends =
      let e = subst (λ (x : List ℕ). AnswersOwned at outcome x t (λ t o g. operations.extend t o g now)) (table-part w) extends o g p in
      table-came-back ok t l outcome e.sound e.kept
      (progress-is (consumer_in w) ok.state wk o g now owned outcome (table_in t) (on-table outcome e))

-- ## a cursor that came back, and then a table
module _ {w : List ℕ} (ok : Sound w) (k : List ℕ) (l : length k ≡ length (cursor_part w)) where
  abbrev moved : List ℕ
  moved = put_mid CURSOR cursors.WORDS w k

  long-cursor : length k ≡ cursors.WORDS
  long-cursor = l ∙ ap length (cursor-part w) ∙ (cursor-sound ok).long

  -- the same words of the cursor are the same words
  cursor-same : k ≡ settled_in w → moved ≡ w
  cursor-same e = ap (put_mid CURSOR cursors.WORDS w) (e ∙ sym (cursor-part w)) ∙ put_same CURSOR cursors.WORDS w

  -- the table, beside the cursor
  pub table_kept : table_part moved ≡ leases_in w
  table_kept =
      let room = ok.long in
      ap table_part (spliced-is CURSOR cursors.WORDS w k) ∙ column-is TABLE leases.WORDS (spliced CURSOR cursors.WORDS k w)
      ∙ column-beside CURSOR cursors.WORDS TABLE leases.WORDS refl w k (omega arith) long-cursor

  pub table-sound : leases.Sound (table_part moved)
  table-sound = subst leases.Sound (sym table_kept) (leases-sound ok)

  module _ (t : List ℕ) (m : length t ≡ length (table_part moved)) where
    abbrev after : List ℕ
    after = put_mid TABLE leases.WORDS moved t

    both_show : consumer_in after ≡ holding_both (consumer_in w) (cursor_in k) (table_in t)
    both_show =
        let w1 = spliced CURSOR cursors.WORDS k w in
        let room = ok.long in
        let l1 : length w1 ≡ WORDS = spliced-length CURSOR cursors.WORDS w k (omega arith) long-cursor ∙ ok.long in
        ap (λ (x : List ℕ). consumer_in (put_mid TABLE leases.WORDS x t)) (spliced-is CURSOR cursors.WORDS w k)
        ∙ ap consumer_in (spliced-is TABLE leases.WORDS w1 t)
        ∙ spliced-table w1 l1 t (m ∙ ap length table_kept ∙ (leases-sound ok).long)
        ∙ ap (λ (x : Consumer). holding x (table_in t)) (spliced-cursor w ok.long k long-cursor)

    both-sound : leases.Sound t → consumer.Sound (holding_both (consumer_in w) (cursor_in k) (table_in t)) → Sound after
    both-sound fit s =
        record {
          long = same_len_mid TABLE leases.WORDS moved t m ∙ same_len_mid CURSOR cursors.WORDS w k l ∙ ok.long;
          state = subst consumer.Sound (sym both_show) s;
          fits = subst (λ (x : Consumer). Fits x.table) (sym both_show) fit.fits;
        }

-- what is said of the cursor's words is said of the cursor
kept-cursor : (noted : Result Bool) (v k : List ℕ) → KeptUnlessNew noted v k → cursor.KeptUnlessNew noted (cursor_in v) (cursor_in k)
kept-cursor (refused r) v k e = ap cursor_in e
kept-cursor (done true) v k e = tt
kept-cursor (done false) v k e = ap cursor_in e

on-cursor : (noted : Result Bool) (v k : List ℕ) {right : Answer Bool Cursor} → Updated noted v k right → cursor.Updated (cursor_in v) noted (cursor_in k) right
on-cursor noted v k u = record { is = u.is; sound = u.sound.cursor; kept = kept-cursor noted v k u.kept }

-- ## an ack
kept-shed : (noted : Result Bool) (v k : List ℕ) → is_shed noted ≡ true → KeptUnlessNew noted v k → k ≡ v
kept-shed (refused r) v k h e = e
kept-shed (done b) v k h e = absurd (true≢false (sym h))

module _ {w : List ℕ} (ok : Sound w) (wk o g : ℕ) where
  pub token-refused_so : (r : Refusal) → first (token_rows (view w) wk settling o g) ≡ some r → Answers (refused r) w w (ack (view w) wk o g)
  token-refused_so r e = record { is = (ack-refused (consumer_in w) ok.state wk o g r e).is; sound = ok; kept = refl }

  module _ (owned : Passed (token_rows (view w) wk settling o g)) (noted : Result Bool) (k : List ℕ) (l : length k ≡ length (cursor_part w))
      (u : Updated noted (cursor_part w) k (ackBounded (cursors.view (cursor_part w)) o RANGES)) where
    noted_so : Updated noted (settled_in w) k (ackBounded (view w).cursor o RANGES)
    noted_so = subst (λ (x : List ℕ). Updated noted x k (ackBounded (cursors.view x) o RANGES)) (cursor-part w) u

    pub shed_so : is_shed noted ≡ true → Answers (refused Shed) w (put_mid CURSOR cursors.WORDS w k) (ack (view w) wk o g)
    shed_so s =
        let same : k ≡ settled_in w = kept-shed noted (settled_in w) k s noted_so.kept in
        let v = subst (λ (x : List ℕ). Updated noted (settled_in w) x (ackBounded (view w).cursor o RANGES)) same noted_so in
        let law = ack-shed (consumer_in w) ok.state wk o g owned noted (cursor_in (settled_in w)) (on-cursor noted (settled_in w) (settled_in w) v) s in
        subst (λ (x : List ℕ). Answers (refused Shed) w x (ack (view w) wk o g)) (sym (cursor-same ok k l same)) (record { is = law.is; sound = ok; kept = refl })

    pub settled_so : is_shed noted ≡ false → {at : ℕ} → OwnedIn o g (leases_in w) (Some at)
        → (t : List ℕ) → length t ≡ length (table_part (put_mid CURSOR cursors.WORDS w k)) → AnswersOwned at (done tt) (table_part (put_mid CURSOR cursors.WORDS w k)) t operations.ack
        → Answers (done tt) w (put_mid TABLE leases.WORDS (put_mid CURSOR cursors.WORDS w k) t) (ack (view w) wk o g)
    settled_so s {at} p t m acks =
        let a = subst (λ (x : List ℕ). AnswersOwned at (done tt) x t operations.ack) (table_kept ok k l) acks o g p in
        let law = ack-settled (consumer_in w) ok.state wk o g owned noted (cursor_in k) (on-cursor noted (settled_in w) k noted_so) s (done tt) (table_in t) (on-table (done tt) a) in
        record {
          is = ap (λ (x : Consumer). answer (done tt) (consumer.view x)) (both_show ok k l t m) ∙ law.is;
          sound = both-sound ok k l t m a.sound law.sound;
          kept = tt;
        }

-- ## a commit
-- whether the bound is above committed, from what the cursor answers
moves : (c : Cursor) (bound : ℕ) (b : Bool) {after : Cursor} → answer (done b) after ≡ commit_up_to c bound → b ≡ cond (leb bound c.committed) false true
unfolding commit_up_to
moves c bound b e =
    split (leb bound c.committed)
    (λ q. rw q (done-is (ap (λ (a : Answer Bool Cursor). a.outcome) (rw q at e))))
    (λ q. rw q (done-is (ap (λ (a : Answer Bool Cursor). a.outcome) (rw q at e))))
  where
    done-is : {x y : Bool} → ◌≡◌ {A = Result Bool} (done x) (done y) → x ≡ y
    done-is d = cc

module _ {w : List ℕ} (ok : Sound w) (wk bound : ℕ) where
  pub unpermitted_so : (r : Refusal) → some r ≡ first (call_rows (view w) wk committing) → Commits (refused r) w w (commit (view w) wk bound)
  unpermitted_so r e = record { is = is_unpermitted (view w) wk bound r e; sound = ok; kept = refl }

  module _ (may : none ≡ first (call_rows (view w) wk committing)) (moved : Bool) (k : List ℕ) (l : length k ≡ length (cursor_part w))
      (u : Updated (done moved) (cursor_part w) k (commit_up_to (cursors.view (cursor_part w)) bound)) where
    moved_so : Updated (done moved) (settled_in w) k (commit_up_to (view w).cursor bound)
    moved_so = subst (λ (x : List ℕ). Updated (done moved) x k (commit_up_to (cursors.view x) bound)) (cursor-part w) u

    above : moved ≡ cond (leb bound (view w).cursor.committed) false true
    above = moves (view w).cursor bound moved moved_so.is

    pub unchanged_so : moved ≡ false → Commits (done false) w (put_mid CURSOR cursors.WORDS w k) (commit (view w) wk bound)
    unchanged_so f =
        let same : k ≡ settled_in w = subst (λ (b : Bool). KeptUnlessNew (done b) (settled_in w) k) f moved_so.kept in
        let low = split (leb bound (view w).cursor.committed) (λ q. leb-true bound (view w).cursor.committed q) (λ q. absurd (true≢false (sym (rw q at above) ∙ f))) in
        subst (λ (x : List ℕ). Commits (done false) w x (commit (view w) wk bound)) (sym (cursor-same ok k l same))
        (record { is = is_unchanged (view w) wk bound may low; sound = ok; kept = refl })

    pub committed_so : moved ≡ true → bound ≤ MAX → (t : List ℕ) → length t ≡ length (table_part (put_mid CURSOR cursors.WORDS w k))
        → lent.Becomes t (release_below (leases.view (table_part (put_mid CURSOR cursors.WORDS w k))) bound)
        → Commits (done true) w (put_mid TABLE leases.WORDS (put_mid CURSOR cursors.WORDS w k) t) (commit (view w) wk bound)
    committed_so y fits t m becomes =
        let b = subst (λ (x : List ℕ). lent.Becomes t (release_below (leases.view x) bound)) (table_kept ok k l) becomes in
        let high = split (leb bound (view w).cursor.committed) (λ q. absurd (true≢false (sym y ∙ rw q at above))) (λ q. leb-false bound (view w).cursor.committed q) in
        let law =
        commit-done (consumer_in w) ok.state (commit (view w) wk bound) bound (is_open (view w) wk bound may high) fits (done moved) (cursor_in k) (on-cursor (done moved) (settled_in w) k moved_so) (table_in t)
        (record { is = b.is; sound = b.sound.table }) in
        record {
          is = ap (λ (x : Consumer). answer (done true) (consumer.view x)) (both_show ok k l t m) ∙ law.is;
          sound = both-sound ok k l t m b.sound law.sound;
          kept = tt;
        }
