-- A restart and an import from their tests to their answer: the last group of the walk lies in the area, what each end of the walk is
-- answered with, and that the consumer which goes on is sound. Assumes nothing.
use Prim.Native.Nat.{ℕ, ◌+◌, ◌≤◌, min}
use native.Mathlib.Omega.{arith}
use mathlib.Core.Path.{◌≡◌, refl, sym, ap, subst, ◌∙◌}
use mathlib.Core.Bool.{Bool, true, false}
use mathlib.Core.List.{List}
use mathlib.Core.Option.{none, some, none-ne-some}
use Rattle.std.specs.Prelude.{Some, None, Ok, Err}
use Rattle.std.specs.Prelude as std
use lib.ListN.{length}
use Rattle.types.specs.Limits.{LEASES, MAX}
use Rattle.types.specs.Refusal.{Result, refused, done}
use Rattle.types.specs.Refused.{refusal_of, result_of, option_of}
use Rattle.types.specs.declared.refusals.Refusal as code
use Rattle.types.specs.declared.refusals.Refusal.TheVariants.{Damaged}
use Rattle.types.specs.Table.{first, Passed, checked}
use Rattle.types.proofs.Table.{first_none, checked-passed, checked-done, checked_refused}
use Rattle.tables.specs.Slots.{Permutes}
use Rattle.raw.specs.Bytes.{IsBytes}
use Rattle.cursor.specs.Snapshot.{decode_cursor}
use Rattle.attempt.specs.Snapshot.{decode_attempts}
use Rattle.journal.specs.Area.{bad_length, blocks, block_at}
use Rattle.journal.specs.Answers.{stop_of, walk_in}
use Rattle.journal.specs.Blocks.{bodies_for, payload_length}
use Rattle.journal.specs.Walks.{stop, header_behind}
use Rattle.journal.specs.Walks as Walks
use Rattle.journal.specs.declared.Stop.{Stop}
use Rattle.journal.proofs.Area.{says-inside, whole_says}
use Rattle.journal.proofs.Sound.{Header}
use Rattle.journal.proofs.Walks.{LastIs, at_once, behind, walk-ended}
use Rattle.consumer.specs.State.{State, next_group_at}
use Rattle.consumer.specs.State as state
use Rattle.consumer.specs.Valid.{Fits, Valid}
use Rattle.consumer.specs.View.{view, Sound}
use Rattle.consumer.specs.declared.Configuration.{Configuration}
use Rattle.consumer.specs.declared.NextGroup.{NextGroup}
use Rattle.consumer.specs.declared.Consumer.{Consumer}
use Rattle.consumer.proofs.Area.{area-taken}
use Rattle.starts.specs.Restart.{start_table, fresh, from_snapshots, read_group, origin, limit, walk_of, end_table, last_group, from_walk, restart}
use Rattle.starts.specs.Import.{import}
use Rattle.starts.specs.Starting.{configuration_of, kept_of, next_group_of, FreshIs, StartedIs, Lies, StopIs}
use Rattle.starts.specs.Parts.{fresh_numbers, Columns, state_by, OnNumbers, Measured, ReadIs, going_on, ResumedIn, RestartedIn, ImportedIn}
use Rattle.starts.specs.declared.in_place.RestartedAt.{RestartedAt}
use Rattle.starts.proofs.Halves.{limit-within}
use Rattle.starts.proofs.Valid.{restart-valid, import-valid}
use Rattle.starts.proofs.Parts.{fresh-read, refused-read, read_as}
use Rattle.starts.proofs.Starting.{same-configuration, kept_open, settings-sound}

-- ## The last group of a walk
module _ (a : List ℕ) where
  -- its header is sound, so its bodies lie in the area, and its lengths are those that a header may have
  last-lies : (i k e : ℕ) → bad_length (length a) ≡ false → walk_of a ≡ stop (some i) k e → Lies a i
  last-lies i k e area w = go (walk-ended a (limit a) none (origin a).number (origin a).block (some i) k e w).last-is
    where
      lies : (m : ℕ) → Header (limit a) m i (block_at a i) → Lies a i
      lies m h =
          record {
            inside =
                says-inside (length a) (i + bodies_for (payload_length (block_at a i)))
                (record { area = whole_says (length a) area; fits = omega (arith, h.fits, h.form.count, limit-within a) });
            cursor = h.form.lengths.cursor_high;
            attempts = h.form.lengths.attempt_high;
          }

      go : LastIs a (limit a) none (origin a).number (origin a).block (some i) k e → Lies a i
      go (at_once p q r) = absurd (none-ne-some i (sym p))
      go (behind h m p q r s g) = let same : h ≡ i = cc in lies m (rw same at g.header)

  pub stopped-lies : (s : Stop) (i : ℕ) → StopIs a s → s.last ≡ Some i → Lies a i
  stopped-lies s i h p = last-lies i s.number s.block h.area (sym h.is ∙ rw p)

-- ## What each end of the walk is answered with
module _ (a : List ℕ) (s : Stop) where
  abbrev right : state.Configuration → Result State
  right k = from_walk k a (done (stop_of s))

  pub end-refused : (r : code.Refusal) → refused (refusal_of r) ≡ checked (end_table a (stop_of s)) (done (tt {0})) → (p : Columns) → ReadIs right (length a) (Err r) p p
  unfolding from_walk
  end-refused r e p = refused-read right (length a) r p (λ k. sym (checked_refused (end_table a (stop_of s)) tt _ (refusal_of r) (sym e)))

  module _ (e : done (tt {0}) ≡ checked (end_table a (stop_of s)) (done (tt {0}))) where
    abbrev last_from : state.Configuration → std.Option ℕ → Result State
    last_from k l = last_group k a (option_of (λ n. n) l) (next_group_at s.number s.block)

    whole : (k : state.Configuration) → last_from k s.last ≡ right k
    unfolding from_walk
    whole k = sym (checked-passed (end_table a (stop_of s)) _ (checked-done (end_table a (stop_of s)) tt tt (sym e)).0)

    pub none-read : s.last ≡ None → (p : Columns) → ReadIs right (length a) (Ok fresh_numbers) p p
    none-read q p = fresh-read right (length a) p (λ k. ap (last_from k) (sym q) ∙ whole k)

    pub last-read : (i : ℕ) → s.last ≡ Some i → (r : std.Result RestartedAt code.Refusal) (p p' : Columns)
        → ReadIs (λ k. read_group k a i (next_group_at s.number s.block)) (length a) r p p' → ReadIs right (length a) r p p'
    last-read i q = read_as (λ k. read_group k a i (next_group_at s.number s.block)) (length a) right (λ k. ap (last_from k) (sym q) ∙ whole k)

-- ## The tests, and whatever goes on behind them
module _ (s : Configuration) (size : ℕ) where
  pub tests-refused : (r : code.Refusal) → some (refusal_of r) ≡ first (start_table (configuration_of s) size) → (x : Result State) (p : Columns)
      → ResumedIn (checked (start_table (configuration_of s) size) x) s size (Err r) p p
  tests-refused r e x p = record { is = λ c. rw (← e); sound = λ c free. tt; kept = refl }

  module _ (e : none ≡ first (start_table (configuration_of s) size)) (full : length s.settings.delivery.backoff_nanos ≡ 16) (f : Fits (configuration_of s).settings) where
    pub passed : Passed (start_table (configuration_of s) size)
    passed = first_none (start_table (configuration_of s) size) (sym e)

    -- what was read is of the configuration as it is kept, which is the one that was handed in
    pub tests-passed : (right : state.Configuration → Result State) (r : std.Result RestartedAt code.Refusal) (p p' : Columns) → ReadIs right size r p p'
        → ((t : State) → checked (start_table (configuration_of s) size) (right (configuration_of s)) ≡ done t → Valid t)
        → ResumedIn (checked (start_table (configuration_of s) size) (right (configuration_of s))) s size r p p'
    tests-passed right r p p' i valid = record { is = λ c. is; sound = λ c free. go r is i.measured c free; kept = i.kept }
      where
        whole : checked (start_table (configuration_of s) size) (right (configuration_of s)) ≡ right (kept_of s)
        whole = rw (sym e) (ap right (same-configuration s size full f passed))

        is : result_of (λ n. state_by (kept_of s) size n p') r ≡ checked (start_table (configuration_of s) size) (right (configuration_of s))
        is = i.is (kept_of s) ∙ sym whole

        go : (q : std.Result RestartedAt code.Refusal)
            → result_of (λ n. state_by (kept_of s) size n p') q ≡ checked (start_table (configuration_of s) size) (right (configuration_of s))
            → OnNumbers (Measured p') q → (c : Consumer) → Permutes LEASES c.table.slots → OnNumbers (λ n. Sound (going_on s size n p' c)) q
        go (Err x) y m c free = tt
        go (Ok n) y m c free =
            let v = valid (state_by (kept_of s) size n p') (sym y) in
            record {
              cursor = m.cursor;
              table = record { len = omega arith; carried-len = m.few; slots = free; valid = v.table };
              settings = settings-sound s size full f passed s.settings refl;
              valid = v;
            }

-- ## The whole
module _ (s : Configuration) (a : List ℕ) where
  pub restart-refused : (r : code.Refusal) → some (refusal_of r) ≡ first (start_table (configuration_of s) (length a)) → (p : Columns) → RestartedIn s a (Err r) p p
  unfolding restart
  restart-refused r e p = tests-refused s (length a) r e (from_walk (configuration_of s) a (walk_of a)) p

  module _ (e : none ≡ first (start_table (configuration_of s) (length a))) (full : length s.settings.delivery.backoff_nanos ≡ 16) (f : Fits (configuration_of s).settings) where
    area-good : bad_length (length a) ≡ false
    area-good = area-taken (length a) (kept_open s (length a) full f (passed s (length a) e full f)).area

    walked_whole : (from : NextGroup) → next_group_of from ≡ origin a → (hi : ℕ) → hi ≡ limit a
        → (w : Result Walks.Stop) → w ≡ walk_in hi from.number from.block a → w ≡ walk_of a
    unfolding walk_in
    walked_whole from begins hi whole w h =
        let all : min hi (blocks a) ≡ limit a = omega (arith, whole, limit-within a) in
        rw (area-good, all, ap (λ (x : state.NextGroup). x.number) begins, ap (λ (x : state.NextGroup). x.block) begins) at h

    pub walk-stopped : (from : NextGroup) → next_group_of from ≡ origin a → (hi : ℕ) → hi ≡ limit a
        → (w : Stop) → done (stop_of w) ≡ walk_in hi from.number from.block a → StopIs a w
    walk-stopped from begins hi whole w h = record { area = area-good; is = walked_whole from begins hi whole (done (stop_of w)) h }

    read-whole : IsBytes a → (r : std.Result RestartedAt code.Refusal) (p p' : Columns)
        → ReadIs (λ k. from_walk k a (walk_of a)) (length a) r p p' → RestartedIn s a r p p'
    unfolding restart
    read-whole bytes r p p' i =
        tests-passed s (length a) e full f (λ k. from_walk k a (walk_of a)) r p p' i (λ t x. restart-valid (configuration_of s) a t bytes x f)

    pub walk-refused : IsBytes a → (from : NextGroup) → next_group_of from ≡ origin a → (hi : ℕ) → hi ≡ limit a
        → (r : code.Refusal) → refused (refusal_of r) ≡ walk_in hi from.number from.block a → (p : Columns) → RestartedIn s a (Err r) p p
    unfolding from_walk
    walk-refused bytes from begins hi whole r h p =
        let w : refused (refusal_of r) ≡ walk_of a = walked_whole from begins hi whole (refused (refusal_of r)) h in
        read-whole bytes (Err r) p p (refused-read (λ k. from_walk k a (walk_of a)) (length a) r p (λ k. rw (← w)))

    pub restarted : IsBytes a → (w : Stop) → StopIs a w → (r : std.Result RestartedAt code.Refusal) (p p' : Columns)
        → ReadIs (λ k. from_walk k a (done (stop_of w))) (length a) r p p' → RestartedIn s a r p p'
    restarted bytes w h r p p' i =
        read-whole bytes r p p' (read_as (λ k. from_walk k a (done (stop_of w))) (length a) (λ k. from_walk k a (walk_of a)) (λ k. rw h.is) r p p' i)

module _ (s : Configuration) (size g : ℕ) (cb ab : List ℕ) where
  abbrev goes_on : state.Configuration → Result State
  goes_on k = from_snapshots k size (decode_cursor cb) (decode_attempts ab) g (next_group_at 1 0)

  pub import-refused : (r : code.Refusal) → some (refusal_of r) ≡ first (start_table (configuration_of s) size) → (p : Columns) → ImportedIn s size g cb ab (Err r) p p
  unfolding import
  import-refused r e p = tests-refused s size r e (goes_on (configuration_of s)) p

  pub imported : none ≡ first (start_table (configuration_of s) size) → length s.settings.delivery.backoff_nanos ≡ 16 → Fits (configuration_of s).settings
      → g ≤ MAX → IsBytes cb → IsBytes ab → (r : std.Result RestartedAt code.Refusal) (p p' : Columns) → ReadIs goes_on size r p p'
      → ImportedIn s size g cb ab r p p'
  unfolding import
  imported e full f fits hb ha r p p' i =
      tests-passed s size e full f goes_on r p p' i (λ t x. import-valid (configuration_of s) size g cb ab t fits hb ha x f)

-- by value
module _ (right : Result State) (s : Configuration) (size : ℕ) (r : std.Result RestartedAt code.Refusal) (p p' : Columns) (h : ResumedIn right s size r p p') where
  pub refused-value : (x : code.Refusal) → r ≡ Err x → (c : Consumer) → FreshIs s size c → StartedIs s size right (record { answer = Err x; consumer = c })
  refused-value x q c i =
      let w : refused (refusal_of x) ≡ right = rw q at (h.is c) in
      record { is = w; beside = rw (← w) i.is }

  pub resumed-value : (n : RestartedAt) → r ≡ Ok n → (c : Consumer) → c ≡ going_on s size n p' c → Permutes LEASES c.table.slots
      → StartedIs s size right (record { answer = Ok tt; consumer = c })
  resumed-value n q c e free =
      let is : done (view c) ≡ right = subst (λ (x : Consumer). done (view x) ≡ right) (sym e) (rw q at (h.is c)) in
      record { is = is; beside = rw (← is) (subst Sound (sym e) (rw q at (h.sound c free))) }
