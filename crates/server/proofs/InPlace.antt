-- Calls in place, in numbers: from what the consumer's and the checkpoint's functions say of the parts of a machine. Assumes nothing.
use Prim.Native.Nat.{ℕ, zero, suc}
use native.Mathlib.Omega.{arith}
use mathlib.Core.Path.{◌≡◌, refl, ap, subst, ◌∙◌}
use borrow.Author.Rules.{rules}
use mathlib.Core.Bool.{true}
use mathlib.Core.List.{List}
use lib.ListN.{length}
use Rattle.types.specs.Limits.{LEASES}
use Rattle.std.specs.Prelude.{Ok, Err}
use Rattle.std.specs.Prelude as std
use Rattle.types.specs.Refusal as refusal
use Rattle.types.specs.Refused.{refusal_of, as_is}
use Rattle.types.specs.declared.refusals.Refusal as code_refusal
use Rattle.tables.specs.Slots.{Permutes}
use Rattle.cursor.specs.View.{ack_cursor}
use Rattle.lease.specs.Parts.{gathered}
use Rattle.consumer.specs.Calls as consumer
use Rattle.consumer.specs.Parts.{Whole}
use Rattle.consumer.specs.View.{view, Answers}
use Rattle.consumer.specs.declared.Configuration.{Configuration}
use Rattle.consumer.specs.declared.Consumer.{Consumer}
use Rattle.checkpoint.specs.Parts.{Lent, BegunAs}
use Rattle.checkpoint.specs.Writing.{SoundWriting, SteppedIs, step_of}
use Rattle.checkpoint.specs.declared.Writing.{Writing}
use Rattle.checkpoint.specs.declared.Stepped.{Stepped}
use Rattle.starts.specs.Parts.{Columns, columns, going_on, RestartedIn}
use Rattle.starts.specs.declared.in_place.RestartedAt.{RestartedAt}
use Rattle.machine.specs.Calls.{progress, begin, step, restart, u64, progressed}
use Rattle.machine.specs.Transitions.{answered_as}
use Rattle.machine.specs.View.{SoundAt, Sound, Stands, phaseAfter}
use Rattle.machine.specs.declared.Machine.{Machine}
use Rattle.machine.specs.Parts.{consumer_of, left, Ready}
use Rattle.machine.specs.declared.in_place.Fixed.{Fixed}
use Rattle.machine.specs.declared.in_place.Figures.{Figures}
use Rattle.machine.specs.declared.calls.AskAnswer.TheVariants as asks
use Rattle.machine.specs.declared.calls.CallAnswer.TheVariants as calls
use Rattle.machine.proofs.Transitions.{not_begun, not_stepped, begin-refused, begin-done, step-called, restart-kept, restart-made}
use Rattle.answers.specs.Numbers.{numbers_of, not_now, no_values, one_value, wrote_values}
use Rattle.answers.specs.declared.Numbers.{Numbers}
use Rattle.server.specs.Transitions.{AskedOn, CallIs}
use Rattle.server.specs.Parts.{machine_of, Askable, Lendable}
use Rattle.server.proofs.InNumbers.{idle-sound, idle-asked, ask-some, call-some}

-- ## a call on the state
-- the parts that the call is lent are ready for it, and the consumer is whole
pub whole : (k : ℕ) (x : Consumer) → k ≡ 0 → Askable k x → Whole x
whole k x e h = record { full = h.sized.table; sound = idle-sound k x e h.sound }

pub ready : (k : ℕ) (f : Fixed) (n : Figures) (starts ends ks slots gs ss ds ns ws cks cvs backoffs rights : List ℕ) (x : Consumer)
    → let y = consumer_of f n starts ends ks slots gs ss ds ns ws cks cvs backoffs rights x in k ≡ 0 → Askable k y → Ready f n starts ends ks slots gs ss ds ns ws cks cvs backoffs
ready k f n starts ends ks slots gs ss ds ns ws cks cvs backoffs rights x e h =
    let z = h.sized in
    let ok = idle-sound k _ e h.sound in
    record {
      cursor = record { starts = z.starts; ends = z.ends; sound = ok.cursor };
      table = record { full = z.table; sound = ok.table };
      schedule = record { full = z.backoffs; few = ok.settings.delivery.few };
      blocks = ok.valid.within;
    }

-- Progress, from what the consumer answers
pub progress-numbers : (k : ℕ) (x : Consumer) (w o g now : ℕ) (out : List ℕ) (y : Consumer) (a : std.Result ℕ code_refusal.Refusal) (n : Numbers) → k ≡ 0
    → Answers (as_is a) x y (consumer.progress (view x) w o g now) → n ≡ numbers_of (refusal.answered one_value (as_is a)) → AskedOn k x w 5 o g now 0 out n y out
progress-numbers k x w o g now out y a n e h same =
    idle-asked k x w 5 o g now 0 out n y out e
    (ask-some x w 5 o g now 0 out (progress o g now) (left (asks.Progressed a) y) out n refl
    (record { is = λ area. ap (answered_as area (progressed o g now)) h.is; sound = h.sound; kept = h.kept; lists = λ area. refl }) same)

-- ## begin
pub lent_of : (k : ℕ) (w : Writing) → k ≡ 0 → Lendable k w → Lent w.consumer
lent_of zero w e h =
    let z = h.sized in
    record {
      cursor = record { starts = z.starts; ends = z.ends; sound = h.sound.cursor };
      table = z.table;
      sound = h.sound;
    }
lent_of (suc k) w e h = absurd (omega arith)

module _ (s : Configuration) (k : ℕ) (w : Writing) (ok : SoundAt k w) (v : ℕ) (f : u64 v ≡ true) (a out : List ℕ) where
  pub begin-declined : (k ≡ 0 → ⊥) → CallIs (machine_of s k w) v 16 0 0 0 0 a out not_now (machine_of s k w) a out
  begin-declined h =
      call-some (machine_of s k w) v 16 0 0 0 0 a out (begin v) (record { answer = calls.NotNow; machine = machine_of s k w }) a out not_now refl
      (not_begun (machine_of s k w) ok a out v f h) refl

  module _ (e : k ≡ 0) (w' : Writing) (n : Numbers) where
    pub begun-done : (i : ℕ) → BegunAs (Ok i) v w w' → n ≡ numbers_of (refusal.answered one_value (as_is (Ok i))) → CallIs (machine_of s k w) v 16 0 0 0 0 a out n (machine_of s 1 w') a out
    begun-done i h same =
        call-some (machine_of s k w) v 16 0 0 0 0 a out (begin v) (record { answer = calls.Begun (Ok i); machine = machine_of s 1 w' }) a out n refl
        (begin-done (machine_of s k w) e a out ok v f (record { answer = Ok i; writing = w' }) h.begun i refl) same

    -- a refusal keeps the record
    pub begun-refused : (q : code_refusal.Refusal) → BegunAs (Err q) v w w' → n ≡ numbers_of (refusal.numbered (refusal_of q))
        → CallIs (machine_of s k w) v 16 0 0 0 0 a out n (machine_of s k w') a out
    begun-refused q h same =
        rw h.kept
        (call-some (machine_of s k w) v 16 0 0 0 0 a out (begin v) (record { answer = calls.Begun (Err q); machine = machine_of s k w }) a out n refl
        (begin-refused (machine_of s k w) e a out ok v f (record { answer = Err q; writing = w' }) h.begun q refl) same)

-- ## restart
-- the columns that a restart fills, and the machine with others in their places
abbrev pub columns_of : Machine → Columns
columns_of m =
    let c = m.writing.consumer in columns c.cursor.starts c.cursor.ends c.table.carried_offsets c.table.carried_counts

abbrev pub with_columns : Machine → Columns → Machine
with_columns m p =
    let c = m.writing.consumer in
    let t = c.table in
    record {
      configuration = m.configuration;
      phase = m.phase;
      writing =
          record {
            consumer =
                record {
                  cursor = ack_cursor c.cursor.committed p.starts p.ends c.cursor.runs;
                  table =
                      gathered t.config t.len t.carried_len t.next_generation.0 t.redeliveries_since_flush t.offsets t.slots t.generations t.attempt_starts t.deadlines
                      t.deliveries t.workers p.offsets p.counts;
                  ceiling = c.ceiling;
                  next = c.next;
                  area_len = c.area_len;
                  settings = c.settings;
                };
            written = m.writing.written;
            payload = m.writing.payload;
            cursor_len = m.writing.cursor_len;
            attempt_len = m.writing.attempt_len;
          };
    }

module _ (m : Machine) (ok : Sound m) (a out : List ℕ) (p' : Columns) (n : Numbers) where
  -- a refusal keeps them
  pub restart-refused : (f : code_refusal.Refusal) → RestartedIn m.configuration a (Err f) (columns_of m) p' → n ≡ numbers_of (refusal.numbered (refusal_of f))
      → CallIs m 0 18 0 0 0 0 a out n (with_columns m p') a out
  restart-refused f h same =
      rw h.kept
      (call-some m 0 18 0 0 0 0 a out restart (record { answer = calls.Restarted (Err f); machine = m }) a out n refl
      (restart-kept m a out ok f (h.is m.writing.consumer)) same)

  pub restarted-on : (r : RestartedAt) → RestartedIn m.configuration a (Ok r) (columns_of m) p' → n ≡ numbers_of (refusal.answered no_values (as_is (Ok (tt {0}))))
      → (m' : Machine) → Stands m.configuration 0 (going_on m.configuration (length a) r p' m'.writing.consumer) m' → Permutes LEASES m'.writing.consumer.table.slots
      → CallIs m 0 18 0 0 0 0 a out n m' a out
  restarted-on r h same m' is free =
      call-some m 0 18 0 0 0 0 a out restart (record { answer = calls.Restarted (Ok (tt {0})); machine = m' }) a out n refl
      (restart-made m a out (tt {0}) (going_on m.configuration (length a) r p' m'.writing.consumer) (h.is m'.writing.consumer) (h.sound m'.writing.consumer free) m' is) same

-- ## step
pub writing-sound : (k : ℕ) (w : Writing) → k ≡ 1 → SoundAt k w → SoundWriting w
writing-sound k w e ok = subst (λ (n : ℕ). SoundAt n w) e ok

module _ (s : Configuration) (k : ℕ) (w : Writing) (ok : SoundAt k w) (a out : List ℕ) where
  pub step-declined : (k ≡ 1 → ⊥) → CallIs (machine_of s k w) 0 17 0 0 0 0 a out not_now (machine_of s k w) a out
  step-declined h =
      call-some (machine_of s k w) 0 17 0 0 0 0 a out step (record { answer = calls.NotNow; machine = machine_of s k w }) a out not_now refl
      (not_stepped (machine_of s k w) ok a out h) refl

  pub stepped-numbers : (r : Stepped) (a' : List ℕ) → k ≡ 1 → SteppedIs w a r a' → (n : Numbers) (k' : ℕ) → n ≡ numbers_of (refusal.answered wrote_values (step_of r.answer))
      → k' ≡ phaseAfter r.answer → CallIs (machine_of s k w) 0 17 0 0 0 0 a out n (machine_of s k' r.writing) a' out
  stepped-numbers r a' e h n k' same p =
      call-some (machine_of s k w) 0 17 0 0 0 0 a out step (record { answer = calls.Stepped r.answer; machine = machine_of s k' r.writing }) a' out n refl
      (step-called (machine_of s k w) e a a' r h out k' p) same
