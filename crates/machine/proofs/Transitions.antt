-- What a call owes the step function, for each kind of call and where it stands, from what the consumer's own function ensures.
-- Assumes nothing.
use Prim.Native.Nat.{ℕ, zero, suc}
use mathlib.Core.Path.{◌≡◌, refl, sym, ap, subst, ◌∙◌}
use mathlib.Core.Bool.{Bool, true, false, cond, true≢false}
use mathlib.Core.List.{List, [], ◌∷◌}
use mathlib.Core.Option.{Option, none}
use Rattle.std.specs.Prelude.{Ok, Err}
use Rattle.std.specs.Prelude as std
use Rattle.types.specs.Refusal.{Refusal, Result, refused, done}
use Rattle.types.specs.Refusal as refusal
use Rattle.types.specs.Refused.{refusal_of}
use Rattle.types.specs.declared.refusals.Refusal as code_refusal
use Rattle.types.specs.Table.{Row, ◌⇒◌, Passed, Answer, answer, Kept}
use Rattle.types.proofs.Table.{guarded_cases, passed-append, checked-done}
use Rattle.types.proofs.Checked.{refused_not_done}
use Rattle.consumer.specs.State.{State, bad_area}
use Rattle.consumer.specs.View.{view, claim_of, settle_of, nack_of, progress_of, commit_of, Unmoved}
use Rattle.consumer.specs.View as consumer
use Rattle.consumer.specs.declared.Consumer.{Consumer}
use Rattle.consumer.specs.declared.Configuration.{Configuration}
use Rattle.checkpoint.specs.Checkpoint.{writes, going, BlockWritten, Lent, lent, step_table}
use Rattle.checkpoint.specs.Checkpoint as checkpoint
use Rattle.checkpoint.specs.Writing.{view_writing, SoundWriting, BegunIs, step_of, is_finished, left_after, SoundAfter, left_of, SoundLeft, SteppedIs}
use Rattle.checkpoint.specs.declared.Writing.{Writing}
use Rattle.checkpoint.specs.declared.Begun.{Begun}
use Rattle.checkpoint.specs.declared.Stepped.{Stepped}
use Rattle.checkpoint.specs.declared.Wrote.{Wrote}
use Rattle.starts.specs.Restart as restarts
use Rattle.starts.specs.Starting.{configuration_of, kept_of, start_of, Beside, StartedIs}
use Rattle.starts.specs.declared.Started.{Started}
use Rattle.machine.specs.Calls.{Ask, Call, ask, begin, step, restart, u64, fits}
use Rattle.machine.specs.Transitions.{writing, After, on_state, on_record, left_as, transition}
use Rattle.machine.specs.Answers.{call_of, AskKept}
use Rattle.machine.specs.View.{AskedIs, MadeIs, StartMade, OffIs, MadeOff, phase_at, phase_of, SoundAt, Sound, held, CalledIs, Stands, Rests, phaseAfter}
use Rattle.machine.specs.declared.calls.Asked.{Asked}
use Rattle.machine.specs.declared.calls.AskAnswer.{AskAnswer}
use Rattle.machine.specs.declared.calls.AskAnswer.TheVariants as answers
use Rattle.machine.specs.declared.calls.CallAnswer.TheVariants as calls
use Rattle.machine.specs.declared.calls.Call as code
use Rattle.machine.specs.declared.Machine.{Machine}
use Rattle.machine.specs.declared.Called.{Called}
use Rattle.machine.specs.declared.Started as machine
use Rattle.machine.specs.View as views

-- ## what is kept
module _ {S T : Type 0} (f : S → T) (x y : S) where
  kept_in : {A : Type 0} (o : Result A) → Kept o x y → Kept o (f x) (f y)
  kept_in (refused r) k = ap f k
  kept_in (done a) k = tt

  unmoved_in : (o : Result Bool) → Unmoved o x y → Unmoved o (f x) (f y)
  unmoved_in (refused r) k = ap f k
  unmoved_in (done true) k = tt
  unmoved_in (done false) k = ap f k

  ask-kept_in : (a : AskAnswer) → AskKept a x y → AskKept a (f x) (f y)
  ask-kept_in (answers.Claimed a) k = kept_in (claim_of a) k
  ask-kept_in (answers.Acked a) k = kept_in (settle_of a) k
  ask-kept_in (answers.Termed a) k = kept_in (settle_of a) k
  ask-kept_in (answers.Nacked a) k = kept_in (nack_of a) k
  ask-kept_in (answers.Progressed a) k = kept_in (progress_of a) k
  ask-kept_in (answers.Committed a) k = unmoved_in (commit_of a) k
  ask-kept_in (answers.Looked a) k = ap f k

-- ## a call that can't be made
not_idle : (n : ℕ) (w : Writing) (f : State → Option After) → (n ≡ 0 → ⊥) → on_state (phase_at n w) f ≡ none
not_idle zero w f h = absurd (h refl)
not_idle (suc zero) w f h = refl
not_idle (suc (suc n)) w f h = refl

pub not_writing : (n : ℕ) (w : Writing) (f : checkpoint.Writing → Option After) → (n ≡ 1 → ⊥) → on_record (phase_at n w) f ≡ none
not_writing zero w f h = refl
not_writing (suc zero) w f h = absurd (h refl)
not_writing (suc (suc n)) w f h = refl

module _ (m : Machine) (ok : Sound m) (a out : List ℕ) where
  not_now_lem : (q : Call) → transition (configuration_of m.configuration) (phase_of m) a q ≡ none
      → CalledIs m q a out (record { answer = calls.NotNow; machine = m }) a out
  not_now_lem q e = record { is = sym e; sound = ok; configuration = refl; kept = refl; lists = rw e }

  pub not_begun : (w : ℕ) → u64 w ≡ true → (m.phase ≡ 0 → ⊥) → CalledIs m (begin w) a out (record { answer = calls.NotNow; machine = m }) a out
  unfolding transition
  not_begun w f h = not_now_lem (begin w) (rw f (not_idle m.phase m.writing _ h))

  pub not_stepped : (m.phase ≡ 1 → ⊥) → CalledIs m step a out (record { answer = calls.NotNow; machine = m }) a out
  unfolding transition
  not_stepped h = not_now_lem step (not_writing m.phase m.writing _ h)

  pub not_asked : (w : ℕ) (q : Ask) → u64 w ≡ true → fits q ≡ true → (m.phase ≡ 0 → ⊥) → CalledIs m (ask w q) a out (record { answer = calls.NotNow; machine = m }) a out
  unfolding transition
  not_asked w q g f h = not_now_lem (ask w q) (rw (g, f) (not_idle m.phase m.writing _ h))

-- ## on the state
-- the invariant of a machine in its phase
pub sound-idle : (m : Machine) → Sound m → m.phase ≡ 0 → consumer.Sound m.writing.consumer
sound-idle m ok e = subst (λ (n : ℕ). SoundAt n m.writing) e ok

pub sound-writing : (m : Machine) → Sound m → m.phase ≡ 1 → SoundWriting m.writing
sound-writing m ok e = subst (λ (n : ℕ). SoundAt n m.writing) e ok

-- the machine with another consumer
abbrev holding : Machine → Consumer → Machine
holding m c =
    record {
      configuration = m.configuration;
      phase = m.phase;
      writing =
          record {
            consumer = c;
            written = m.writing.written;
            payload = m.writing.payload;
            cursor_len = m.writing.cursor_len;
            attempt_len = m.writing.attempt_len;
          };
    }

module _ (m : Machine) (e : m.phase ≡ 0) (a out : List ℕ) where
  pub asked-called : (w : ℕ) (q : Ask) → u64 w ≡ true → fits q ≡ true → (r : Asked) (out' : List ℕ) → AskedIs m.writing.consumer w q out r out'
      → CalledIs m (ask w q) a out (record { answer = calls.Asked r.answer; machine = holding m r.consumer }) a out'
  unfolding transition
  asked-called w q g f r out' h =
      record {
        is = rw (g, f, e) (h.is a);
        sound = rw e h.sound;
        configuration = refl;
        kept = ask-kept_in (λ c. held (holding m c) a) m.writing.consumer r.consumer r.answer h.kept;
        lists = rw (g, f, e) (h.lists a);
      }

  module _ (ok : Sound m) (v : ℕ) (f : u64 v ≡ true) (r : Begun) (h : BegunIs m.writing.consumer v r) where
    pub begin-refused : (t : code_refusal.Refusal) → r.answer ≡ Err t → CalledIs m (begin v) a out (record { answer = calls.Begun r.answer; machine = m }) a out
    unfolding transition
    begin-refused t p =
        let w : refused (refusal_of t) ≡ checkpoint.begin (view m.writing.consumer) v = rw p at h.is in
        rw p (record { is = rw (f, e, ← w); sound = ok; configuration = refl; kept = refl; lists = rw (f, e, ← w) })

    pub begin-done : (k : ℕ) → r.answer ≡ Ok k
        → CalledIs m (begin v) a out
        (record { answer = calls.Begun r.answer; machine = record { configuration = m.configuration; phase = 1; writing = r.writing } }) a out
    unfolding transition
    begin-done k p =
        let w : done (view_writing r.writing) ≡ checkpoint.begin (view m.writing.consumer) v = rw p at h.is in
        let s : SoundWriting r.writing × (k ≡ writes (view r.writing.consumer)) = rw p at h.sound in
        let n : k ≡ writes (view m.writing.consumer) = s.1 ∙ ap (λ (c : Consumer). writes (view c)) h.kept in
        rw p (record { is = rw (f, e, ← w, n); sound = s.0; configuration = refl; kept = tt; lists = rw (f, e, ← w) })

-- ## on the record
step-phase : (last : Bool) (w : Writing) → phase_at (cond last 0 1) w ≡ left_as (left_after last w)
step-phase true w = refl
step-phase false w = refl

step-sound : (last : Bool) (w : Writing) → SoundAfter last w → SoundAt (cond last 0 1) w
step-sound true w s = s
step-sound false w s = s

-- a refused step keeps the area
refused-area : (w w' : checkpoint.Writing) (a a' : List ℕ) (r : Refusal) → answer (refused r) (lent (going w') a') ≡ checkpoint.step w a → a' ≡ a
unfolding checkpoint.step
refused-area w w' a a' r e =
    guarded_cases (step_table w a) (lent (going w) a) _ (λ (x : Answer BlockWritten Lent). answer (refused r) (lent (going w') a') ≡ x → a' ≡ a)
    (λ q met p. ap (λ (x : Answer BlockWritten Lent). x.state.area) p)
    (λ passed p. refused_not_done (ap (λ (x : Answer BlockWritten Lent). x.outcome) p))
    e

module _ (m : Machine) (e : m.phase ≡ 1) (a a' : List ℕ) (r : Stepped) (h : SteppedIs m.writing a r a') where
  abbrev stepped-on : ℕ → Machine
  stepped-on n = record { configuration = m.configuration; phase = n; writing = r.writing }

  step_kept : (d : std.Result Wrote code_refusal.Refusal) → r.answer ≡ d → Kept (step_of d) (held m a) (held (stepped-on (phaseAfter d)) a')
  step_kept (Ok b) p = tt
  step_kept (Err f) p =
      let k : r.writing ≡ m.writing = rw p at h.kept in
      let w : answer (refused (refusal_of f)) (lent (going (view_writing r.writing)) a') ≡ checkpoint.step (view_writing m.writing) a = rw p at h.is in
      let same : a' ≡ a = refused-area (view_writing m.writing) (view_writing r.writing) a a' (refusal_of f) w in
      rw (k, same, ← e)

  pub step-called : (out : List ℕ) (n : ℕ) → n ≡ phaseAfter r.answer
      → CalledIs m step a out (record { answer = calls.Stepped r.answer; machine = stepped-on n }) a' out
  unfolding transition
  step-called out n p =
      rw p
      (record {
        is = rw (e, ← h.is, step-phase (is_finished r.answer) r.writing);
        sound = step-sound (is_finished r.answer) r.writing h.sound;
        configuration = refl;
        kept = step_kept r.answer refl;
        lists = rw e;
      })

-- a machine that writes nothing stands with its consumer
pub rests-stands : {s : Configuration} {n : ℕ} {c : Consumer} {m : Machine} → Rests s n c m → Stands s n c m
rests-stands i = record { configuration = i.configuration; phase = i.phase; consumer = ap (λ (w : Writing). w.consumer) i.writing }

-- ## restart
module _ (m : Machine) (a out : List ℕ) where
  pub restart-kept : Sound m → (f : code_refusal.Refusal) → refused (refusal_of f) ≡ restarts.restart (configuration_of m.configuration) a
      → CalledIs m restart a out (record { answer = calls.Restarted (Err f); machine = m }) a out
  unfolding transition
  restart-kept ok f w = record { is = rw (← w); sound = ok; configuration = refl; kept = refl; lists = rw (← w) }

  pub restart-made : (u : Unit {0}) (c : Consumer) → done (view c) ≡ restarts.restart (configuration_of m.configuration) a → consumer.Sound c
      → (m' : Machine) → Stands m.configuration 0 c m' → CalledIs m restart a out (record { answer = calls.Restarted (Ok u); machine = m' }) a out
  unfolding transition
  restart-made u c w s m' i =
      record { is = rw (← w, i.phase, i.consumer); sound = rw (i.phase, i.consumer) s; configuration = i.configuration; kept = tt; lists = rw (← w) }

module _ (m : Machine) (ok : Sound m) (a out : List ℕ) (size : ℕ) (r : Started)
    (h : StartedIs m.configuration size (restarts.restart (configuration_of m.configuration) a) r) where
  pub restart-refused : (f : code_refusal.Refusal) → r.answer ≡ Err f → CalledIs m restart a out (record { answer = calls.Restarted r.answer; machine = m }) a out
  restart-refused f p = rw p (restart-kept m a out ok f (rw p at h.is))

  pub restart-done : (u : Unit {0}) → r.answer ≡ Ok u → (m' : Machine) → Stands m.configuration 0 r.consumer m'
      → CalledIs m restart a out (record { answer = calls.Restarted r.answer; machine = m' }) a out
  restart-done u p m' i =
      let w : done (view r.consumer) ≡ restarts.restart (configuration_of m.configuration) a = rw p at h.is in
      let s : consumer.Sound r.consumer = rw (← w) at h.beside in
      rw p (restart-made m a out u r.consumer w s m' i)

-- ## start and import
module _ (right : Result State) (s : Configuration) (size : ℕ) (r : Started) (h : StartedIs s size right r) (m : Machine) where
  rested : (n : ℕ) → Rests s n r.consumer m → Rests s n m.writing.consumer m
  rested n i = subst (λ (c : Consumer). Rests s n c m) (sym (ap (λ (w : Writing). w.consumer) i.writing)) i

  beside : {n : ℕ} → Rests s n r.consumer m → Beside right s size m.writing.consumer
  beside i = subst (Beside right s size) (sym (ap (λ (w : Writing). w.consumer) i.writing)) h.beside

  pub made-refused : (f : code_refusal.Refusal) → r.answer ≡ Err f → Rests s 2 r.consumer m → MadeIs right s size (record { answer = r.answer; machine = m })
  made-refused f p i =
      let w : refused (refusal_of f) ≡ right = rw p at h.is in
      record {
        is = rw p w;
        phase = rw (i.phase, ← w);
        configuration = i.configuration;
        sound = rw i.phase tt;
        rests = rw (← w) (rested 2 i);
        beside = beside i;
      }

  pub made-done : (u : Unit {0}) → r.answer ≡ Ok u → Rests s 0 r.consumer m → MadeIs right s size (record { answer = r.answer; machine = m })
  made-done u p i =
      let w : done (view r.consumer) ≡ right = rw p at h.is in
      let ok : consumer.Sound r.consumer = rw (← w) at h.beside in
      record {
        is = rw (p, i.writing) w;
        phase = rw (i.phase, i.writing, ← w);
        configuration = i.configuration;
        sound = rw (i.phase, i.writing) ok;
        rests = rw (← w) (rested 0 i);
        beside = beside i;
      }

-- no start on an area without a byte is accepted, so that beside it stands the fresh consumer
fresh-of_none : (s : Configuration) (c : Consumer) (right : Result State) → right ≡ restarts.start (configuration_of s) 0 → Beside right s 0 c
    → view c ≡ restarts.fresh (kept_of s) 0
unfolding restarts.start bad_area
fresh-of_none s c (refused r) e b = b
fresh-of_none s c (done t) e b =
    let given = configuration_of s in
    let passed = (checked-done (restarts.start_table given 0) (restarts.fresh given 0) t (sym e)).0 in
    let area : List Row = bad_area 0 ⇒ refusal.BadArea ∷ [] in
    let last : Passed area = (passed-append (restarts.settings_table given.settings) area passed).1 in
    absurd (true≢false last.0)

-- a start, with no more of it than an answer and who can be called
module _ (s : Configuration) (size : ℕ) (r : Started) (h : StartedIs s size (restarts.start (configuration_of s) size) r) (m : Machine) where
  pub start-refused : (f : code_refusal.Refusal) → r.answer ≡ Err f → Stands s 2 r.consumer m → views.StartedIs s size (record { answer = r.answer; machine = m })
  start-refused f p i =
      let w : refused (refusal_of f) ≡ restarts.start (configuration_of s) size = rw p at h.is in
      record { is = rw p w; phase = rw (i.phase, ← w); configuration = i.configuration; sound = rw i.phase tt }

  pub start-done : (u : Unit {0}) → r.answer ≡ Ok u → Stands s 0 r.consumer m → views.StartedIs s size (record { answer = r.answer; machine = m })
  start-done u p i =
      let w : done (view r.consumer) ≡ restarts.start (configuration_of s) size = rw p at h.is in
      let ok : consumer.Sound r.consumer = rw (← w) at h.beside in
      record { is = rw (p, i.consumer) w; phase = rw (i.phase, i.consumer, ← w); configuration = i.configuration; sound = rw (i.phase, i.consumer) ok }

-- a start that was made is one
pub start-is : (s : Configuration) (size : ℕ) (r : machine.Started) → StartMade s size r → views.StartedIs s size r
start-is s size r h = record { is = h.is; phase = h.phase; configuration = h.configuration; sound = h.sound }

pub rests-off : (s : Configuration) (c : Consumer) (m : Machine) → Stands s 2 c m → OffIs s m
rests-off s c m i = record { phase = rw i.phase; configuration = i.configuration; sound = rw i.phase tt }

pub made-off : (s : Configuration) (r : Started) (m : Machine) → StartedIs s 0 (restarts.start (configuration_of s) 0) r → Rests s 2 r.consumer m → MadeOff s m
made-off s r m h i =
    let same : m.writing.consumer ≡ r.consumer = ap (λ (w : Writing). w.consumer) i.writing in
    record {
      off = rests-off s r.consumer m (rests-stands i);
      rests = subst (λ (c : Consumer). Rests s 2 c m) (sym same) i;
      fresh = rw same (fresh-of_none s r.consumer (restarts.start (configuration_of s) 0) refl h.beside);
    }

-- a call of which it is known which it is
pub called_as : {m : Machine} (room : ℕ) {q q' : code.Call} {a out a' out' : List ℕ} {r : Called} → q ≡ q'
    → CalledIs m (call_of room q') a out r a' out' → CalledIs m (call_of room q) a out r a' out'
called_as {m} room {q} {q'} {a} {out} {a'} {out'} {r} e h =
    subst (λ (x : code.Call). CalledIs m (call_of room x) a out r a' out') (sym e) h
