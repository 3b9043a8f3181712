-- What the machine's contracts say, in numbers: the answer of a call, who can be called next and the lent memory are what the
-- transition makes. Assumes nothing.
use Prim.Native.Nat.{ℕ, zero, suc}
use native.Mathlib.Omega.{arith}
use mathlib.Core.Path.{◌≡◌, refl, ap, subst, ◌∙◌}
use mathlib.Core.Bool.{Bool, true, false}
use mathlib.Core.List.{List, []}
use mathlib.Core.Option.{Option, none, some}
use lib.ListN.{length}
use Rattle.std.specs.Prelude.{Ok, Err}
use Rattle.std.specs.Prelude as std
use Rattle.types.specs.Refusal.{Result, refused, done}
use Rattle.types.specs.Refusal as refusal
use Rattle.types.specs.Refused.{refusal_of, as_is}
use Rattle.types.specs.Table.{Kept}
use Rattle.types.specs.declared.refusals.Refusal as code_refusal
use Rattle.consumer.specs.State.{State}
use Rattle.consumer.specs.View.{view, Unmoved}
use Rattle.consumer.specs.View as consumer
use Rattle.consumer.specs.declared.Consumer.{Consumer}
use Rattle.consumer.specs.declared.Configuration.{Configuration}
use Rattle.checkpoint.specs.declared.Writing.{Writing}
use Rattle.starts.specs.Restart as restarts
use Rattle.starts.specs.Starting.{configuration_of, start_of}
use Rattle.machine.specs.Calls.{Ask, Call, Event, claimed, acked, termed, nacked, progressed, committed, looked, begun, stepped, restarted, failed}
use Rattle.machine.specs.Transitions.{Phase, idle, After, on_state, asked, transition}
use Rattle.machine.specs.Answers.{Arguments, arguments_of, seen_of, AskKept, out_after}
use Rattle.machine.specs.View as machine
use Rattle.machine.specs.View.{phase_of, Sound, AskedIs, CalledIs, after_of, CallKept, held}
use Rattle.machine.specs.declared.Machine.{Machine}
use Rattle.machine.specs.declared.Called.{Called}
use Rattle.machine.specs.declared.Started.{Started}
use Rattle.machine.specs.declared.calls.Asked.{Asked}
use Rattle.machine.specs.declared.calls.AskAnswer.{AskAnswer}
use Rattle.machine.specs.declared.calls.AskAnswer.TheVariants as asks
use Rattle.machine.specs.declared.calls.CallAnswer.{CallAnswer}
use Rattle.machine.specs.declared.calls.CallAnswer.TheVariants as callAnswers
use Rattle.answers.specs.Numbers.{numbers_of, not_now, no_values, seen_numbers, numbers_in}
use Rattle.server.specs.Kinds.{ask_at, call_at}
use Rattle.answers.proofs.Starts.{start-numbers}
use Rattle.server.specs.Transitions.{on_ask, on_call, phase_in, area_in, answered_with, answered_by, KeptBy, KeptIn, ask_after, AnswersAsk, Declined, SoundIf, AskedOn, holding, AskIs, CallIs, MadeIs, StartIs}
use Rattle.answers.specs.declared.Numbers.{Numbers}

-- ## parts
start-kept : {T : Type 0} (before after : T) (a : std.Result (Unit {0}) code_refusal.Refusal) (s : State) → Kept (as_is a) before after
    → Kept (start_of a s) before after
start-kept before after (Ok u) s k = k
start-kept before after (Err f) s k = k

ask-kept : {T : Type 0} (before after : T) (g : Arguments) (a : AskAnswer) (out : List ℕ) → AskKept a before after
    → KeptBy (seen_of g a out) before after
ask-kept before after g (asks.Claimed a) out k = k
ask-kept before after g (asks.Acked a) out k = k
ask-kept before after g (asks.Termed a) out k = k
ask-kept before after g (asks.Nacked a) out k = k
ask-kept before after g (asks.Progressed a) out k = k
ask-kept before after g (asks.Committed a) out k = k
ask-kept before after g (asks.Looked a) out k = k

-- an answer is what the transition makes where it is so part by part
parts : {n : Numbers} {p' : Phase} {a' out' : List ℕ} (p : Phase) (a out : List ℕ) (t d : Option After) → t ≡ d → n ≡ numbers_in t → p' ≡ phase_in p t
    → a' ≡ area_in a t → out' ≡ out_after d out → answered_with n p' a' out' ≡ answered_by p a out d
parts p a out t d e same-n same-p same-a same_out = cc

-- ## a call on a state
module _ (x : Consumer) (w kind a b c d : ℕ) (out : List ℕ) where
  pub ask_none : consumer.Sound x → none ≡ ask_at kind a b c d (length out) → AnswersAsk x w kind a b c d out not_now x out
  ask_none sound e =
      record {
        is = λ area. ap (λ (o : Option Ask). answered_by (idle (view x)) area out (on_ask o (asked (view x) area w))) e;
        sound = sound;
        kept = subst (λ (o : Option Ask). KeptIn (on_ask o (asked (view x) [] w)) x x) e refl;
      }

  pub ask-some : (q : Ask) (r : Asked) (out' : List ℕ) (n : Numbers) → some q ≡ ask_at kind a b c d (length out) → AskedIs x w q out r out'
      → n ≡ seen_numbers (seen_of (arguments_of q) r.answer out') → AnswersAsk x w kind a b c d out n r.consumer out'
  ask-some q r out' n e h m =
      record {
        is =
            λ area.
            parts (idle (view x)) area out _ _ (h.is area) m refl refl (h.lists area)
            ∙ ap (λ (o : Option Ask). answered_by (idle (view x)) area out (on_ask o (asked (view x) area w))) e;
        sound = h.sound;
        kept =
            subst (λ (o : Option Ask). KeptIn (on_ask o (asked (view x) [] w)) x r.consumer) e
            (subst (λ (t : Option After). KeptIn t x r.consumer) (h.is []) (ask-kept x r.consumer (arguments_of q) r.answer out' h.kept));
      }

-- what keeps a thing keeps what it stands in
module _ {S T : Type 0} (f : S → T) (x y : S) where
  kept_in : {A : Type 0} (o : Result A) → Kept o x y → Kept o (f x) (f y)
  kept_in (refused r) k = ap f k
  kept_in (done a) k = tt

  unmoved_in : (o : Result Bool) → Unmoved o x y → Unmoved o (f x) (f y)
  unmoved_in (refused r) k = ap f k
  unmoved_in (done true) k = tt
  unmoved_in (done false) k = ap f k

  kept_by : (e : Event) → KeptBy e x y → KeptBy e (f x) (f y)
  kept_by (claimed o now r) k = kept_in r k
  kept_by (acked o g r) k = kept_in r k
  kept_by (termed o g r) k = kept_in r k
  kept_by (nacked o g now d r) k = kept_in r k
  kept_by (progressed o g now r) k = kept_in r k
  kept_by (committed bound r) k = unmoved_in r k
  kept_by (looked q r) k = ap f k
  kept_by (begun r) k = kept_in r k
  kept_by (stepped r) k = kept_in r k
  kept_by (restarted r) k = kept_in r k
  kept_by (failed new) k = tt

  pub kept-after : (t : Option After) → KeptIn t x y → KeptIn t (f x) (f y)
  kept-after none k = ap f k
  kept-after (some t) k = kept_by t.event k

-- on a machine, by its phase
module _ (s : Configuration) (w : Writing) (v kind a b c d : ℕ) (out : List ℕ) (n : Numbers) (x : Consumer) (out' : List ℕ) where
  abbrev at : ℕ → Machine
  at k = record { configuration = s; phase = k; writing = w }

  -- nobody can be called
  module _ (k : ℕ) (e : (area : List ℕ) (o : Option Ask) → on_ask o (λ q. on_state (phase_of (at k)) (λ u. asked u area v q)) ≡ none) (ok : Sound (at k)) where
    declined : Declined w.consumer out n x out' → AskIs (at k) v kind a b c d out n (holding (at k) x) out'
    declined h =
        rw (h.0, h.1, h.2)
        (record {
          is = λ area. rw (e area (ask_at kind a b c d (length out)));
          sound = ok;
          configuration = refl;
          kept = rw (e [] (ask_at kind a b c d (length out))) refl;
        })

  none_asked : (o : Option Ask) → on_ask o (λ q. none) ≡ none
  none_asked none = refl
  none_asked (some q) = refl

  pub asked-on : (k : ℕ) → Sound (at k) → AskedOn k w.consumer v kind a b c d out n x out' → AskIs (at k) v kind a b c d out n (holding (at k) x) out'
  asked-on zero ok h =
      record { is = h.is; sound = h.sound; configuration = refl; kept = kept-after (holding (at 0)) w.consumer x (ask_after w.consumer v kind a b c d out []) h.kept }
  asked-on (suc zero) ok h = declined 1 (λ area o. none_asked o) ok h
  asked-on (suc (suc k)) ok h = declined (suc (suc k)) (λ area o. none_asked o) ok h

-- by the number of a phase
pub not_idle : (k : ℕ) (x : Consumer) (w kind a b c d : ℕ) (out : List ℕ) → (k ≡ 0 → ⊥) → AskedOn k x w kind a b c d out not_now x out
not_idle zero x w kind a b c d out h = absurd (h refl)
not_idle (suc k) x w kind a b c d out h = (refl, refl, refl)

pub idle-sound : (k : ℕ) (x : Consumer) → k ≡ 0 → SoundIf k x → consumer.Sound x
idle-sound zero x e ok = ok
idle-sound (suc k) x e ok = absurd (omega arith)

pub idle-asked : (k : ℕ) (x : Consumer) (w kind a b c d : ℕ) (out : List ℕ) (n : Numbers) (y : Consumer) (out' : List ℕ) → k ≡ 0
    → AnswersAsk x w kind a b c d out n y out' → AskedOn k x w kind a b c d out n y out'
idle-asked zero x w kind a b c d out n y out' e h = h
idle-asked (suc k) x w kind a b c d out n y out' e h = absurd (omega arith)

pub sound_if : (s : Configuration) (w : Writing) (k : ℕ) → Sound (record { configuration = s; phase = k; writing = w }) → SoundIf k w.consumer
sound_if s w zero ok = ok
sound_if s w (suc k) ok = tt

-- ## a call on the machine
module _ (m : Machine) (area : List ℕ) (q : Call) (m' : Machine) (area' out' : List ℕ) where
  call-phase : (a : CallAnswer) → CallKept a (held m area) (held m' area') → phase_of m' ≡ phase_in (phase_of m) (after_of q a m' area' out')
  call-phase (callAnswers.Asked a) k = refl
  call-phase (callAnswers.Begun a) k = refl
  call-phase (callAnswers.Stepped a) k = refl
  call-phase (callAnswers.Restarted a) k = refl
  call-phase callAnswers.NotNow k = ap (λ h. phase_of h.machine) k

  call-area : (a : CallAnswer) → CallKept a (held m area) (held m' area') → area' ≡ area_in area (after_of q a m' area' out')
  call-area (callAnswers.Asked a) k = refl
  call-area (callAnswers.Begun a) k = refl
  call-area (callAnswers.Stepped a) k = refl
  call-area (callAnswers.Restarted a) k = refl
  call-area callAnswers.NotNow k = ap (λ h. h.area) k

  call_kept : (a : CallAnswer) → CallKept a (held m area) (held m' area') → KeptIn (after_of q a m' area' out') (held m area) (held m' area')
  call_kept (callAnswers.Asked a) k = ask-kept (held m area) (held m' area') _ a out' k
  call_kept (callAnswers.Begun a) k = k
  call_kept (callAnswers.Stepped a) k = k
  call_kept (callAnswers.Restarted a) k = start-kept (held m area) (held m' area') a _ k
  call_kept callAnswers.NotNow k = k

module _ (m : Machine) (w kind a b c d : ℕ) (area out : List ℕ) where
  pub call-some : (q : Call) (r : Called) (area' out' : List ℕ) (n : Numbers) → some q ≡ call_at w kind a b c d (length out)
      → CalledIs m q area out r area' out' → n ≡ numbers_in (after_of q r.answer r.machine area' out')
      → CallIs m w kind a b c d area out n r.machine area' out'
  call-some q r area' out' n e h same =
      record {
        is =
            parts (phase_of m) area out _ _ h.is same (call-phase m area q r.machine area' out' r.answer h.kept)
            (call-area m area q r.machine area' out' r.answer h.kept) h.lists
            ∙ ap (λ (o : Option Call). answered_by (phase_of m) area out (on_call o (transition (configuration_of m.configuration) (phase_of m) area))) e;
        sound = h.sound;
        configuration = h.configuration;
        kept =
            subst (λ (o : Option Call). KeptIn (on_call o (transition (configuration_of m.configuration) (phase_of m) area)) (held m area) (held r.machine area')) e
            (subst (λ (t : Option After). KeptIn t (held m area) (held r.machine area')) h.is
            (call_kept m area q r.machine area' out' r.answer h.kept));
      }

-- ## a start and an import
module _ (right : Result State) (before : Machine) (s : Configuration) (size : ℕ) (r : Started) (n : Numbers) (h : machine.MadeIs right s size r)
    (e : n ≡ numbers_of (refusal.answered no_values (as_is r.answer))) where
  made-said : n ≡ numbers_of (refusal.answered no_values right)
  made-said = e ∙ start-numbers r.answer _ ∙ ap (λ u. numbers_of (refusal.answered no_values u)) h.is

  pub made-refused : (f : code_refusal.Refusal) → r.answer ≡ Err f → MadeIs right before s n before
  made-refused f p =
      let w : refused (refusal_of f) ≡ right = rw p at h.is in
      record { is = made-said; made = rw (← w) refl }

  pub made-done : (u : Unit {0}) → r.answer ≡ Ok u → MadeIs right before s n r.machine
  made-done u p =
      let w : done (view r.machine.writing.consumer) ≡ right = rw p at h.is in
      record { is = made-said; made = rw (← w) (rw (← w) at h.phase, h.configuration, h.sound) }

-- a start, with no more of it than an answer and who can be called
module _ (before : Machine) (s : Configuration) (size : ℕ) (r : Started) (n : Numbers) (h : machine.StartedIs s size r)
    (e : n ≡ numbers_of (refusal.answered no_values (as_is r.answer))) where
  start-said : n ≡ numbers_of (refusal.answered no_values (restarts.start (configuration_of s) size))
  start-said = e ∙ start-numbers r.answer _ ∙ ap (λ u. numbers_of (refusal.answered no_values u)) h.is

  pub start-refused : (f : code_refusal.Refusal) → r.answer ≡ Err f → StartIs before s size n before
  start-refused f p =
      let w : refused (refusal_of f) ≡ restarts.start (configuration_of s) size = rw p at h.is in
      record { is = start-said; made = rw (← w) refl }

  pub start-done : (u : Unit {0}) → r.answer ≡ Ok u → StartIs before s size n r.machine
  start-done u p =
      let w : done (view r.machine.writing.consumer) ≡ restarts.start (configuration_of s) size = rw p at h.is in
      record { is = start-said; made = rw (← w) (rw (← w) at h.phase, h.configuration, h.sound) }
