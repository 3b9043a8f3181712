-- What `ninotskev_ask` is proved to make is what the transition makes of the same call: the test `fits` in `transition` lets through every
-- call whose numbers are u64, as all that are handed in by Rust are. Assumes nothing.
use Prim.Native.Nat.{ℕ}
use mathlib.Core.Path.{◌≡◌, refl, sym, ap, subst, ◌∙◌}
use mathlib.Core.Bool.{true}
use mathlib.Core.List.{List, [], ◌∷◌}
use mathlib.Core.Option.{Option, none, some, map}
use lib.Dec.{eqb}
use lib.ListN.{length}
use Rattle.types.proofs.Cases.{split}
use Rattle.types.specs.Keyed.{Entry, lookup, All}
use Rattle.consumer.specs.State.{Configuration}
use Rattle.starts.specs.Starting.{configuration_of}
use Rattle.machine.specs.Calls.{Ask, claim, ack, term, nack, progress, commit, look, Call, ask, u64, fits}
use Rattle.machine.specs.Transitions.{Phase, idle, writing, off, After, on_state, asked, transition}
use Rattle.machine.specs.View.{phase_of, held}
use Rattle.machine.specs.declared.Machine.{Machine}
use Rattle.answers.specs.declared.Numbers.{Numbers}
use Rattle.server.specs.Kinds.{asks, ask_at, call_at}
use Rattle.server.specs.Transitions.{on_ask, on_call, answered_by, KeptIn, AskIs, CallIs}
use Rattle.server.proofs.Found.{on-state}
use Rattle.server.proofs.InNumbers.{kept-after}

abbrev Fit : Option Ask → Type 0
Fit none = Unit {0}
Fit (some q) = fits q ≡ true

fit_found : (k : ℕ) (l : List (Entry Ask)) → All (λ key q. fits q ≡ true) l → Fit (lookup k l)
fit_found k [] h = tt
fit_found k (e ∷ l) h = split (eqb k e.key) (λ p. rw p h.0) (λ p. rw p (fit_found k l h.1))

-- on the state, with an area that is lent and not looked at
abbrev made : Phase → List ℕ → ℕ → Option Ask → Option After
made p area w o = on_ask o (λ q. on_state p (λ s. asked s area w q))

-- whether the very machine is kept doesn't go by the area
kept-asked : {T : Type 0} (x y : T) (p : Phase) (area : List ℕ) (w : ℕ) (q : Ask) → KeptIn (made p [] w (some q)) x y → KeptIn (made p area w (some q)) x y
kept-asked x y (idle s) area w (claim o now) k = k
kept-asked x y (idle s) area w (ack o g) k = k
kept-asked x y (idle s) area w (term o g) k = k
kept-asked x y (idle s) area w (nack o g now d) k = k
kept-asked x y (idle s) area w (progress o g now) k = k
kept-asked x y (idle s) area w (commit bound) k = k
kept-asked x y (idle s) area w (look q) k = k
kept-asked x y (writing v) area w q k = k
kept-asked x y off area w q k = k

kept-made : {T : Type 0} (x y : T) (p : Phase) (area : List ℕ) (w : ℕ) (o : Option Ask) → KeptIn (made p [] w o) x y → KeptIn (made p area w o) x y
kept-made x y p area w none k = k
kept-made x y p area w (some q) k = kept-asked x y p area w q k

same-made : (c : Configuration) (p : Phase) (area : List ℕ) (w : ℕ) (o : Option Ask) → u64 w ≡ true → Fit o → made p area w o ≡ on_call (map (ask w) o) (transition c p area)
unfolding transition
same-made c p area w none is-w h = refl
same-made c p area w (some q) is-w h = rw (is-w, h) refl

module _ (w a b c d : ℕ) (is-w : u64 w ≡ true) (is-a : u64 a ≡ true) (is_b : u64 b ≡ true) (is_c : u64 c ≡ true) (is-d : u64 d ≡ true) where
  all_fit : (room : ℕ) → All (λ key q. fits q ≡ true) (asks a b c d room)
  all_fit room = rw (is-a, is_b, is_c, is-d) (refl, (refl, (refl, (refl, (refl, (refl, (refl, (refl, (refl, (refl, (refl, (refl, (refl, (refl, (refl, (refl, (refl, (refl, tt))))))))))))))))))

  pub ask-fits : (kind room : ℕ) (q : Ask) → ask_at kind a b c d room ≡ some q → fits q ≡ true
  ask-fits kind room q e = rw e at (fit_found kind (asks a b c d room) (all_fit room))

  -- whatever area is lent: a call on the state leaves it
  pub ask-is-call : (m : Machine) (kind : ℕ) (out : List ℕ) (n : Numbers) (m' : Machine) (out' : List ℕ) → (kind ≡ 16 → ⊥) → (kind ≡ 17 → ⊥) → (kind ≡ 18 → ⊥)
      → AskIs m w kind a b c d out n m' out' → (area : List ℕ) → CallIs m w kind a b c d area out n m' area out'
  ask-is-call m kind out n m' out' not-begin not_step not-restart h area =
      let o : Option Ask = ask_at kind a b c d (length out) in
      let e : made (phase_of m) area w o ≡ on_call (call_at w kind a b c d (length out)) (transition (configuration_of m.configuration) (phase_of m) area) =
      same-made (configuration_of m.configuration) (phase_of m) area w o is-w (fit_found kind (asks a b c d (length out)) (all_fit (length out)))
      ∙ ap (λ (q : Option Call). on_call q (transition (configuration_of m.configuration) (phase_of m) area)) (on-state w a b c d (length out) kind not-begin not_step not-restart) in
      record {
        is = h.is area ∙ ap (answered_by (phase_of m) area out) e;
        sound = h.sound;
        configuration = h.configuration;
        kept =
            subst (λ (t : Option After). KeptIn t (held m area) (held m' area)) e
            (kept-made (held m area) (held m' area) (phase_of m) area w o (kept-after (λ u. held u area) m m' (made (phase_of m) [] w o) h.kept));
      }
