-- Tokens of a server, both ways and in numbers: what holds of the list that a server is. Assumes nothing.
use Prim.Native.Nat.{ℕ}
use native.Mathlib.Omega.{arith}
use mathlib.Core.Path.{◌≡◌, refl, sym, ap, ◌∙◌}
use mathlib.Core.Bool.{Bool, true, ◌&&◌}
use mathlib.Core.List.{List, [], ◌∷◌}
use mathlib.Core.Option.{Option, none, some, none-ne-some}
use lib.Dec.{leb}
use Rattle.types.specs.Limits.{WORKERS}
use Rattle.types.specs.Refusal.{Refusal, refused, done, Fenced, ForeignToken, numbered}
use Rattle.types.proofs.Cases.{split, both}
use Rattle.types.proofs.Refusal.{number_not_0}
use Rattle.consumer.specs.State.{State}
use Rattle.consumer.specs.State as state
use Rattle.consumer.specs.Rights.{Operation, bit_of, permits}
use Rattle.consumer.specs.Calls.{HandOut, hand_out}
use Rattle.consumer.specs.Valid as valid
use Rattle.consumer.specs.declared.Configuration.{Configuration}
use Rattle.consumer.proofs.Open.{claim_cases}
use Rattle.starts.specs.Starting.{configuration_of}
use Rattle.starts.specs.Restart.{start}
use Rattle.machine.specs.Calls.{Ask, claim, ack, term, nack, progress, commit, look, ask, begin, step, restart, u64, fits, Event, claimed}
use Rattle.machine.specs.Transitions.{Phase, idle, After, answered_as, asked, transition}
use Rattle.machine.specs.View.{phase_of}
use Rattle.machine.specs.declared.Machine.{Machine}
use Rattle.answers.specs.Numbers.{not_now, seen_numbers, numbers_in}
use Rattle.answers.specs.declared.Numbers.{Numbers}
use Rattle.server.proofs.AsCalls.{ask-fits}
use Rattle.crash_safety.specs.Runs.{Item, call, step_on, cut, World, world, next, after, run, ends, fresh_world}
use Rattle.crash_safety.specs.Workers.{operation_of, rows_for, refusal_of, or_else, token_in}
use Rattle.crash_safety.specs.Tokens.{given_up_in, number_of, AnsweredByToken, TokenBothWays}
use Rattle.crash_safety.proofs.Workers.{some_inj, ask-made}
use Rattle.crash_safety.proofs.Runs.{ends-made, ends_none}
use Rattle.crash_safety.proofs.BothWays.{token-both_ways}
use Rattle.crash_safety.proofs.Ran.{fresh-fits}
use Rattle.served.specs.Served.{Served, rests, asks, asks_nothing, plans, begins, steps, strays, fails, reopens, answers_to}
use Rattle.served.specs.Served as served
use Rattle.served.specs.Told.{told_of, given_up_told}
use Rattle.served.specs.Tokens.{unless_barred, TokenAnswered, TokensServed}
use Rattle.served.proofs.Told.{number-seen, told_same}
use Rattle.served.proofs.Served.{serves, begun}

-- ## where a consumer can be called, a call on it can be made: its numbers are u64
abbrev pub Fits : List Item → Type 0
Fits [] = Unit {0}
Fits (call (ask w q) ∷ is) = (u64 w && fits q) ≡ true
Fits (call (begin w) ∷ is) = Unit {0}
Fits (call step ∷ is) = Unit {0}
Fits (call restart ∷ is) = Unit {0}
Fits (step_on b ∷ is) = Unit {0}
Fits (cut k ∷ is) = Unit {0}

pub first_fits : {m last : Machine} {a end : List ℕ} {is : List Item} {ns : List Numbers} → Served m a is ns last end → Fits is
first_fits rests = tt
first_fits (asks w kind x y z d out q n m' out' fit found h more) =
    let f0 = both (u64 w) _ fit in
    let f1 = both (u64 x) _ f0.1 in
    let f2 = both (u64 y) _ f1.1 in
    let f3 = both (u64 z) _ f2.1 in
    let f4 = both (u64 d) _ f3.1 in
    rw f0.0 (ask-fits w x y z d f0.0 f1.0 f2.0 f3.0 f4.0 kind _ q found)
first_fits (asks_nothing w kind x y z d out n m' out' found h more) = first_fits more
first_fits (plans w os out n m' out' fit-w fit h more) = rw fit-w fit
first_fits (served.exports w out n m' out' fit-w h more) = rw fit-w refl
first_fits (begins w n m' h more) = tt
first_fits (steps n m' a' h more) = tt
first_fits (strays b n m' b' other h more) = tt
first_fits (served.restarts n m' h more) = tt
first_fits (fails k t m' e is-off more) = tt
first_fits (reopens m' n m'' is-off h zero_number more) = tt

-- ## a call by itself
-- what it makes, whose numbers its answer is
pub record Made (c : state.Configuration) (w : World) (v : ℕ) (q : Ask) (n : Numbers) (w' : World) : Type 0 where
  pub then : After
  pub made : next c w (call (ask v q)) ≡ some then
  pub numbers : seen_numbers then.event ≡ n
  pub leaves : after then ≡ w'

module _ (c : state.Configuration) (w : World) (v : ℕ) (q : Ask) (n : Numbers) (w' : World) where
  abbrev first : List Numbers → Numbers
  first [] = n
  first (x ∷ l) = x

  pub made_so : answers_to c w (call (ask v q) ∷ []) ≡ n ∷ [] → ends c w (call (ask v q) ∷ []) ≡ w'
      → (next c w (call (ask v q)) ≡ none → not_now ≡ n → ⊥) → Made c w v q n w'
  unfolding answers_to
  made_so answers leaves now = from (next c w (call (ask v q))) refl (ap first answers)
    where
      from : (x : Option After) → next c w (call (ask v q)) ≡ x → numbers_in x ≡ n → Made c w v q n w'
      from none e h = absurd (now e h)
      from (some t) e h =
          record { then = t; made = e; numbers = h; leaves = sym (ends-made c w (call (ask v q)) [] t e ∙ ends_none c (after t)) ∙ leaves }

-- a consumer that can be called
pub callable : (c : state.Configuration) (p : Phase) (a : List ℕ) (w : ℕ) (q : Ask) (here : State) → p ≡ idle here → (u64 w && fits q) ≡ true
    → next c (world p a) (call (ask w q)) ≡ none → ⊥
unfolding next transition
callable c p a w q here e f none_made = made-asked q (rw (e, f) at none_made)
  where
    made-asked : (q : Ask) → asked here a w q ≡ none → ⊥
    made-asked (claim o now) h = none-ne-some _ (sym h)
    made-asked (ack o g) h = none-ne-some _ (sym h)
    made-asked (term o g) h = none-ne-some _ (sym h)
    made-asked (nack o g now d) h = none-ne-some _ (sym h)
    made-asked (progress o g now) h = none-ne-some _ (sym h)
    made-asked (commit bound) h = none-ne-some _ (sym h)
    made-asked (look k) h = none-ne-some _ (sym h)

-- ## a claim that is answered 0 hands out, and its third number is the generation
record Hands (o now : ℕ) (e : Event) (n : Numbers) : Type 0 where
  handed : HandOut
  is : e ≡ claimed o now (done handed)
  offset : handed.offset ≡ o
  generation : handed.generation ≡ n.2

hands : (s : State) (a : List ℕ) (v o now : ℕ) (t : After) (n : Numbers) → asked s a v (claim o now) ≡ some t → seen_numbers t.event ≡ n → n.0 ≡ 0
    → Hands o now t.event n
hands s a v o now t n =
    claim_cases s v o now (λ x. answered_as a (claimed o now) x ≡ some t → seen_numbers t.event ≡ n → n.0 ≡ 0 → Hands o now t.event n)
    (λ r f e z.
    let is : claimed o now (refused r) ≡ t.event = ap (λ (x : After). x.event) (some_inj f) in
    absurd (number_not_0 r (ap (λ (k : Event). (seen_numbers k).0) is ∙ ap (λ (k : Numbers). k.0) e ∙ z)))
    (λ p f e z.
    let is : claimed o now (done (hand_out s o)) ≡ t.event = ap (λ (x : After). x.event) (some_inj f) in
    record {
      handed = hand_out s o;
      is = sym is;
      offset = refl;
      generation = ap (λ (k : Event). (seen_numbers k).2) is ∙ ap (λ (k : Numbers). k.2) e;
    })

-- ## in numbers
pub barred : (c : state.Configuration) (w : ℕ) (op : Operation) (r : Refusal) → number_of (or_else (rows_for c w op) r) ≡ unless_barred c w op (numbered r).number
barred c w op r =
    split (leb WORKERS w) (λ t. rw t)
    (λ t. rw t (split (permits c.settings.rights w (bit_of op)) (λ u. rw u) (λ u. rw u)))

in_numbers : (c : state.Configuration) (v w : ℕ) (q : Ask) (up : Bool) (r : Option Refusal) (n : Numbers) → n.0 ≡ number_of r → AnsweredByToken c v w q up r
    → TokenAnswered c v w q up n
in_numbers c v w q up r n e k =
    record {
      stale = λ t. e ∙ ap number_of (k.stale t) ∙ barred c w (operation_of q) Fenced;
      others = λ t other. e ∙ ap number_of (k.others t other) ∙ barred c w (operation_of q) ForeignToken;
      own = λ t same may. rw e (k.own t same may);
    }

-- a claim, what comes then, and a call, on worlds
module _ (c : state.Configuration) (size : ℕ) (fresh : State) (fit : valid.Fits c.settings) (starts : start c size ≡ done fresh) where
  called : (before since : List Item) (ns : List Numbers) (w₁ w₂ w₃ w₄ : World) → ends c (fresh_world fresh size) before ≡ w₁
      → (v o now : ℕ) (n : Numbers) → n.0 ≡ 0 → Made c w₁ v (claim o now) n w₂
      → answers_to c w₂ since ≡ ns → ends c w₂ since ≡ w₃
      → (w : ℕ) (q : Ask) (p : Numbers) → token_in q ≡ some (o, n.2) → Made c w₃ w q p w₄
      → TokenAnswered c v w q (given_up_told o (told_of since ns)) p
  unfolding TokenBothWays
  called before since ns w₁ w₂ w₃ w₄ at₁ v o now n zero_number m answers at₃ w q p token u =
      let x = ask-made c w₁.phase w₁.journal v m.then (claim o now) m.made in
      let h = hands x.state w₁.journal v o now m.then n x.says m.numbers zero_number in
      let first : next c (ends c (fresh_world fresh size) before) (call (ask v (claim o now))) ≡ some m.then = rw at₁ m.made in
      let left : ends c (after m.then) since ≡ w₃ = rw m.leaves at₃ in
      let second : next c (ends c (after m.then) since) (call (ask w q)) ≡ some u.then = rw left u.made in
      let so = token-both_ways c size fresh before since fit starts v o now h.handed m.then first h.is w q (rw (h.offset, h.generation) token) u.then second in
      let told : given_up_told o (told_of since ns) ≡ given_up_in h.handed.offset (run c (after m.then) since) =
      rw (h.offset, m.leaves, ← answers) ((told_same c since w₂).takes o) in
      rw told (in_numbers c v w q _ (refusal_of u.then.event) p (sym (ap (λ (k : Numbers). k.0) u.numbers) ∙ number-seen u.then.event) so)

pub tokens_served : TokensServed
unfolding TokensServed
tokens_served s size m how before since bs ns m₁ m₂ m₃ m₄ a₁ a₂ a₃ a₄ p₁ v o now n p₂ zero_number p₃ here at w q p token p₄ =
    let f = begun s size m how in
    let c : state.Configuration = configuration_of s in
    let one = serves f.sound p₁ in
    let two = serves one.sound p₂ in
    let three = serves two.sound p₃ in
    let four = serves three.sound p₄ in
    let s₁ : m₁.configuration ≡ s = one.configuration ∙ f.configuration in
    let s₂ : m₂.configuration ≡ s = two.configuration ∙ s₁ in
    let s₃ : m₃.configuration ≡ s = three.configuration ∙ s₂ in
    called c size f.state (fresh-fits c size m f.state f.is f.phase f.sound) f.is before since ns
    (world (phase_of m₁) a₁) (world (phase_of m₂) a₂) (world (phase_of m₃) a₃) (world (phase_of m₄) a₄) (rw (f.configuration, f.phase) at one.leaves)
    v o now n zero_number
    (made_so c (world (phase_of m₁) a₁) v (claim o now) n (world (phase_of m₂) a₂) (rw s₁ at two.answers) (rw s₁ at two.leaves)
    (λ e h. omega (arith, ap (λ (k : Numbers). k.0) h, zero_number)))
    (rw s₂ at three.answers) (rw s₂ at three.leaves) w q p token
    (made_so c (world (phase_of m₃) a₃) w q p (world (phase_of m₄) a₄) (rw s₃ at four.answers) (rw s₃ at four.leaves)
    (λ e h. callable c (phase_of m₃) a₃ w q here at (first_fits p₄) e))
