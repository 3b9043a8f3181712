-- What each call on the state owes its contract, from what the consumer's own function ensures. Assumes nothing.
use Prim.Native.Nat.{ℕ, ◌/◌}
use mathlib.Core.Path.{◌≡◌, refl, sym, ap, subst, ◌∙◌}
use mathlib.Core.Bool.{true, false}
use mathlib.Core.List.{List, [], ◌∷◌, ◌++◌, append_assoc}
use mathlib.Core.Option.{Option, none, some}
use lib.Dec.{ltb}
use lib.ListN.{length, drop, replicate}
use lib.Seq.{take_at}
use Rattle.std.specs.Prelude.{Ok, Err}
use Rattle.std.specs.Prelude as std
use Rattle.types.specs.Refusal.{Refusal, Result, refused, done, OutTooShort}
use Rattle.types.specs.Refused.{refusal_of, result_of, as_is}
use Rattle.types.specs.Table.{Row, ◌⇒◌, first, Answer, answer, checked, guarded}
use Rattle.types.specs.Lists.{listed}
use Rattle.types.proofs.Checked.{refused_not_done, done_inj}
use Rattle.types.specs.declared.refusals.Refusal as code_refusal
use Rattle.cursor.specs.Unsettled.{stretches, bounds, open_table, open_numbers}
use Rattle.consumer.specs.Rights.{looking}
use Rattle.consumer.specs.Calls.{call_rows}
use Rattle.consumer.specs.Calls as calls
use Rattle.consumer.specs.Questions.{Question, Waiting, Committed, IsSettled, LeaseOf, CountOf, InFlight, IsDue, BlocksLeft, ViewOf, Plan, Export, OpenBetween, NearestOpen, waiting_at, reply}
use Rattle.consumer.specs.Questions as questions
use Rattle.consumer.specs.View.{view, Sound, Answers, settle_of, permission_of}
use Rattle.consumer.specs.Parts.{Whole}
use Rattle.consumer.specs.declared.Consumer.{Consumer}
use Rattle.machine.specs.Calls.{ack, term, look, acked, termed, looked}
use Rattle.machine.specs.Transitions.{gives, idle, answered_as}
use Rattle.machine.specs.Answers.{ask_of, first_places, told_by, reply_of, answered_list, filled_with, list_in, arguments_in, asked_in, asked_by}
use Rattle.machine.specs.View.{AskedIs, LookedIs}
use Rattle.machine.specs.declared.calls.Ask as code
use Rattle.machine.specs.declared.calls.Asked.{Asked}
use Rattle.machine.specs.declared.calls.Reply.{Reply}
use Rattle.machine.specs.declared.calls.Reply.TheVariants as replies
use Rattle.machine.specs.declared.calls.AskAnswer.TheVariants as answers

-- the consumer whose parts are lent
abbrev pub lent : {c : Consumer} → Whole c → Consumer
lent {c} w = c

-- ## questions
-- each question is one of its own arguments
asked_itself : (q : Question) → (arguments_in q).question ≡ q
asked_itself (Waiting now room) = refl
asked_itself Committed = refl
asked_itself (IsSettled o) = refl
asked_itself (LeaseOf o) = refl
asked_itself (CountOf o) = refl
asked_itself InFlight = refl
asked_itself IsDue = refl
asked_itself BlocksLeft = refl
asked_itself (ViewOf o now) = refl
asked_itself (OpenBetween a b room) = refl
asked_itself (NearestOpen o) = refl
asked_itself (Plan os room) = refl
asked_itself (Export cursorRoom attemptRoom) = refl

-- a reply that fills no list
pub replied : (c : Consumer) (w : ℕ) {q q' : Question} (out : List ℕ) (r : Reply) → q ≡ q' → asked_by (arguments_in q') (Ok r) ≡ q'
    → reply_of (Ok r) out ≡ reply (view c) w q' → list_in q' (reply (view c) w q') ≡ [] → LookedIs (reply (view c) w q) q out (Ok r) out
replied c w {q} {q'} out r e k h l =
    subst (λ (x : Question). LookedIs (reply (view c) w x) x out (Ok r) out) (sym e) (record { kind = k; is = h; lists = rw l })

refused_inj : {r q : Refusal} → ◌≡◌ {A = Result ℕ} (refused r) (refused q) → r ≡ q
refused_inj e = cc

-- how many places of lent memory a list fills, or what it is refused with
abbrev Counts : Type 0
Counts = std.Result ℕ code_refusal.Refusal

-- a list that a table of rows stands before, put into lent memory
module _ (ws : List Row) (list out out' : List ℕ) where
  abbrev Puts : Counts → Type 0
  Puts r = answer (as_is r) out' ≡ guarded ws out (answer (done (length list)) (filled_with list out))

  at_front : (n : ℕ) → length list ≡ n → first_places n (filled_with list out) ≡ list
  at_front n m =
      rw (append_assoc list (drop (length list) out) (replicate n 0)) (take_at list (drop (length list) out ++ replicate n 0) n m)

  -- what is answered, and what stands in the lent memory
  pub put : (r : Counts) → Puts r
      → (result_of (λ n. first_places n out') r ≡ checked ws (done list)) × (out' ≡ filled_with (answered_list (checked ws (done list))) out)
  put r e = go (first ws) refl r e
    where
      go : (f : Option Refusal) → first ws ≡ f → (r : Counts) → Puts r
          → (result_of (λ n. first_places n out') r ≡ checked ws (done list)) × (out' ≡ filled_with (answered_list (checked ws (done list))) out)
      go none q (Ok n) p =
          let d : answer (done n) out' ≡ answer (done (length list)) (filled_with list out) = rw q at p in
          let m : length list ≡ n = sym (done_inj (ap (λ (a : Answer ℕ (List ℕ)). a.outcome) d)) in
          let whole : out' ≡ filled_with list out = ap (λ (a : Answer ℕ (List ℕ)). a.state) d in
          (rw (q, whole) (ap done (at_front n m)), rw q whole)
      go none q (Err f) p =
          let d : answer (refused (refusal_of f)) out' ≡ answer (done (length list)) (filled_with list out) = rw q at p in
          refused_not_done (ap (λ (a : Answer ℕ (List ℕ)). a.outcome) d)
      go (some f) q (Ok n) p =
          let d : answer (done n) out' ≡ answer (refused f) out = rw q at p in
          refused_not_done (sym (ap (λ (a : Answer ℕ (List ℕ)). a.outcome) d))
      go (some f) q (Err g) p =
          let d : answer (refused (refusal_of g)) out' ≡ answer (refused f) out = rw q at p in
          let same : refusal_of g ≡ f = refused_inj (ap (λ (a : Answer ℕ (List ℕ)). a.outcome) d) in
          (rw (q, same), rw q (ap (λ (a : Answer ℕ (List ℕ)). a.state) d))

  module _ (c : Consumer) (w : ℕ) {q q' : Question} (e : q ≡ q') (is : reply (view c) w q' ≡ checked ws (done list))
      (fills : (a : Result (List ℕ)) → list_in q' a ≡ answered_list a) (r : Counts) (h : Puts r) where
    filled : out' ≡ filled_with (list_in q' (reply (view c) w q')) out
    filled = (put r h).1 ∙ ap (λ (l : List ℕ). filled_with l out) (ap answered_list (sym is) ∙ sym (fills (reply (view c) w q')))

    -- a list that was put there
    pub put_replied : (told : ℕ → Reply) → ((n : ℕ) → told_by (told n) out' ≡ first_places n out') → ((n : ℕ) → asked_in (arguments_in q') (told n) ≡ q')
        → (n : ℕ) → r ≡ Ok n → LookedIs (reply (view c) w q) q out (Ok (told n)) out'
    put_replied told says kind n p =
        let here : done (first_places n out') ≡ checked ws (done list) = rw p at (put r h).0 in
        subst (λ (x : Question). LookedIs (reply (view c) w x) x out (Ok (told n)) out') (sym e)
        (record { kind = kind n; is = ap done (says n) ∙ here ∙ sym is; lists = filled })

    -- one that was refused
    pub put_refused : (f : code_refusal.Refusal) → r ≡ Err f → LookedIs (reply (view c) w q) q out (Err f) out'
    put_refused f p =
        let here : refused (refusal_of f) ≡ checked ws (done list) = rw p at (put r h).0 in
        subst (λ (x : Question). LookedIs (reply (view c) w x) x out (Err f) out') (sym e)
        (record { kind = asked_itself q'; is = here ∙ sym is; lists = filled })

-- the waiting list
module _ (c : Consumer) (w now : ℕ) {q : Question} (out out' : List ℕ) (e : q ≡ Waiting now (length out)) (r : Counts)
    (h : answer (as_is r) out' ≡ listed (waiting_at (view c) now) out) where
  abbrev short : List Row
  short = ltb (length out) (length (waiting_at (view c) now)) ⇒ OutTooShort ∷ []

  pub waiting-replied : (n : ℕ) → r ≡ Ok n → LookedIs (reply (view c) w q) q out (Ok (replies.Waiting n)) out'
  waiting-replied = put_replied short (waiting_at (view c) now) out out' c w e refl (λ a. refl) r h replies.Waiting (λ n. refl) (λ n. refl)

  pub waiting_refused : (f : code_refusal.Refusal) → r ≡ Err f → LookedIs (reply (view c) w q) q out (Err f) out'
  waiting_refused = put_refused short (waiting_at (view c) now) out out' c w e refl (λ a. refl) r h

-- the open stretches
module _ (c : Consumer) (w : ℕ) {q : Question} (a b : ℕ) (out out' : List ℕ) (e : q ≡ OpenBetween a b (length out / 2)) (r : Counts)
    (h : answer (as_is r) out' ≡ open_numbers (view c).cursor a b out) where
  pub open_replied : (n : ℕ) → r ≡ Ok n → LookedIs (reply (view c) w q) q out (Ok (replies.OpenBetween n)) out'
  unfolding open_numbers
  open_replied =
      put_replied (open_table (view c).cursor a b (length out / 2)) (bounds (stretches (view c).cursor a b)) out out' c w e refl (λ x. refl) r h
      replies.OpenBetween (λ n. refl) (λ n. refl)

  pub open_refused : (f : code_refusal.Refusal) → r ≡ Err f → LookedIs (reply (view c) w q) q out (Err f) out'
  unfolding open_numbers
  open_refused =
      put_refused (open_table (view c).cursor a b (length out / 2)) (bounds (stretches (view c).cursor a b)) out out' c w e refl (λ x. refl) r h

-- ## who may look
-- a refused question fills no list, and is the one that was asked
no-list : (q : Question) (f : Refusal) → list_in q (refused f) ≡ []
no-list (Waiting now room) f = refl
no-list Committed f = refl
no-list (IsSettled o) f = refl
no-list (LeaseOf o) f = refl
no-list (CountOf o) f = refl
no-list InFlight f = refl
no-list IsDue f = refl
no-list BlocksLeft f = refl
no-list (ViewOf o now) f = refl
no-list (OpenBetween a b room) f = refl
no-list (NearestOpen o) f = refl
no-list (Plan os room) f = refl
no-list (Export cursorRoom attemptRoom) f = refl

module _ (c : Consumer) (w : ℕ) (q : Question) (out : List ℕ) (p : std.Result (Unit {0}) code_refusal.Refusal) (says : permission_of p ≡ first (call_rows (view c) w looking)) where
  pub look_refused : (f : code_refusal.Refusal) → p ≡ Err f → LookedIs (questions.look (view c) w q) q out (Err f) out
  look_refused f e =
      let met : first (call_rows (view c) w looking) ≡ some (refusal_of f) = sym says ∙ ap permission_of e in
      record { kind = asked_itself q; is = rw met; lists = rw (met, no-list q (refusal_of f)) }

  pub look-answered : (u : Unit {0}) → p ≡ Ok u → (r : std.Result Reply code_refusal.Refusal) (out' : List ℕ) → LookedIs (reply (view c) w q) q out r out'
      → LookedIs (questions.look (view c) w q) q out r out'
  look-answered u e r out' h = let met : first (call_rows (view c) w looking) ≡ none = sym says ∙ ap permission_of e in rw met h

-- ## calls
-- a call that settles an offset
module _ {c c' : Consumer} {w o g : ℕ} {out : List ℕ} {r : std.Result (Unit {0}) code_refusal.Refusal} (h : Answers (settle_of r) c c' (calls.ack (view c) w o g)) where
  pub acked-asked : AskedIs c w (ack o g) out (record { answer = answers.Acked r; consumer = c' }) out
  acked-asked = record { is = λ a. ap (answered_as a (acked o g)) h.is; sound = h.sound; kept = h.kept; lists = λ a. refl }

  pub termed-asked : AskedIs c w (term o g) out (record { answer = answers.Termed r; consumer = c' }) out
  termed-asked = record { is = λ a. ap (answered_as a (termed o g)) h.is; sound = h.sound; kept = h.kept; lists = λ a. refl }

module _ {c : Consumer} {out out' : List ℕ} where
  pub looked-asked : {w : ℕ} {q : Question} {r : std.Result Reply code_refusal.Refusal} → Sound c → LookedIs (questions.look (view c) w q) q out r out' → AskedIs c w (look q) out (record { answer = answers.Looked r; consumer = c }) out'
  looked-asked {w} {q} {r} ok h =
      record {
        is = λ a.
            ap (λ (x : Question). gives (looked x (reply_of r out')) (idle (view c)) a) h.kind
            ∙ ap (λ (x : Result (List ℕ)). gives (looked q x) (idle (view c)) a) h.is;
        sound = ok;
        kept = refl;
        lists = λ a. h.lists;
      }

  -- the same of a call of which it is known which it is
  pub asked_as : {w : ℕ} (room : ℕ) {q q' : code.Ask} {r : Asked} → q ≡ q' → AskedIs c w (ask_of room q') out r out' → AskedIs c w (ask_of room q) out r out'
  asked_as {w} room {q} {q'} {r} e h = subst (λ (x : code.Ask). AskedIs c w (ask_of room x) out r out') (sym e) h
