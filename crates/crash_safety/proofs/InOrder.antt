-- Every list on the disk does what a list of Runs.antt without power failures does. Beside the disk goes a journal on which a restart finds
-- the same; each step but the header's is made there too, the header's once it is durable, and nothing where the power fails, for who can
-- be called there doesn't matter until the restart. Assumes nothing.
use Prim.Native.Nat.{ℕ, suc, ◌+◌}
use native.Mathlib.Omega.{arith}
use mathlib.Core.Path.{◌≡◌, refl, sym, ap, ◌∙◌}
use mathlib.Core.Bool.{Bool, true, false, cond, not, ◌&&◌}
use mathlib.Core.List.{List, [], ◌∷◌, ◌++◌, append_assoc}
use mathlib.Core.Option.{Option, none, some, none-ne-some}
use lib.Dec.{eqb}
use lib.ListN.{length}
use borrow.Author.Tests.{ne_eqb, eqb-false}
use Rattle.types.specs.Refusal.{Result, refused, done, BadArea}
use Rattle.types.specs.Table.{Passed}
use Rattle.types.proofs.Cases.{split, both}
use Rattle.journal.specs.Area.{write_at}
use Rattle.journal.proofs.Sound.{differ}
use Rattle.consumer.specs.State.{Configuration, State}
use Rattle.checkpoint.specs.Checkpoint as checkpoint
use Rattle.checkpoint.specs.Checkpoint.{Writing, is_last, next_place, next_block, flushed, going}
use Rattle.starts.specs.Restart.{start_table, origin}
use Rattle.starts.specs.Restart as restarts
use Rattle.machine.specs.Calls.{Call, Ask, claim, ack, term, nack, progress, commit, look, ask, begin, step, restart, u64, fits, Event, stepped, restarted, failed}
use Rattle.machine.specs.Transitions.{Phase, idle, writing, off, After, gives, left_as, asked, began_as, stepped_as, transition}
use Rattle.power_cut.specs.Cut.{Cut, old, new, torn, is_torn}
use Rattle.crash_safety.specs.Effects.{effect_of}
use Rattle.crash_safety.specs.Runs.{Item, call, World, world, next, after, run, ends, fresh_world, keeps_journal}
use Rattle.crash_safety.specs.Demand3.{restart_in, restarts_in}
use Rattle.crash_safety.specs.Disk.{Write, write, Disk, disk, written, has_header, answers, survivors}
use Rattle.crash_safety.specs.Unordered.{DiskItem, does, steps_on, syncs, fails, OnDisk, on_disk, Then, leads, leads_as, is_none, step_onto, is_on_state, next_on, run_on, ends_on, fresh_disk, restart_on, restarts_on}
use Rattle.crash_safety.specs.InOrder.{told, effects_of, uncut, InOrder}
use Rattle.crash_safety.specs.InOrder as orders
use Rattle.crash_safety.proofs.Law.{Ledger, empty_ledger, noted, Law, folded}
use Rattle.crash_safety.proofs.Runs.{Made, Answered, run-made, ends-made}
use Rattle.crash_safety.proofs.Invariant.{Saved, restored, Journal, is-ready, Inv}
use Rattle.crash_safety.proofs.Journals.{restart-finds, stored}
use Rattle.crash_safety.proofs.Writes.{more-journal, header-journal, torn-journal}
use Rattle.crash_safety.proofs.Asks.{ask-kept}
use Rattle.crash_safety.proofs.Steps.{begin-kept, restart-kept, same_length, finished, more-made}
use Rattle.crash_safety.proofs.Start.{begins_well}
use Rattle.crash_safety.proofs.Disk.{AllHarmless, all-written, survivors-harmless, no_header}
use Rattle.crash_safety.proofs.OnDisk.{MadeOn, AnsweredOn, at-end-on}
use Rattle.crash_safety.proofs.Workers.{some_inj}
use Rattle.crash_safety.proofs.Unordered.{Under, Finishing, Standing, InvOn, kept_on, sync-kept, header-waits, joining, ended, seen_in, item-seen}
use Rattle.crash_safety.proofs.Unordered as disks

-- ## the journal beside the disk
-- at this phase, and a restart finds the same on it
pub record Beside (c : Configuration) (n : ℕ) (q : Phase) (a : List ℕ) (w : World) : Type 0 where
  pub phase : w.phase ≡ q
  pub led : Ledger
  pub inv : Inv c n led w
  pub same : restarts.restart c w.journal ≡ restarts.restart c a

-- the header's step isn't made there yet
pub record Behind (c : Configuration) (n : ℕ) (s : State) (a : List ℕ) (ws : List Write) (w : World) : Type 0 where
  pub of : Ledger
  pub waits : Finishing c n of s a ws
  pub beside : Beside c n (writing waits.record_of) a w

-- anybody may be called there
pub record Anyone (c : Configuration) (n : ℕ) (a : List ℕ) (w : World) : Type 0 where
  pub led : Ledger
  pub inv : Inv c n led w
  pub same : restarts.restart c w.journal ≡ restarts.restart c a

abbrev pub Match : Configuration → ℕ → Phase → List ℕ → List Write → World → Type 0
Match c n (idle s) a [] w = Beside c n (idle s) a w
Match c n (idle s) a (k ∷ ks) w = Behind c n s a (k ∷ ks) w
Match c n (writing r) a ws w = Beside c n (writing r) a w
Match c n off a ws w = Anyone c n a w

abbrev pub MatchOn : Configuration → ℕ → OnDisk → World → Type 0
MatchOn c n d w = Match c n d.phase d.disk.held d.disk.pending w

anyone : (c : Configuration) (n : ℕ) (q : Phase) (a : List ℕ) (w : World) → Beside c n q a w → Anyone c n a w
anyone c n q a w b = record { led = b.led; inv = b.inv; same = b.same }

match_anyone : (c : Configuration) (n : ℕ) (p : Phase) (a : List ℕ) (ws : List Write) (w : World) → Match c n p a ws w → Anyone c n a w
match_anyone c n (idle s) a [] w m = anyone c n (idle s) a w m
match_anyone c n (idle s) a (k ∷ ks) w m = anyone c n (writing m.waits.record_of) a w m.beside
match_anyone c n (writing r) a ws w m = anyone c n (writing r) a w m
match_anyone c n off a ws w m = m

-- ## what follows an item there
record Follows (c : Configuration) (w : World) (seen : List Event) (count : ℕ) (M : World → Type 0) : Type 0 where
  list : List Item
  to : World
  matches : M to
  whole : (is : List Item) → uncut is ≡ true → uncut (list ++ is) ≡ true
  runs : (is : List Item) (es : List Event) → effects_of es ≡ effects_of (run c to is) → effects_of (seen ++ es) ≡ effects_of (run c w (list ++ is))
  ends_there : (is : List Item) → ends c w (list ++ is) ≡ ends c to is
  restarts : (is : List Item) → restarts_in (list ++ is) ≡ count + restarts_in is

module _ (c : Configuration) (w : World) (M : World → Type 0) where
  -- nothing, where what is seen does nothing
  stays : (seen : List Event) → ((es : List Event) → effects_of (seen ++ es) ≡ effects_of es) → M w → Follows c w seen 0 M
  stays seen silent m =
      record {
        list = [];
        to = w;
        matches = m;
        whole = λ is e. e;
        runs = λ is es e. silent es ∙ e;
        ends_there = λ is. refl;
        restarts = λ is. omega arith;
      }

  -- one item, which does what is seen
  goes : (seen : List Event) (i : Item) (t : After) → ((is : List Item) → uncut (i ∷ is) ≡ uncut is) → next c w i ≡ some t
      → ((es : List Event) → effects_of (seen ++ es) ≡ told (effect_of t.event) (effects_of es)) → M (after t) → Follows c w seen (restart_in i) M
  unfolding effects_of restarts_in
  goes seen i t plain e same m =
      record {
        list = i ∷ [];
        to = after t;
        matches = m;
        whole = λ is q. plain is ∙ q;
        runs = λ is es q. same es ∙ rw (run-made c w i is t e) (ap (told (effect_of t.event)) q);
        ends_there = λ is. ends-made c w i is t e;
        restarts = λ is. refl;
      }

-- one behind the other
then_follows : (c : Configuration) (w : World) (M N : World → Type 0) (es fs : List Event) (j k : ℕ) → Follows c w es j M
    → ((v : World) → M v → Follows c v fs k N) → Follows c w (es ++ fs) (j + k) N
then_follows c w M N es fs j k f g =
    let h = g f.to f.matches in
    record {
      list = f.list ++ h.list;
      to = h.to;
      matches = h.matches;
      whole = λ is e. rw (append_assoc f.list h.list is) (f.whole (h.list ++ is) (h.whole is e));
      runs = λ is xs e. rw (append_assoc es fs xs, append_assoc f.list h.list is) (f.runs (h.list ++ is) (fs ++ xs) (h.runs is xs e));
      ends_there = λ is. rw (append_assoc f.list h.list is) (f.ends_there (h.list ++ is) ∙ h.ends_there is);
      restarts = λ is. rw (append_assoc f.list h.list is) (omega (arith, f.restarts (h.list ++ is), h.restarts is));
    }

abbrev FollowsOn : Configuration → ℕ → World → ℕ → Option Then → Type 0
FollowsOn c n w count none = Unit {0}
FollowsOn c n w count (some t) = Follows c w t.seen count (MatchOn c n t.world)

module _ (c : Configuration) (n : ℕ) (accepted : Passed (start_table c n)) where
  reads : (a b : List ℕ) (v : Saved) → Journal c n a v → Journal c n b v → restarts.restart c a ≡ restarts.restart c b
  reads a b v j k = restart-finds c n a v accepted j ∙ sym (restart-finds c n b v accepted k)

  -- the invariant there, at its phase
  inv_at : (q : Phase) (a : List ℕ) (w : World) (b : Beside c n q a w) → Inv c n b.led (world q w.journal)
  inv_at q a w b = let inv : Inv c n b.led (world w.phase w.journal) = b.inv in rw b.phase at inv

  rests-beside : (l : Ledger) (x : Phase) (a a' : List ℕ) → Inv c n l (world x a') → restarts.restart c a' ≡ restarts.restart c a
      → Match c n x a [] (world x a')
  rests-beside l (idle s) a a' inv e = record { phase = refl; led = l; inv = inv; same = e }
  rests-beside l (writing r) a a' inv e = record { phase = refl; led = l; inv = inv; same = e }
  rests-beside l off a a' inv e = record { led = l; inv = inv; same = e }

  -- ## a call on the state
  module _ (s : State) (a : List ℕ) (w : World) (b : Beside c n (idle s) a w) where
    -- what a call gives on both, and that they match then
    record Both (i : Item) (here : Option After) : Type 0 where
      event : Event
      phase : Phase
      gives-here : here ≡ gives event phase a
      gives-there : next c w i ≡ gives event phase w.journal
      matches : Match c n phase a [] (world phase w.journal)

    abbrev KeptThere : Option After → Type 0
    KeptThere = Answered noted (Law c.settings.policy) (Inv c n) b.led

    both-made : (i : Item) (e : Event) (x : Phase) (here there : Option After) → here ≡ gives e x a → there ≡ gives e x w.journal
        → next c w i ≡ there → KeptThere there → Both i here
    both-made i e x here there h t is k =
        let m : Made noted (Law c.settings.policy) (Inv c n) b.led (record { event = e; phase = x; area = w.journal }) = rw t at k in
        record {
          event = e;
          phase = x;
          gives-here = h;
          gives-there = is ∙ t;
          matches = rests-beside (noted b.led e) x a w.journal m.keeps b.same;
        }

    module _ (v : ℕ) where
      both-asked : (q : Ask) → (u64 v && fits q) ≡ true → Both (call (ask v q)) (asked s a v q)
      unfolding next transition
      both-asked q t =
          go q (rw (b.phase, t)) (ask-kept c n b.led s w.journal (inv_at (idle s) a w b) v q (both (u64 v) (fits q) t).1)
        where
          go : (q : Ask) → next c w (call (ask v q)) ≡ asked s w.journal v q → KeptThere (asked s w.journal v q)
              → Both (call (ask v q)) (asked s a v q)
          go (claim o now) is k = both-made (call (ask v (claim o now))) _ _ _ _ refl refl is k
          go (ack o g) is k = both-made (call (ask v (ack o g))) _ _ _ _ refl refl is k
          go (term o g) is k = both-made (call (ask v (term o g))) _ _ _ _ refl refl is k
          go (nack o g now x) is k = both-made (call (ask v (nack o g now x))) _ _ _ _ refl refl is k
          go (progress o g now) is k = both-made (call (ask v (progress o g now))) _ _ _ _ refl refl is k
          go (commit x) is k = both-made (call (ask v (commit x))) _ _ _ _ refl refl is k
          go (look x) is k = both-made (call (ask v (look x))) _ _ _ _ refl refl is k

      both-began : u64 v ≡ true → Both (call (begin v)) (began_as s a (checkpoint.begin s v))
      unfolding next transition
      both-began t =
          go (checkpoint.begin s v) (rw (b.phase, t)) (begin-kept c n b.led w.journal s (inv_at (idle s) a w b) v)
        where
          go : (r : Result Writing) → next c w (call (begin v)) ≡ began_as s w.journal r → KeptThere (began_as s w.journal r)
              → Both (call (begin v)) (began_as s a r)
          go (refused f) is k = both-made (call (begin v)) _ _ _ _ refl refl is k
          go (done r) is k = both-made (call (begin v)) _ _ _ _ refl refl is k

    both_follows : (i : Item) (here : Option After) → ((is : List Item) → uncut (i ∷ is) ≡ uncut is) → restart_in i ≡ 0 → Both i here
        → FollowsOn c n w 0 (leads_as [] (disk a []) here)
    unfolding effects_of
    both_follows i here plain zero k =
        rw (k.gives-here, ← zero)
        (goes c w (Match c n k.phase a []) (k.event ∷ []) i (record { event = k.event; phase = k.phase; area = w.journal }) plain k.gives-there
        (λ es. refl) k.matches)

  -- ## a step
  module _ (r : Writing) (a : List ℕ) (w : World) (b : Beside c n (writing r) a w) where
    abbrev s : State
    s = r.state

    abbrev longer : List ℕ
    longer = write_at w.journal (next_place r) (next_block r)

    steps-there : (last : Bool) → is_last r ≡ last → next c w (call step)
        ≡ gives (stepped (done (record { block = next_place r; last = last }))) (left_as (cond last (checkpoint.finished (flushed s)) (going (checkpoint.writing s (suc r.written))))) longer
    unfolding next transition checkpoint.step
    steps-there last t = rw (b.phase, ← t, same_length c n b.led w.journal r (inv_at (writing r) a w b))

    -- a block before the header
    more_follows : is_last r ≡ false → Follows c w [] 0 (Match c n (writing (checkpoint.writing s (suc r.written))) a [])
    unfolding effects_of uncut
    more_follows t =
        let inv = inv_at (writing r) a w b in
        let kept : Journal c n longer inv.saved = more-journal c n inv.saved w.journal r inv.journal (is-ready inv.callable.0) inv.callable.1 t in
        goes c w (Match c n (writing (checkpoint.writing s (suc r.written))) a []) [] (call step) _ (λ is. refl) (steps-there false t) (λ es. refl)
        (record {
          phase = refl;
          led = b.led;
          inv = more-made c n b.led w.journal r inv t;
          same = reads longer w.journal inv.saved kept inv.journal ∙ b.same;
        })

    -- the header, once it is durable on the disk
    header_follows : (e : Event) (a' : List ℕ) (M : World → Type 0) → is_last r ≡ true → Journal c n a' (stored s)
        → ((es : List Event) → effects_of (e ∷ es) ≡ told (effect_of (stepped (done (record { block = next_place r; last = true })))) (effects_of es))
        → ((v : World) → Beside c n (idle (flushed s)) a' v → M v) → Follows c w (e ∷ []) 0 M
    unfolding uncut
    header_follows e a' M t j same m =
        let inv = inv_at (writing r) a w b in
        let full : Journal c n longer (stored s) = header-journal c n inv.saved w.journal r inv.journal (is-ready inv.callable.0) inv.callable.1 t in
        goes c w M (e ∷ []) (call step) _ (λ is. refl) (steps-there true t) same
        (m (world (idle (flushed s)) longer) (record {
          phase = refl;
          led = _;
          inv = finished c n b.led w.journal r inv t;
          same = reads longer a' (stored s) full j;
        }))

    module _ (l : Ledger) where
      follow-made : (ws : List Write) → Under c n l r a ws → (last : Bool) → is_last r ≡ last
          → FollowsOn c n w 0 (cond (last && not (is_none ws)) none
          (leads [] (left_as (cond last (checkpoint.finished (flushed s)) (going (checkpoint.writing s (suc r.written))))) (disk a (ws ++ (joining c n l r a ws last ∷ [])))))
      unfolding ended
      follow-made [] u true t = stays c w _ [] (λ es. refl) (record { of = l; waits = ended c n l r a u t; beside = b })
      follow-made (k ∷ ks) u true t = tt
      follow-made ws u false t = more_follows t

      follow-step : (ws : List Write) → Under c n l r a ws → FollowsOn c n w 0 (step_onto (disk a ws) r)
      unfolding checkpoint.step
      follow-step ws u = rw (disks.same_length c n l r a ws u) (follow-made ws u (is_last r) refl)

      follow-elsewhere : (ws : List Write) → Under c n l r a ws → (x : List ℕ) → eqb (length x) (length (written a ws)) ≡ false
          → FollowsOn c n w 0 (leads_as [] (disk a ws) (keeps_journal (written a ws) (stepped_as (checkpoint.step r x))))
      unfolding checkpoint.step effects_of
      follow-elsewhere ws u x e =
          rw (ne_eqb (length x) s.size (λ q. eqb-false (length x) (length (written a ws)) e
          (q ∙ u.stands.size ∙ sym (all-written c n u.saved ws a u.journal u.harmless).journal.size)))
          (stays c w _ (stepped (refused BadArea) ∷ []) (λ es. refl) b)

  -- ## a sync
  silent_steps : (l : Ledger) (lo : ℕ) (v : Saved) (ws : List Write) → AllHarmless n lo v ws → (es : List Event) → effects_of (answers ws ++ es) ≡ effects_of es
  unfolding AllHarmless answers effects_of
  silent_steps l lo v [] h es = refl
  silent_steps l lo v (x ∷ ws) h es = rw h.0.more (silent_steps l lo v ws h.1 es)

  header-durable : (s : State) (a : List ℕ) (ws : List Write) (w : World) → Behind c n s a ws w → Follows c w (answers ws) 0 (Match c n (idle s) (written a ws) [])
  unfolding answers written effects_of
  header-durable s a ws w m =
      let f = m.waits in
      let r = f.record_of in
      rw (f.header, f.state)
      (header_follows r a w m.beside (stepped (done (record { block = next_place r; last = true }))) (write_at a (next_place r) (next_block r)) _ f.last
      (header-journal c n f.inv.saved a r f.inv.journal (is-ready f.inv.callable.0) f.inv.callable.1 f.last)
      (λ es. refl) (λ v k. k))

  follow-sync : (l : Ledger) (p : Phase) (a : List ℕ) (ws : List Write) → Standing c n l p a ws → (w : World) → Match c n p a ws w
      → Follows c w (answers ws) 0 (Match c n p (written a ws) [])
  unfolding answers written
  follow-sync l (idle s) a [] st w m = stays c w _ [] (λ es. refl) m
  follow-sync l (idle s) a (k ∷ ks) st w m = header-durable s a (k ∷ ks) w m
  follow-sync l (writing r) a ws u w m =
      stays c w _ (answers ws) (silent_steps l (origin a).block u.saved ws u.harmless)
      (record {
        phase = m.phase;
        led = m.led;
        inv = m.inv;
        same = m.same ∙ reads a (written a ws) u.saved u.journal (all-written c n u.saved ws a u.journal u.harmless).journal;
      })
  follow-sync l off a [] st w m = stays c w _ [] (λ es. refl) m
  follow-sync l off a (k ∷ ks) st w m = absurd st

  -- ## a power failure
  abbrev FollowsFailure : List ℕ → List Write → World → Type 0
  FollowsFailure a ks w = Follows c w (failed (has_header ks) ∷ []) 0 (Match c n off (written a ks) [])

  nothing_left : (a : List ℕ) (w : World) → Anyone c n a w → FollowsFailure a [] w
  unfolding written has_header effects_of
  nothing_left a w m = stays c w _ (failed false ∷ []) (λ es. refl) m

  header-fates : (s : State) (a : List ℕ) (ws : List Write) (w : World) (m : Behind c n s a ws w) (ks : List Cut)
      → FollowsFailure a (survivors (write (next_place m.waits.record_of) true (next_block m.waits.record_of) ∷ []) ks) w
  unfolding survivors written has_header effects_of
  header-fates s a ws w m [] = nothing_left a w (anyone c n (writing m.waits.record_of) a w m.beside)
  header-fates s a ws w m (old ∷ ks) = nothing_left a w (anyone c n (writing m.waits.record_of) a w m.beside)
  header-fates s a ws w m (new ∷ ks) =
      let f = m.waits in
      let r = f.record_of in
      header_follows r a w m.beside (failed true) (write_at a (next_place r) (next_block r)) _ f.last
      (header-journal c n f.inv.saved a r f.inv.journal (is-ready f.inv.callable.0) f.inv.callable.1 f.last)
      (λ es. refl) (λ v k. anyone c n (idle (flushed r.state)) (write_at a (next_place r) (next_block r)) v k)
  header-fates s a ws w m (torn x ∷ ks) =
      let f = m.waits in
      let r = f.record_of in
      split (is_torn x)
      (λ t. rw t (stays c w _ (failed false ∷ []) (λ es. refl) (record {
        led = m.beside.led;
        inv = m.beside.inv;
        same = m.beside.same ∙ reads a (write_at a (next_place r) x) f.inv.saved f.inv.journal
            (torn-journal c n f.inv.saved a r f.inv.journal (is-ready f.inv.callable.0) f.inv.callable.1 x t);
      })))
      (λ t. rw t (nothing_left a w (anyone c n (writing r) a w m.beside)))

  rest-fails : (a : List ℕ) (ks : List Cut) (w : World) → Anyone c n a w → FollowsFailure a (survivors [] ks) w
  unfolding survivors
  rest-fails a ks w m = nothing_left a w m

  follow_fail : (l : Ledger) (p : Phase) (a : List ℕ) (ws : List Write) (ks : List Cut) → Standing c n l p a ws → (w : World) → Match c n p a ws w
      → FollowsFailure a (survivors ws ks) w
  unfolding effects_of
  follow_fail l (idle s) a [] ks st w m = rest-fails a ks w (anyone c n (idle s) a w m)
  follow_fail l (idle s) a (x ∷ xs) ks st w m = rw m.waits.header (header-fates s a (x ∷ xs) w m ks)
  follow_fail l (writing r) a ws ks u w m =
      let left = survivors-harmless n (origin a).block u.saved ws ks u.harmless in
      rw (no_header n (origin a).block u.saved (survivors ws ks) left)
      (stays c w _ (failed false ∷ []) (λ es. refl) (record {
        led = m.led;
        inv = m.inv;
        same = m.same ∙ reads a (written a (survivors ws ks)) u.saved u.journal (all-written c n u.saved (survivors ws ks) a u.journal left).journal;
      }))
  follow_fail l off a [] ks st w m = rest-fails a ks w m
  follow_fail l off a (x ∷ xs) ks st w m = absurd st

  -- ## a restart, after the sync
  follow-restart : (p : Phase) (b : List ℕ) (s : State) → restarts.restart c b ≡ done s → (w : World) → Match c n p b [] w
      → Follows c w (restarted (done s) ∷ []) 1 (Match c n (idle s) b [])
  unfolding next transition uncut effects_of
  follow-restart p b s e w m =
      let k = match_anyone c n p b [] w m in
      let there : restarts.restart c w.journal ≡ done s = k.same ∙ e in
      let made : Made noted (Law c.settings.policy) (Inv c n) k.led (record { event = restarted (done s); phase = idle s; area = w.journal }) =
      rw there at (restart-kept c n k.led w.journal accepted w.phase k.inv) in
      goes c w (Match c n (idle s) b []) (restarted (done s) ∷ []) (call restart) (record { event = restarted (done s); phase = idle s; area = w.journal })
      (λ is. refl) (rw there) (λ es. refl)
      (record { phase = refl; led = noted k.led (restarted (done s)); inv = made.keeps; same = k.same })

  -- ## every item
  follow : (l : Ledger) (p : Phase) (a : List ℕ) (ws : List Write) (i : DiskItem) → Standing c n l p a ws → (w : World) → Match c n p a ws w
      → FollowsOn c n w (restart_on i) (next_on c p (disk a ws) i)
  unfolding next_on transition has_header written uncut
  follow l (idle s) a [] (does (ask v q)) st w m =
      split (u64 v && fits q)
      (λ t. rw t (both_follows s a w m (call (ask v q)) (asked s a v q) (λ is. refl) refl (both-asked s a w m v q t)))
      (λ t. rw t tt)
  follow l (idle s) a (x ∷ xs) (does (ask v q)) f w m = rw (header-waits c n l s a (x ∷ xs) f) tt
  follow l (writing r) a ws (does (ask v q)) u w m =
      split (has_header ws) (λ e. rw e tt) (λ e. rw e (split (u64 v && fits q) (λ t. rw t tt) (λ t. rw t tt)))
  follow l off a [] (does (ask v q)) st w m = split (u64 v && fits q) (λ t. rw t tt) (λ t. rw t tt)
  follow l off a (x ∷ xs) (does (ask v q)) st w m = absurd st
  follow l (idle s) a [] (does (begin v)) st w m =
      split (u64 v)
      (λ t. rw t (both_follows s a w m (call (begin v)) (began_as s a (checkpoint.begin s v)) (λ is. refl) refl (both-began s a w m v t)))
      (λ t. rw t tt)
  follow l (idle s) a (x ∷ xs) (does (begin v)) f w m = rw (header-waits c n l s a (x ∷ xs) f) tt
  follow l (writing r) a ws (does (begin v)) u w m =
      split (has_header ws) (λ e. rw e tt) (λ e. rw e (split (u64 v) (λ t. rw t tt) (λ t. rw t tt)))
  follow l off a [] (does (begin v)) st w m = split (u64 v) (λ t. rw t tt) (λ t. rw t tt)
  follow l off a (x ∷ xs) (does (begin v)) st w m = absurd st
  follow l (idle s) a ws (does step) st w m = tt
  follow l (writing r) a ws (does step) u w m = follow-step r a w m l ws u
  follow l off a ws (does step) st w m = tt
  follow l p a ws (does restart) st w m =
      let inv = (sync-kept c n l p a ws st).inv in
      let found : restarts.restart c (written a ws) ≡ done (restored c n inv.saved) = restart-finds c n (written a ws) inv.saved accepted inv.journal in
      rw found
      (then_follows c w (Match c n p (written a ws) []) (Match c n (idle (restored c n inv.saved)) (written a ws) []) (answers ws) (restarted (done (restored c n inv.saved)) ∷ []) 0 1
      (follow-sync l p a ws st w m)
      (λ v k. follow-restart p (written a ws) (restored c n inv.saved) found v k))
  follow l (idle s) a [] (steps_on b) st w m = split (eqb (length b) (length a)) (λ t. rw t tt) (λ t. rw t tt)
  follow l (idle s) a (x ∷ xs) (steps_on b) f w m = rw (header-waits c n l s a (x ∷ xs) f) tt
  follow l (writing r) a ws (steps_on b) u w m =
      rw (no_header n (origin a).block u.saved ws u.harmless)
      (split (eqb (length b) (length (written a ws))) (λ t. rw t tt) (λ t. rw t (follow-elsewhere r a w m l ws u b t)))
  follow l off a [] (steps_on b) st w m = split (eqb (length b) (length a)) (λ t. rw t tt) (λ t. rw t tt)
  follow l off a (x ∷ xs) (steps_on b) st w m = absurd st
  follow l p a ws syncs st w m = follow-sync l p a ws st w m
  follow l p a ws (fails ks) st w m = follow_fail l p a ws ks st w m

  -- ## every list
  pub record Does (d : OnDisk) (w : World) (items : List DiskItem) : Type 0 where
    pub list : List Item
    pub whole : uncut list ≡ true
    pub same : effects_of (run_on c d items) ≡ effects_of (run c w list)
    pub restarts : restarts_in list ≡ restarts_on items
    pub matches : MatchOn c n (ends_on c d items) (ends c w list)

  pub all : (items : List DiskItem) (l : Ledger) (d : OnDisk) (w : World) → InvOn c n l d → MatchOn c n d w → Does d w items
  unfolding run_on ends_on run ends restarts_on restarts_in uncut effects_of
  all [] l d w inv m = record { list = []; whole = refl; same = refl; restarts = refl; matches = m }
  all (i ∷ is) l d w inv m =
      go (next_on c d.phase d.disk i) refl (kept_on c n accepted l d i inv) (follow l d.phase d.disk.held d.disk.pending i inv w m)
      (all is l d w inv m) (λ k t v. all is k t.world v)
    where
      go : (x : Option Then) → next_on c d.phase d.disk i ≡ x → AnsweredOn noted (Law c.settings.policy) (InvOn c n) l (next_on c d.phase d.disk i)
          → FollowsOn c n w (restart_on i) (next_on c d.phase d.disk i) → Does d w is
          → ((k : Ledger) (t : Then) (v : World) → InvOn c n k t.world → MatchOn c n t.world v → Does t.world v is)
          → Does d w (i ∷ is)
      go none e kept f skip rest =
          record {
            list = skip.list;
            whole = skip.whole;
            same = rw (e, run_on) skip.same;
            restarts = omega (arith, skip.restarts, sym (ap seen_in e) ∙ item-seen c d.phase d.disk i);
            matches = rw (e, ends_on) skip.matches;
          }
      go (some t) e kept f skip rest =
          let made : MadeOn noted (Law c.settings.policy) (InvOn c n) l t = rw e at kept in
          let h : Follows c w t.seen (restart_on i) (MatchOn c n t.world) = rw e at f in
          let r = rest _ t h.to made.keeps h.matches in
          record {
            list = h.list ++ r.list;
            whole = h.whole r.list r.whole;
            same = rw (e, run_on) (h.runs r.list (run_on c t.world is) r.same);
            restarts = h.restarts r.list ∙ ap (λ k. restart_on i + k) r.restarts;
            matches = rw (e, ends_on, h.ends_there r.list) r.matches;
          }

  state-same : (p : Phase) (a : List ℕ) (ws : List Write) (w : World) (x : State) → Match c n p a ws w → p ≡ idle x → ws ≡ [] → w.phase ≡ idle x
  state-same p a ws w x m e q = let b : Match c n (idle x) a [] w = rw (e, q) at m in b.phase

  -- ## a call on the state that can be made is answered the same on both, which match then
  pub record Likewise (w : World) (i : Item) (from : Phase) (e : Event) (p : Phase) (d : Disk) : Type 0 where
    pub answered : orders.Answered c w i from e p
    pub matches : MatchOn c n (on_disk p d) (after answered.after)

  both-likewise : (s : State) (a : List ℕ) (w : World) (b : Beside c n (idle s) a w) (i : Item) (here : Option After) → Both s a w b i here
      → (e : Event) (p : Phase) (d : Disk) → leads_as [] (disk a []) here ≡ leads (e ∷ []) p d → Likewise w i (idle s) e p d
  both-likewise s a w b i here k e p d is =
      let x : Then = record { seen = k.event ∷ []; world = on_disk k.phase (disk a []) } in
      let y : Then = record { seen = e ∷ []; world = on_disk p d } in
      let same : x ≡ y = some_inj (rw k.gives-here at is) in
      let seen : k.event ∷ [] ≡ e ∷ [] = ap (λ (t : Then). t.seen) same in
      let event : k.event ≡ e = cc in
      let phase : k.phase ≡ p = ap (λ (t : Then). t.world.phase) same in
      let left : disk a [] ≡ d = ap (λ (t : Then). t.world.disk) same in
      record {
        answered = record {
          same = b.phase;
          after = record { event = k.event; phase = k.phase; area = w.journal };
          made = k.gives-there;
          event = event;
          phase = phase;
        };
        matches = rw (← phase, ← left) k.matches;
      }

  -- by who can be called
  abbrev pub AnsweredSo : Ledger → Phase → List ℕ → List Write → Call → Type 0
  AnsweredSo l p a ws q =
      Standing c n l p a ws → (w : World) → Match c n p a ws w
      → (e : Event) (p' : Phase) (d' : Disk) → next_on c p (disk a ws) (does q) ≡ leads (e ∷ []) p' d' → Likewise w (call q) p e p' d'

  likewise-asked : (v : ℕ) (q : Ask) (l : Ledger) (p : Phase) (a : List ℕ) (ws : List Write) → AnsweredSo l p a ws (ask v q)
  unfolding next_on transition has_header written
  likewise-asked v q l (idle s) a [] st w m e p' d' is =
      split (u64 v && fits q)
      (λ t. both-likewise s a w m (call (ask v q)) (asked s a v q) (both-asked s a w m v q t) e p' d' (rw t at is))
      (λ t. absurd (none-ne-some _ (rw t at is)))
  likewise-asked v q l (idle s) a (x ∷ xs) f w m e p' d' is = absurd (none-ne-some _ (rw (header-waits c n l s a (x ∷ xs) f) at is))
  likewise-asked v q l (writing r) a ws u w m e p' d' is =
      split (has_header ws) (λ h. absurd (none-ne-some _ (rw h at is))) (λ h.
      split (u64 v && fits q) (λ t. absurd (none-ne-some _ (rw (h, t) at is))) (λ t. absurd (none-ne-some _ (rw (h, t) at is))))
  likewise-asked v q l off a [] st w m e p' d' is =
      split (u64 v && fits q) (λ t. absurd (none-ne-some _ (rw t at is))) (λ t. absurd (none-ne-some _ (rw t at is)))
  likewise-asked v q l off a (x ∷ xs) st w m e p' d' is = absurd st

  likewise-begun : (v : ℕ) (l : Ledger) (p : Phase) (a : List ℕ) (ws : List Write) → AnsweredSo l p a ws (begin v)
  unfolding next_on transition has_header written
  likewise-begun v l (idle s) a [] st w m e p' d' is =
      split (u64 v)
      (λ t. both-likewise s a w m (call (begin v)) (began_as s a (checkpoint.begin s v)) (both-began s a w m v t) e p' d' (rw t at is))
      (λ t. absurd (none-ne-some _ (rw t at is)))
  likewise-begun v l (idle s) a (x ∷ xs) f w m e p' d' is = absurd (none-ne-some _ (rw (header-waits c n l s a (x ∷ xs) f) at is))
  likewise-begun v l (writing r) a ws u w m e p' d' is =
      split (has_header ws) (λ h. absurd (none-ne-some _ (rw h at is))) (λ h.
      split (u64 v) (λ t. absurd (none-ne-some _ (rw (h, t) at is))) (λ t. absurd (none-ne-some _ (rw (h, t) at is))))
  likewise-begun v l off a [] st w m e p' d' is =
      split (u64 v) (λ t. absurd (none-ne-some _ (rw t at is))) (λ t. absurd (none-ne-some _ (rw t at is)))
  likewise-begun v l off a (x ∷ xs) st w m e p' d' is = absurd st

  pub likewise : (q : Call) → is_on_state q ≡ true → (l : Ledger) (p : Phase) (a : List ℕ) (ws : List Write) → AnsweredSo l p a ws q
  likewise (ask v q) z l p a ws = likewise-asked v q l p a ws
  likewise (begin v) z l p a ws = likewise-begun v l p a ws
  likewise step z l p a ws = absurd (differ z refl)
  likewise restart z l p a ws = absurd (differ z refl)

-- a fresh consumer, on both
pub fresh_match : (c : Configuration) (n : ℕ) (s : State) → Inv c n empty_ledger (fresh_world s n) → MatchOn c n (fresh_disk s n) (fresh_world s n)
fresh_match c n s inv = record { phase = refl; led = empty_ledger; inv = inv; same = refl }

pub in_order : InOrder
unfolding InOrder
in_order c n s items f e =
    let b = begins_well c n s f e in
    let d = fresh_disk s n in
    let w = fresh_world s n in
    let k = all c n b.accepted items empty_ledger d w b.inv (fresh_match c n s b.inv) in
    let left = ends_on c d items in
    let inv = at-end-on noted (Law c.settings.policy) (InvOn c n) c (kept_on c n b.accepted) items empty_ledger d b.inv in
    record {
      list = k.list;
      uncut = k.whole;
      same = k.same;
      restarts = k.restarts;
      state = λ x p q. state-same c n b.accepted left.phase left.disk.held left.disk.pending (ends c w k.list) x k.matches p q;
      answers = λ q z e p x is.
          (likewise c n b.accepted q z (folded noted empty_ledger (run_on c d items)) left.phase left.disk.held left.disk.pending inv
          (ends c w k.list) k.matches e p x is).answered;
    }
