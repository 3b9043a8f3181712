-- Demand 3 on a disk that keeps no order between two syncs. What is pending is either harmless blocks of a record that is under way, or
-- the header alone, whose step left the state; so what a power failure leaves holds what was held, or, where it left the header, what
-- begin took. Assumes nothing.
use Prim.Native.Nat.{ℕ, suc, ◌+◌}
use native.Mathlib.Omega.{arith}
use mathlib.Core.Path.{◌≡◌, refl, sym, ap, ◌∙◌}
use mathlib.Core.Bool.{Bool, true, false, cond, not, ◌&&◌}
use mathlib.Core.List.{List, [], ◌∷◌, ◌++◌}
use mathlib.Core.Option.{Option, none, some}
use lib.Dec.{eqb}
use lib.ListN.{length}
use borrow.Author.Tests.{eq-eqb, ne_eqb, eqb-false}
use Rattle.types.specs.Refusal.{Result, refused, done}
use Rattle.types.specs.Table.{Passed}
use Rattle.types.proofs.Cases.{split, both}
use Rattle.journal.specs.Area.{block_at, write_at}
use Rattle.consumer.specs.State.{Configuration, State}
use Rattle.consumer.specs.Valid.{Fits}
use Rattle.checkpoint.specs.Checkpoint as checkpoint
use Rattle.checkpoint.specs.Checkpoint.{Writing, flushed, is_last, next_place, next_block, BlockWritten, Lent, going}
use Rattle.starts.specs.Restart.{start_table, start, origin}
use Rattle.starts.specs.Restart as restarts
use Rattle.machine.specs.Calls.{Ask, claim, ack, term, nack, progress, commit, look, ask, begin, step, restart, u64, fits, Event, failed}
use Rattle.machine.specs.Transitions.{Phase, idle, writing, off, After, asked, began_as, stepped_as, left_as, restarted_as, transition}
use Rattle.power_cut.specs.Cut.{Cut, old, new, torn, is_torn}
use Rattle.crash_safety.specs.Runs.{call, step_on, world, keeps_journal, step_elsewhere, next}
use Rattle.crash_safety.specs.Demand3.{Finds}
use Rattle.crash_safety.specs.Disk.{Write, write, Disk, disk, written, area, synced, has_header, answers, survivors}
use Rattle.crash_safety.specs.Unordered.{DiskItem, does, steps_on, syncs, fails, OnDisk, on_disk, leads_as, Then, leads, joins, is_none, step_onto, unless_header, next_on, run_on, fresh_disk, restart_on, restarts_on, Unordered}
use Rattle.crash_safety.proofs.Law.{Ledger, empty_ledger, noted, Law, Seen, all-seen, Along, folded, restarts-right}
use Rattle.crash_safety.proofs.Runs.{Made, Answered}
use Rattle.crash_safety.proofs.Invariant.{Saved, restored, Journal, Stands, is-ready, Written, Inv}
use Rattle.crash_safety.proofs.Writes.{plain-block, inside, free, more-written, torn-journal, same_kept}
use Rattle.crash_safety.proofs.Asks.{ask-kept}
use Rattle.crash_safety.proofs.Steps.{below-ceiling, restart-kept, begin-kept, finished, left-new, left-off}
use Rattle.crash_safety.proofs.Start.{begins_well}
use Rattle.crash_safety.proofs.Generations.{none_shared}
use Rattle.crash_safety.proofs.Bound.{restarts_seen, bounded}
use Rattle.crash_safety.proofs.Restarts.{made, next-made}
use Rattle.crash_safety.proofs.Demand3.{limits}
use Rattle.crash_safety.proofs.Batch.{batch-bounded}
use Rattle.crash_safety.proofs.Disk.{Harmless, AllHarmless, no_writes, one-more-write, written-more, StillHolds, all-written, survivors-harmless, no_header, steps-noted, steps-lawful}
use Rattle.crash_safety.proofs.OnDisk.{folded-append, along-append, MadeOn, AnsweredOn, along-on}

-- ## the invariant
-- a record is under way on area a, with these writes pending: its blocks stand in what the process sees
pub record Under (c : Configuration) (n : ℕ) (l : Ledger) (w : Writing) (a : List ℕ) (ws : List Write) : Type 0 where
  pub saved : Saved
  pub journal : Journal c n a saved
  pub harmless : AllHarmless n (origin a).block saved ws
  pub finds : Finds l.book.copy (restored c n saved)
  pub stands : Stands c n saved l w.state
  pub so_far : Written (written a ws) w

-- the header of a record, which left this state, is pending alone
pub record Finishing (c : Configuration) (n : ℕ) (l : Ledger) (s : State) (a : List ℕ) (ws : List Write) : Type 0 where
  pub record_of : Writing
  pub state : s ≡ flushed record_of.state
  pub header : ws ≡ write (next_place record_of) true (next_block record_of) ∷ []
  pub last : is_last record_of ≡ true
  pub inv : Inv c n l (world (writing record_of) a)

abbrev pub Standing : Configuration → ℕ → Ledger → Phase → List ℕ → List Write → Type 0
Standing c n l (idle s) a [] = Inv c n l (world (idle s) a)
Standing c n l (idle s) a (k ∷ ks) = Finishing c n l s a (k ∷ ks)
Standing c n l (writing w) a ws = Under c n l w a ws
Standing c n l off a [] = Inv c n l (world off a)
Standing c n l off a (k ∷ ks) = ⊥

abbrev pub InvOn : Configuration → ℕ → Ledger → OnDisk → Type 0
InvOn c n l w = Standing c n l w.phase w.disk.held w.disk.pending

module _ (c : Configuration) (n : ℕ) where
  -- nothing is pending
  pub rests : (l : Ledger) (p : Phase) (a : List ℕ) → Inv c n l (world p a) → Standing c n l p a []
  unfolding written
  rests l (idle s) a inv = inv
  rests l (writing w) a inv =
      record {
        saved = inv.saved;
        journal = inv.journal;
        harmless = no_writes n (origin a).block inv.saved;
        finds = inv.finds;
        stands = inv.callable.0;
        so_far = inv.callable.1;
      }
  rests l off a inv = inv

  abbrev Says : Ledger → Event → Type 0
  Says = Law c.settings.policy

  abbrev KeptOn : Ledger → Option Then → Type 0
  KeptOn = AnsweredOn noted Says (InvOn c n)

  -- ## a call on the state, while nothing is pending
  lifted : (l : Ledger) (e : Event) (p : Phase) (a : List ℕ)
      → Made noted Says (Inv c n) l (record { event = e; phase = p; area = a })
      → MadeOn noted Says (InvOn c n) l (record { seen = e ∷ []; world = on_disk p (disk a []) })
  unfolding Along folded
  lifted l e p a m = record { says = (m.says, tt); keeps = rests (noted l e) p a m.keeps }

  module _ (l : Ledger) (s : State) (a : List ℕ) (inv : Inv c n l (world (idle s) a)) where
    ask-on : (w : ℕ) (q : Ask) → fits q ≡ true → KeptOn l (leads_as [] (disk a []) (asked s a w q))
    ask-on w (claim o now) t = lifted l _ _ a (ask-kept c n l s a inv w (claim o now) t)
    ask-on w (ack o g) t = lifted l _ _ a (ask-kept c n l s a inv w (ack o g) t)
    ask-on w (term o g) t = lifted l _ _ a (ask-kept c n l s a inv w (term o g) t)
    ask-on w (nack o g now d) t = lifted l _ _ a (ask-kept c n l s a inv w (nack o g now d) t)
    ask-on w (progress o g now) t = lifted l _ _ a (ask-kept c n l s a inv w (progress o g now) t)
    ask-on w (commit b) t = lifted l _ _ a (ask-kept c n l s a inv w (commit b) t)
    ask-on w (look q) t = lifted l _ _ a (ask-kept c n l s a inv w (look q) t)

    begun-on : (r : Result Writing) → Answered noted Says (Inv c n) l (began_as s a r) → KeptOn l (leads_as [] (disk a []) (began_as s a r))
    begun-on (refused f) m = lifted l _ _ a m
    begun-on (done w) m = lifted l _ _ a m

  -- ## a step
  module _ (l : Ledger) (w : Writing) (a : List ℕ) where
    abbrev s : State
    s = w.state

    -- what is pending, made durable
    pub under-inv : (ws : List Write) → Under c n l w a ws → Inv c n l (world (writing w) (written a ws))
    under-inv ws u =
        record {
          saved = u.saved;
          journal = (all-written c n u.saved ws a u.journal u.harmless).journal;
          finds = u.finds;
          callable = (u.stands, u.so_far);
        }

    -- the block that joins
    abbrev pub joining : List Write → Bool → Write
    joining ws last = write (next_place w) last (block_at (write_at (written a ws) (next_place w) (next_block w)) (next_place w))

    module _ (ws : List Write) (u : Under c n l w a ws) where
      abbrev there : List ℕ
      there = written a ws

      still : StillHolds c n u.saved a there
      still = all-written c n u.saved ws a u.journal u.harmless

      pub reads-back : block_at (write_at there (next_place w) (next_block w)) (next_place w) ≡ next_block w
      reads-back = same_kept c n u.saved there w still.journal (is-ready u.stands) u.so_far

      pub same_length : eqb (length there) s.size ≡ true
      same_length = eq-eqb (length there) s.size (still.journal.size ∙ sym u.stands.size)

      module _ (more : is_last w ≡ false) where
        joins-harmless : Harmless n (origin a).block u.saved (joining ws false)
        joins-harmless =
            let p = plain-block w more in
            record {
              out = rw (← still.begins, ← u.stands.next) (free c n u.saved there w still.journal (is-ready u.stands) u.so_far);
              inside = inside c n u.saved there w still.journal (is-ready u.stands) u.so_far;
              whole = rw reads-back p.0;
              plain = rw reads-back p.1;
              more = refl;
            }

        pub joined : Under c n l (checkpoint.writing s (suc w.written)) a (ws ++ (joining ws false ∷ []))
        joined =
            record {
              saved = u.saved;
              journal = u.journal;
              harmless = one-more-write n (origin a).block u.saved ws (joining ws false) u.harmless joins-harmless;
              finds = u.finds;
              stands = u.stands;
              so_far = rw (written-more a ws (joining ws false), reads-back)
                  (more-written c n u.saved there w still.journal (is-ready u.stands) u.so_far more);
            }

    unfoldable pub ended : (u : Under c n l w a []) → is_last w ≡ true → Finishing c n l (flushed s) a (joining [] true ∷ [])
    unfolding written
    ended u t =
        record {
          record_of = w;
          state = refl;
          header = ap (λ b. write (next_place w) true b ∷ []) (reads-back [] u);
          last = t;
          inv = under-inv [] u;
        }

    made-on : (ws : List Write) → Under c n l w a ws → (last : Bool) → is_last w ≡ last
        → KeptOn l (cond (last && not (is_none ws)) none
        (leads [] (left_as (cond last (checkpoint.finished (flushed s)) (going (checkpoint.writing s (suc w.written))))) (disk a (ws ++ (joining ws last ∷ [])))))
    unfolding Along folded
    made-on [] u true t = record { says = tt; keeps = ended u t }
    made-on (k ∷ ks) u true t = tt
    made-on ws u false t = record { says = tt; keeps = joined ws u t }

    step-on : (ws : List Write) → Under c n l w a ws → KeptOn l (step_onto (disk a ws) w)
    unfolding checkpoint.step
    step-on ws u = rw (same_length ws u) (made-on ws u (is_last w) refl)

    -- other memory is refused
    elsewhere-on : (ws : List Write) → Under c n l w a ws → (b : List ℕ) → eqb (length b) (length (written a ws)) ≡ false
        → KeptOn l (leads_as [] (disk a ws) (keeps_journal (written a ws) (stepped_as (checkpoint.step w b))))
    unfolding checkpoint.step Along folded
    elsewhere-on ws u b e =
        rw (ne_eqb (length b) s.size (λ q. eqb-false (length b) (length (written a ws)) e (q ∙ u.stands.size ∙ sym (still ws u).journal.size)))
        (record { says = ((tt, tt, tt), tt); keeps = u })

  -- ## a sync
  pub record Synced (l : Ledger) (p : Phase) (a : List ℕ) (ws : List Write) : Type 0 where
    pub says : Along noted Says l (answers ws)
    pub inv : Inv c n (folded noted l (answers ws)) (world p (written a ws))

  header-synced : (l : Ledger) (s : State) (a : List ℕ) (ws : List Write) → Finishing c n l s a ws → Synced l (idle s) a ws
  unfolding written answers Along folded
  header-synced l s a ws f =
      rw (f.header, f.state)
      (record { says = ((tt, tt, tt), tt); inv = finished c n l a f.record_of f.inv f.last })

  nothing-synced : (l : Ledger) (p : Phase) (a : List ℕ) → Inv c n l (world p a) → Synced l p a []
  unfolding written answers Along folded
  nothing-synced l p a inv = record { says = tt; inv = inv }

  pub sync-kept : (l : Ledger) (p : Phase) (a : List ℕ) (ws : List Write) → Standing c n l p a ws → Synced l p a ws
  sync-kept l (idle s) a [] inv = nothing-synced l (idle s) a inv
  sync-kept l (idle s) a (k ∷ ks) f = header-synced l s a (k ∷ ks) f
  sync-kept l (writing w) a ws u =
      record {
        says = steps-lawful c.settings.policy n (origin a).block u.saved ws u.harmless l;
        inv = rw (steps-noted n (origin a).block u.saved ws u.harmless l) (under-inv l w a ws u);
      }
  sync-kept l off a [] inv = nothing-synced l off a inv
  sync-kept l off a (k ∷ ks) f = absurd f

  -- ## a restart
  pub behind : (l : Ledger) (p : Phase) (a : List ℕ) (es : List Event) → Along noted Says l es → (e : Event)
      → Made noted Says (Inv c n) (folded noted l es) (record { event = e; phase = p; area = a })
      → MadeOn noted Says (InvOn c n) l (record { seen = es ++ (e ∷ []); world = on_disk p (disk a []) })
  behind l p a es before e m =
      let one = lifted (folded noted l es) e p a m in
      record {
        says = along-append noted Says es (e ∷ []) l before one.says;
        keeps = rw (folded-append noted es (e ∷ []) l) one.keeps;
      }

  restarted-on : (l : Ledger) (p : Phase) (a : List ℕ) (es : List Event) → Along noted Says l es → (r : Result State)
      → Answered noted Says (Inv c n) (folded noted l es) (restarted_as p a r) → KeptOn l (leads_as es (disk a []) (restarted_as p a r))
  restarted-on l p a es before (refused f) m = behind l p a es before _ m
  restarted-on l p a es before (done s) m = behind l (idle s) a es before _ m

  -- ## a power failure
  switched-off : (l : Ledger) (p : Phase) (a : List ℕ) → Inv c n l (world p a) → Inv c n l (world off a)
  switched-off l p a inv = record { saved = inv.saved; journal = inv.journal; finds = inv.finds; callable = below-ceiling c n l a p inv }

  abbrev Failed : Ledger → List ℕ → List Write → Type 0
  Failed l a ks = MadeOn noted Says (InvOn c n) l (record { seen = failed (has_header ks) ∷ []; world = on_disk off (disk (written a ks) []) })

  -- nothing is left of what was pending
  none_left : (l : Ledger) (p : Phase) (a : List ℕ) → Inv c n l (world p a) → Failed l a []
  unfolding written has_header Along folded
  none_left l p a inv = record { says = ((tt, tt, tt), tt); keeps = switched-off l p a inv }

  rest-failed : (l : Ledger) (p : Phase) (a : List ℕ) (ks : List Cut) → Inv c n l (world p a) → Failed l a (survivors [] ks)
  unfolding survivors
  rest-failed l p a ks inv = none_left l p a inv

  -- the header is left old, new or torn
  header-failed : (l : Ledger) (w : Writing) (a : List ℕ) (ks : List Cut) → is_last w ≡ true → Inv c n l (world (writing w) a)
      → Failed l a (survivors (write (next_place w) true (next_block w) ∷ []) ks)
  unfolding survivors written has_header Along folded
  header-failed l w a [] t inv = none_left l (writing w) a inv
  header-failed l w a (old ∷ ks) t inv = none_left l (writing w) a inv
  header-failed l w a (new ∷ ks) t inv = record { says = ((tt, tt, tt), tt); keeps = left-new c n l a w inv t }
  header-failed l w a (torn b ∷ ks) t inv =
      split (is_torn b)
      (λ q. rw q (record {
        says = ((tt, tt, tt), tt);
        keeps = left-off c n l a w inv (write_at a (next_place w) b) (torn-journal c n inv.saved a w inv.journal (is-ready inv.callable.0) inv.callable.1 b q);
      }))
      (λ q. rw q (none_left l (writing w) a inv))

  -- any of the harmless blocks are left, whole or torn
  blocks-failed : (l : Ledger) (w : Writing) (a : List ℕ) (ws : List Write) (ks : List Cut) → Under c n l w a ws → Failed l a (survivors ws ks)
  unfolding Along folded under-inv
  blocks-failed l w a ws ks u =
      let left = survivors-harmless n (origin a).block u.saved ws ks u.harmless in
      rw (no_header n (origin a).block u.saved (survivors ws ks) left)
      (record {
        says = ((tt, tt, tt), tt);
        keeps = record {
          saved = u.saved;
          journal = (all-written c n u.saved (survivors ws ks) a u.journal left).journal;
          finds = u.finds;
          callable = below-ceiling c n l (written a ws) (writing w) (under-inv l w a ws u);
        };
      })

  fail_kept : (l : Ledger) (p : Phase) (a : List ℕ) (ws : List Write) (ks : List Cut) → Standing c n l p a ws → Failed l a (survivors ws ks)
  fail_kept l (idle s) a [] ks inv = rest-failed l (idle s) a ks inv
  fail_kept l (idle s) a (x ∷ xs) ks f = rw f.header (header-failed l f.record_of a ks f.last f.inv)
  fail_kept l (writing w) a ws ks u = blocks-failed l w a ws ks u
  fail_kept l off a [] ks inv = rest-failed l off a ks inv
  fail_kept l off a (x ∷ xs) ks f = absurd f

  -- ## every item
  pub header-waits : (l : Ledger) (s : State) (a : List ℕ) (ws : List Write) → Finishing c n l s a ws → has_header ws ≡ true
  unfolding has_header
  header-waits l s a ws f = rw f.header

  module _ (accepted : Passed (start_table c n)) where
    -- what has to be shown of an item
    abbrev Keeps : Ledger → Phase → List ℕ → List Write → DiskItem → Type 0
    Keeps l p a ws i = Standing c n l p a ws → KeptOn l (next_on c p (disk a ws) i)

    ask-item : (l : Ledger) (p : Phase) (a : List ℕ) (ws : List Write) (w : ℕ) (q : Ask) → Keeps l p a ws (does (ask w q))
    unfolding next_on transition has_header written
    ask-item l (idle s) a [] w q inv =
        split (u64 w && fits q) (λ t. rw t (ask-on l s a inv w q (both (u64 w) (fits q) t).1)) (λ t. rw t tt)
    ask-item l (idle s) a (x ∷ xs) w q f = rw (header-waits l s a (x ∷ xs) f) tt
    ask-item l (writing r) a ws w q u =
        split (has_header ws) (λ e. rw e tt) (λ e. rw e (split (u64 w && fits q) (λ t. rw t tt) (λ t. rw t tt)))
    ask-item l off a [] w q inv = split (u64 w && fits q) (λ t. rw t tt) (λ t. rw t tt)
    ask-item l off a (x ∷ xs) w q f = absurd f

    begin-item : (l : Ledger) (p : Phase) (a : List ℕ) (ws : List Write) (w : ℕ) → Keeps l p a ws (does (begin w))
    unfolding next_on transition has_header written
    begin-item l (idle s) a [] w inv =
        split (u64 w) (λ t. rw t (begun-on l s a inv (checkpoint.begin s w) (begin-kept c n l a s inv w))) (λ t. rw t tt)
    begin-item l (idle s) a (x ∷ xs) w f = rw (header-waits l s a (x ∷ xs) f) tt
    begin-item l (writing r) a ws w u =
        split (has_header ws) (λ e. rw e tt) (λ e. rw e (split (u64 w) (λ t. rw t tt) (λ t. rw t tt)))
    begin-item l off a [] w inv = split (u64 w) (λ t. rw t tt) (λ t. rw t tt)
    begin-item l off a (x ∷ xs) w f = absurd f

    step-item : (l : Ledger) (p : Phase) (a : List ℕ) (ws : List Write) → Keeps l p a ws (does step)
    unfolding next_on
    step-item l (idle s) a ws inv = tt
    step-item l (writing w) a ws u = step-on l w a ws u
    step-item l off a ws inv = tt

    restart-item : (l : Ledger) (p : Phase) (a : List ℕ) (ws : List Write) → Keeps l p a ws (does restart)
    unfolding next_on transition
    restart-item l p a ws st =
        let k = sync-kept l p a ws st in
        restarted-on l p (written a ws) (answers ws) k.says (restarts.restart c (written a ws))
        (restart-kept c n (folded noted l (answers ws)) (written a ws) accepted p k.inv)

    elsewhere-item : (l : Ledger) (p : Phase) (a : List ℕ) (ws : List Write) (b : List ℕ) → Keeps l p a ws (steps_on b)
    unfolding next_on transition has_header written
    elsewhere-item l (idle s) a [] b inv = split (eqb (length b) (length a)) (λ t. rw t tt) (λ t. rw t tt)
    elsewhere-item l (idle s) a (x ∷ xs) b f = rw (header-waits l s a (x ∷ xs) f) tt
    elsewhere-item l (writing w) a ws b u =
        rw (no_header n (origin a).block u.saved ws u.harmless)
        (split (eqb (length b) (length (written a ws))) (λ t. rw t tt) (λ t. rw t (elsewhere-on l w a ws u b t)))
    elsewhere-item l off a [] b inv = split (eqb (length b) (length a)) (λ t. rw t tt) (λ t. rw t tt)
    elsewhere-item l off a (x ∷ xs) b f = absurd f

    sync-item : (l : Ledger) (p : Phase) (a : List ℕ) (ws : List Write) → Keeps l p a ws syncs
    unfolding next_on
    sync-item l p a ws st =
        let k = sync-kept l p a ws st in
        record { says = k.says; keeps = rests (folded noted l (answers ws)) p (written a ws) k.inv }

    fail_item : (l : Ledger) (p : Phase) (a : List ℕ) (ws : List Write) (ks : List Cut) → Keeps l p a ws (fails ks)
    unfolding next_on
    fail_item l p a ws ks st = fail_kept l p a ws ks st

    item_on : (l : Ledger) (p : Phase) (a : List ℕ) (ws : List Write) (i : DiskItem) → Keeps l p a ws i
    item_on l p a ws (does (ask w q)) = ask-item l p a ws w q
    item_on l p a ws (does (begin w)) = begin-item l p a ws w
    item_on l p a ws (does step) = step-item l p a ws
    item_on l p a ws (does restart) = restart-item l p a ws
    item_on l p a ws (steps_on b) = elsewhere-item l p a ws b
    item_on l p a ws syncs = sync-item l p a ws
    item_on l p a ws (fails ks) = fail_item l p a ws ks

    pub kept_on : (l : Ledger) (w : OnDisk) (i : DiskItem) → InvOn c n l w → KeptOn l (next_on c w.phase w.disk i)
    kept_on l w i inv = item_on l w.phase w.disk.held w.disk.pending i inv

-- ## restarts
abbrev pub seen_in : Option Then → ℕ
seen_in none = 0
seen_in (some t) = restarts_seen t.seen

pub seen-append : (es fs : List Event) → restarts_seen (es ++ fs) ≡ restarts_seen es + restarts_seen fs
unfolding restarts_seen
seen-append [] fs = omega arith
seen-append (e ∷ es) fs = omega (arith, seen-append es fs)

steps-no-restart : (ws : List Write) → restarts_seen (answers ws) ≡ 0
unfolding restarts_seen answers
steps-no-restart [] = refl
steps-no-restart (w ∷ ws) = split w.place.last (λ t. rw t (omega (arith, steps-no-restart ws))) (λ t. rw t (omega (arith, steps-no-restart ws)))

leads-seen : (es : List Event) (d : Disk) (x : Option After) → restarts_seen es ≡ 0 → seen_in (leads_as es d x) ≡ made x
unfolding restarts_seen
leads-seen es d none e = refl
leads-seen es d (some t) e = seen-append es (t.event ∷ []) ∙ omega (arith, e)

module _ (c : Configuration) where
  unless-seen : (d : Disk) (x : Option Then) → seen_in x ≡ 0 → seen_in (unless_header d x) ≡ 0
  unless-seen d x e = split (has_header d.pending) (λ t. rw t) (λ t. rw t e)

  joins-seen : (d : Disk) (r : Result BlockWritten) (t : Lent) → seen_in (joins d r t) ≡ 0
  unfolding restarts_seen
  joins-seen d (refused f) t = refl
  joins-seen d (done b) t = refl

  pub item-seen : (p : Phase) (d : Disk) (i : DiskItem) → seen_in (next_on c p d i) ≡ restart_on i
  unfolding next_on next restarts_seen
  item-seen p d (does (ask w q)) = unless-seen d _ (leads-seen [] d (transition c p (area d) (ask w q)) refl ∙ next-made c (world p (area d)) (call (ask w q)))
  item-seen p d (does (begin w)) = unless-seen d _ (leads-seen [] d (transition c p (area d) (begin w)) refl ∙ next-made c (world p (area d)) (call (begin w)))
  item-seen (idle s) d (does step) = refl
  item-seen (writing w) d (does step) =
      split (is_last w && not (is_none d.pending)) (λ t. rw t) (λ t. rw t (joins-seen d (checkpoint.step w (area d)).outcome (checkpoint.step w (area d)).state))
  item-seen off d (does step) = refl
  item-seen p d (does restart) =
      leads-seen (answers d.pending) (synced d) (transition c p (area d) restart) (steps-no-restart d.pending) ∙ next-made c (world p (area d)) (call restart)
  item-seen p d (steps_on b) = unless-seen d _ (leads-seen [] d (step_elsewhere c (world p (area d)) b) refl ∙ next-made c (world p (area d)) (step_on b))
  item-seen p d syncs = steps-no-restart d.pending
  item-seen p d (fails ks) = split (has_header (survivors d.pending ks)) (λ t. rw t) (λ t. rw t)

  pub all_seen : (items : List DiskItem) (w : OnDisk) → restarts_seen (run_on c w items) ≡ restarts_on items
  unfolding run_on restarts_seen restarts_on
  all_seen [] w = refl
  all_seen (i ∷ is) w = go (next_on c w.phase w.disk i) refl (all_seen is w) (λ t. all_seen is t.world)
    where
      go : (x : Option Then) → next_on c w.phase w.disk i ≡ x → restarts_seen (run_on c w is) ≡ restarts_on is
          → ((t : Then) → restarts_seen (run_on c t.world is) ≡ restarts_on is)
          → restarts_seen (run_on c w (i ∷ is)) ≡ restart_on i + restarts_on is
      go none e skip rest = rw (e, run_on) (omega (arith, skip, sym (ap seen_in e) ∙ item-seen w.phase w.disk i))
      go (some t) e skip rest =
          rw (e, run_on)
          (omega (arith, seen-append t.seen (run_on c t.world is), rest t, sym (ap seen_in e) ∙ item-seen w.phase w.disk i))

-- ## the demand
pub lawfully-on : (c : Configuration) (n : ℕ) (s : State) (items : List DiskItem) → Fits c.settings → start c n ≡ done s
    → Along noted (Law c.settings.policy) empty_ledger (run_on c (fresh_disk s n) items)
lawfully-on c n s items f e =
    let b = begins_well c n s f e in
    along-on noted (Law c.settings.policy) (InvOn c n) c (kept_on c n b.accepted) items empty_ledger (fresh_disk s n) b.inv

pub unordered : Unordered
unfolding Unordered
unordered c n s items f e =
    let es : List Event = run_on c (fresh_disk s n) items in
    let seen : Along noted (Seen c.settings.policy) empty_ledger es = all-seen c.settings.policy es empty_ledger (lawfully-on c n s items f e) in
    record {
      holds = record {
        bound = λ p o. omega (
          arith,
          rw (all_seen c items (fresh_disk s n)) at (bounded c.settings.policy (limits c p f).0 (limits c p f).1 es seen o),
        );
        generations = none_shared c.settings.policy es empty_ledger seen;
        found = restarts-right c.settings.policy es empty_ledger seen;
      };
      batch = λ p. omega (
        arith,
        rw (all_seen c items (fresh_disk s n)) at (batch-bounded c.settings.policy (limits c p f).0 (limits c p f).1 es seen),
      );
    }
