-- Theorems about demand 3's lists on the disk: what the events before tell of tokens is a function of their effects, which a list in order has too,
-- and a call on the state is answered there as here. Assumes nothing.
use Prim.Native.Nat.{ℕ}
use mathlib.Core.Path.{◌≡◌, refl, sym, ap, ◌∙◌}
use mathlib.Core.Bool.{true, false}
use mathlib.Core.List.{List, [], ◌∷◌}
use mathlib.Core.Option.{Option, none, some, none-ne-some}
use Rattle.types.specs.Refusal.{done}
use Rattle.types.proofs.Cases.{split}
use Rattle.journal.proofs.Sound.{differ}
use Rattle.consumer.specs.State.{Configuration}
use Rattle.consumer.specs.Rights.{Operation}
use Rattle.machine.specs.Calls.{Call, claim, ask, begin, step, restart, Event, claimed}
use Rattle.machine.specs.Transitions.{Phase, After, transition}
use Rattle.crash_safety.specs.Effects.{Effect, handing, settling, requeuing, renewing, restarting, nothing, effect_of}
use Rattle.crash_safety.specs.Book.{empty_book}
use Rattle.crash_safety.specs.Runs.{World, world, after, run, ends, fresh_world}
use Rattle.crash_safety.specs.Workers.{caller_of, NothingWithoutRight, TokenOfOne}
use Rattle.crash_safety.specs.Tokens.{Tokens, no_tokens, tokens_after, tokens_in, NoStaleToken}
use Rattle.crash_safety.specs.Hours.{InOpeningHours}
use Rattle.crash_safety.specs.Law.{LawOnDisk}
use Rattle.crash_safety.specs.InOrder.{told, effects_of, InOrder}
use Rattle.crash_safety.specs.Unordered.{does, OnDisk, on_disk, Then, leads, leads_as, is_on_state, unless_header, next_on, run_on, ends_on, fresh_disk}
use Rattle.crash_safety.specs.Disk.{Disk, area, has_header}
use Rattle.crash_safety.specs.Likewise.{SeenAs, NothingForgottenOnDisk, NoStaleTokenOnDisk, TokenOfOneOnDisk, NothingWithoutRightOnDisk, InHoursOnDisk}
use Rattle.crash_safety.proofs.Law.{empty_ledger, noted, Law, folded}
use Rattle.crash_safety.proofs.Start.{begins_well}
use Rattle.crash_safety.proofs.Workers.{some_inj, nothing-without-right}
use Rattle.crash_safety.proofs.Holders.{token-of-one}
use Rattle.crash_safety.proofs.Tokens.{no-stale-token}
use Rattle.crash_safety.proofs.Hours.{in_opening-hours}
use Rattle.crash_safety.proofs.Settled as settled
use Rattle.crash_safety.proofs.OnDisk.{MadeOn, at-end-on}
use Rattle.crash_safety.proofs.Unordered.{InvOn, kept_on}
use Rattle.crash_safety.proofs.ForGood.{law-on-disk}
use Rattle.crash_safety.proofs.InOrder.{all, likewise, fresh_match, in_order}

pub nothing_forgotten_on-disk : NothingForgottenOnDisk
unfolding NothingForgottenOnDisk LawOnDisk
nothing_forgotten_on-disk c n s items f e left here o t =
    let law = law-on-disk c n s items f e in
    settled.all o (run_on c (fresh_disk s n) items) false empty_book (record { page = λ q. q; copy = λ q. q })
    (sym ((law.agrees left here).settles o) ∙ t)

-- ## tokens
abbrev tokens_by : Tokens → List Effect → Tokens
tokens_by t [] = t
tokens_by t (x ∷ xs) = tokens_by (tokens_after t x) xs

told-by : (t : Tokens) (x : Effect) (xs : List Effect) → tokens_by t (told x xs) ≡ tokens_by (tokens_after t x) xs
told-by t (handing o h) xs = refl
told-by t (settling named) xs = refl
told-by t (requeuing o) xs = refl
told-by t renewing xs = refl
told-by t (restarting a) xs = refl
told-by t nothing xs = refl

tokens-by : (es : List Event) (t : Tokens) → tokens_in t es ≡ tokens_by t (effects_of es)
unfolding tokens_in effects_of
tokens-by [] t = refl
tokens-by (e ∷ es) t = tokens-by es (tokens_after t (effect_of e)) ∙ sym (told-by t (effect_of e) (effects_of es))

pub no-stale-token-on-disk : NoStaleTokenOnDisk
unfolding NoStaleTokenOnDisk NoStaleToken InOrder
no-stale-token-on-disk c n s items f e w q o g token x p d is =
    let k = in_order c n s items f e in
    let a = k.answers (ask w q) refl x p d is in
    let same : tokens_in no_tokens (run_on c (fresh_disk s n) items) ≡ tokens_in no_tokens (run c (fresh_world s n) k.list) =
    tokens-by (run_on c (fresh_disk s n) items) no_tokens ∙ ap (tokens_by no_tokens) k.same ∙ sym (tokens-by (run c (fresh_world s n) k.list) no_tokens) in
    rw (same, ← a.event) (no-stale-token c n s k.list f e w q o g token a.after a.made)

-- the claim, and what comes then, on both
pub token-of-one-on-disk : TokenOfOneOnDisk
unfolding TokenOfOneOnDisk TokenOfOne
token-of-one-on-disk c n s before between f e v o now h p d claims w q other token x p' d' is =
    let b = begins_well c n s f e in
    let P = Law c.settings.policy in
    let first = all c n b.accepted before empty_ledger (fresh_disk s n) (fresh_world s n) b.inv (fresh_match c n s b.inv) in
    let mid = ends_on c (fresh_disk s n) before in
    let l = folded noted empty_ledger (run_on c (fresh_disk s n) before) in
    let inv = at-end-on noted P (InvOn c n) c (kept_on c n b.accepted) before empty_ledger (fresh_disk s n) b.inv in
    let there = likewise c n b.accepted (ask v (claim o now)) refl l mid.phase mid.disk.held mid.disk.pending inv
    (ends c (fresh_world s n) first.list) first.matches (claimed o now (done h)) p d claims in
    let t = there.answered.after in
    let made : MadeOn noted P (InvOn c n) l (record { seen = claimed o now (done h) ∷ []; world = on_disk p d }) =
    rw claims at (kept_on c n b.accepted l mid (does (ask v (claim o now))) inv) in
    let m = folded noted l (claimed o now (done h) ∷ []) in
    let then = all c n b.accepted between m (on_disk p d) (after t) made.keeps there.matches in
    let end = ends_on c (on_disk p d) between in
    let last-inv = at-end-on noted P (InvOn c n) c (kept_on c n b.accepted) between m (on_disk p d) made.keeps in
    let u = likewise c n b.accepted (ask w q) refl (folded noted m (run_on c (on_disk p d) between)) end.phase end.disk.held end.disk.pending last-inv
    (ends c (after t) then.list) then.matches x p' d' is in
    rw (← u.answered.event)
    (token-of-one c n s first.list then.list f e v o now h t there.answered.made there.answered.event w q other token u.answered.after u.answered.made)

-- ## rights
caller_on-state : (q : Call) (v : ℕ) (op : Operation) → caller_of q ≡ some (v, op) → is_on_state q ≡ true
caller_on-state (ask w q) v op e = refl
caller_on-state (begin w) v op e = refl
caller_on-state step v op e = absurd (none-ne-some _ e)
caller_on-state restart v op e = absurd (none-ne-some _ e)

-- a call on the state leaves the disk
unless-same : (d d' : Disk) (x : Option After) (e : Event) (p : Phase) → unless_header d (leads_as [] d x) ≡ leads (e ∷ []) p d' → d' ≡ d
unless-same d d' x e p is = split (has_header d.pending) (λ t. absurd (none-ne-some _ (rw t at is))) (λ t. go x (rw t at is))
  where
    go : (x : Option After) → leads_as [] d x ≡ leads (e ∷ []) p d' → d' ≡ d
    go none is = absurd (none-ne-some _ is)
    go (some t) is = sym (ap (λ (u : Then). u.world.disk) (some_inj is))

same-disk : (c : Configuration) (w : OnDisk) (q : Call) → is_on_state q ≡ true → (e : Event) (p : Phase) (d : Disk) → SeenAs c w q e p d → d ≡ w.disk
unfolding next_on
same-disk c w (ask v q) z e p d is = unless-same w.disk d (transition c w.phase (area w.disk) (ask v q)) e p is
same-disk c w (begin v) z e p d is = unless-same w.disk d (transition c w.phase (area w.disk) (begin v)) e p is
same-disk c w step z e p d is = absurd (differ z refl)
same-disk c w restart z e p d is = absurd (differ z refl)

pub nothing-without-right-on-disk : NothingWithoutRightOnDisk
unfolding NothingWithoutRightOnDisk NothingWithoutRight InOrder
nothing-without-right-on-disk c n s items f e q v op caller r rows x p d is =
    let k = in_order c n s items f e in
    let on = caller_on-state q v op caller in
    let a = k.answers q on x p d is in
    let turned = nothing-without-right c n s k.list f e q v op caller r rows a.after a.made in
    let w = ends c (fresh_world s n) k.list in
    let phase : p ≡ w.phase = sym a.phase ∙ ap (λ (u : World). u.phase) turned.kept in
    record {
      answered = rw (← a.event) turned.answered;
      kept = phase ∙ a.same;
      disk = same-disk c (ends_on c (fresh_disk s n) items) q on x p d is;
    }

-- ## hours
pub in_hours-on-disk : InHoursOnDisk
unfolding InHoursOnDisk InOpeningHours InOrder
in_hours-on-disk c n s items f e left here none-pending =
    let k = in_order c n s items f e in
    in_opening-hours c n s k.list f e left (k.state left here none-pending)
