-- Counts carried one by one: their number never falls on the way, so that the first one too many decides.
-- Assumes nothing.
use Prim.Native.Nat.{ℕ, ◌≤◌}
use native.Mathlib.Omega.{arith}
use mathlib.Core.Path.{◌≡◌, refl, ap, ◌∙◌}
use mathlib.Core.Bool.{false}
use mathlib.Core.List.{List, [], ◌∷◌}
use mathlib.Core.Option.{Option, none, some}
use lib.Dec.{eqb, ltb}
use lib.ListN.{length, drop, drop_of_length-le}
use borrow.Author.Tests.{ltb-true, ltb-false, lt-ltb, le-ltb}
use Rattle.types.specs.Limits.{CARRIED}
use Rattle.types.specs.Refusal.{done}
use Rattle.types.specs.Table.{answer}
use Rattle.types.specs.Keyed.{Entry, lookup, put, Rising}
use Rattle.types.specs.Lists.{entries_of}
use Rattle.types.specs.declared.Pair.{Pair}
use Rattle.types.proofs.Cases.{split}
use Rattle.types.proofs.Keyed.{length-put-old, length-put-new}
use Rattle.lease.specs.State.{Table, Valid, Sound, view, with_carried}
use Rattle.lease.specs.Counts.{carry, carry_all, resume_attempts}
use Rattle.lease.specs.Helpers.{resumed_with}
use Rattle.lease.specs.Answers.{Answers}
use Rattle.lease.specs.declared.LeaseTable.{LeaseTable}
use Rattle.tables.specs.Carried.{held_in, carried_in, within, carry_on, Tidy}
use Rattle.tables.specs.declared.counts.Carried.{Carried}
use Rattle.tables.proofs.Carried.{carry-rising}
use Rattle.lease.proofs.Returns.{Shows, sound_as}
use Rattle.lease.proofs.Valid.{valid-carried}

-- ## all of them
length-carry : (x c lo : ℕ) (l : List (Entry ℕ)) → Rising lo l → length l ≤ length (carry x c l)
length-carry x c lo l r = split (eqb c 0) (λ q. rw q (omega arith)) (λ q. rw q (grown (lookup x l) refl))
  where
    grown : (o : Option ℕ) → lookup x l ≡ o → length l ≤ length (put x c l)
    grown none e = omega (arith, length-put-new x c l e)
    grown (some w) e = omega (arith, length-put-old lo x c w l r e)

length-carry-all : (ps l : List (Entry ℕ)) → Rising 0 l → length l ≤ length (carry_all ps l)
length-carry-all [] l r = omega arith
length-carry-all (p ∷ ps) l r =
    omega (arith, length-carry p.key p.value 0 l r, length-carry-all ps (carry p.key p.value l) (carry-rising p.key p.value l r))

-- each pair of a list, one by one
abbrev pub carry_on_all : List (Entry ℕ) → Option (List (Entry ℕ)) → Option (List (Entry ℕ))
carry_on_all [] c = c
carry_on_all (p ∷ ps) c = carry_on_all ps (carry_on p c)

-- once there are too many, there are too many at the end
pub carried-within : (ps l : List (Entry ℕ)) → Rising 0 l → length l ≤ CARRIED → carry_on_all ps (some l) ≡ within (carry_all ps l)
carried-within [] l r h = rw (le-ltb CARRIED (length l) h)
carried-within (p ∷ ps) l r h =
    let more : List (Entry ℕ) = carry p.key p.value l in
    let rise : Rising 0 more = carry-rising p.key p.value l r in
    split (ltb CARRIED (length more))
    (λ q. rw q (carried_none ps ∙ rw (lt-ltb CARRIED (length (carry_all ps more)) (omega (arith, ltb-true CARRIED (length more) q, length-carry-all ps more rise)))))
    (λ q. rw q (carried-within ps more rise (ltb-false CARRIED (length more) q)))
  where
    carried_none : (qs : List (Entry ℕ)) → carry_on_all qs none ≡ none
    carried_none [] = refl
    carried_none (q ∷ qs) = carried_none qs

-- ## the call
module _ (t : LeaseTable) (ok : Sound t) (c : Carried) (tidy : Tidy c) where
  pub resumed : c.full ≡ false → length (held_in c) ≤ CARRIED → {after : LeaseTable} → Shows after (with_carried (view t) (held_in c)) → Answers (done tt) t after (resumed_with (view t) (carried_in c))
  resumed e few m =
      record { is = rw e (ap (answer (done tt)) m.is); sound = sound_as m (valid-carried (view t) (held_in c) ok.valid tidy.rising few tidy.counted); kept = tt }

-- the pairs from place i on are left: none, where there are no more than i
pub pair_end : (ps : List Pair) (i : ℕ) (c : Carried) → length ps ≤ i → carry_on_all (entries_of (drop i ps)) (carried_in c) ≡ carried_in c
pair_end ps i c h = rw (drop_of_length-le ps {i = i} h)

-- what the counts carried on make of the table is what the definition says
pub resumed-all : (t : Table) (ps : List (Entry ℕ)) → Valid t → resumed_with t (carry_on_all ps (some t.carried)) ≡ resume_attempts t ps
unfolding resume_attempts
resumed-all t ps v =
    let all : List (Entry ℕ) = carry_all ps t.carried in
    ap (resumed_with t) (carried-within ps t.carried v.carried-rising v.carried-few)
    ∙ split (ltb CARRIED (length all)) (λ q. rw q) (λ q. rw q)
