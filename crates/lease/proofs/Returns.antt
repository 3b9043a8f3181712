-- What each kind of answer owes its contract: a refusal the first test that holds, an effect that every test failed and
-- that the struct shows the definition's table.
-- Assumes nothing.
use Prim.Native.Nat.{◌≤◌}
use mathlib.Core.Path.{◌≡◌, refl, sym, ap, subst, ◌∙◌}
use mathlib.Core.List.{List}
use mathlib.Core.Option.{some}
use Rattle.types.specs.Limits.{LEASES, CARRIED}
use Rattle.types.specs.Refusal.{Refusal, refused, done}
use Rattle.types.specs.Table.{Row, first, Passed, Answer, answer, guarded}
use Rattle.types.proofs.Table.{guarded-passed, guarded-refused}
use Rattle.tables.specs.Slots.{Permutes}
use Rattle.lease.specs.State.{Table, Valid, Sound, view}
use Rattle.lease.specs.Answers.{Answers, Becomes}
use Rattle.lease.specs.declared.LeaseTable.{LeaseTable}

-- the struct shows a table
pub record Shows (t : LeaseTable) (s : Table) : Type 0 where
  pub len : t.len ≤ LEASES
  pub carried-len : t.carried_len ≤ CARRIED
  pub slots : Permutes LEASES t.slots
  pub is : view t ≡ s

pub sound_as : {t : LeaseTable} {s : Table} → Shows t s → Valid s → Sound t
sound_as h v = record { len = h.len; carried-len = h.carried-len; slots = h.slots; valid = subst Valid (sym h.is) v }

module _ {A : Type 0} (t : LeaseTable) (ok : Sound t) (ws : List Row) where
  pub refuses : (r : Refusal) (right : Answer A Table) → first ws ≡ some r → Answers (refused r) t t (guarded ws (view t) right)
  refuses r right e = record { is = sym (guarded-refused ws (view t) right r e); sound = ok; kept = refl }

  pub takes_effect : (a : A) {after : LeaseTable} {s : Table} → Passed ws → Shows after s → Valid s
      → Answers (done a) t after (guarded ws (view t) (answer (done a) s))
  takes_effect a {after} {s} p h v =
      record {
        is = ap (answer (done a)) h.is ∙ sym (guarded-passed ws (view t) (answer (done a) s) p);
        sound = sound_as h v;
        kept = tt;
      }

pub becomes : {after : LeaseTable} {s : Table} → Shows after s → Valid s → Becomes after s
becomes h v = record { is = h.is; sound = sound_as h v }
