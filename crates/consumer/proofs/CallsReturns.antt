-- What each kind of answer owes its contract: a refusal the first test that holds, an effect that every test failed, that the struct
-- shows the definition's state and that its parts are sound.
-- Assumes nothing.
use mathlib.Core.Path.{◌≡◌, refl, sym, ap, subst, ◌∙◌}
use mathlib.Core.List.{List}
use mathlib.Core.Option.{some}
use Rattle.types.specs.Refusal.{Refusal, refused, done}
use Rattle.types.specs.Table.{Row, first, Passed, Answer, answer, guarded}
use Rattle.types.proofs.Table.{guarded-passed, guarded-refused}
use Rattle.cursor.specs.View as cursor
use Rattle.cursor.specs.declared.AckCursor.{AckCursor}
use Rattle.lease.specs.State as lease
use Rattle.lease.specs.Parts as parts
use Rattle.lease.specs.declared.LeaseTable.{LeaseTable}
use Rattle.consumer.specs.State.{State}
use Rattle.consumer.specs.Valid.{Valid}
use Rattle.consumer.specs.View.{view, Sound, Answers, holding_both}
use Rattle.consumer.specs.Parts.{Whole}
use Rattle.consumer.specs.declared.Consumer.{Consumer}

-- the table of a consumer that is lent
pub table-whole : {c : Consumer} → Whole c → parts.Whole c.table
table-whole w = record { full = w.full; sound = w.sound.table }

-- a consumer with another cursor and another table, which shows a state of which all holds
pub sound-with : (c : Consumer) → Sound c → {k : AckCursor} {t : LeaseTable} {s : State} → cursor.Sound k → lease.Sound t → view (holding_both c k t) ≡ s
    → Valid s → Sound (holding_both c k t)
sound-with c ok p q e v = record { cursor = p; table = q; settings = ok.settings; valid = subst Valid (sym e) v }

module _ {A : Type 0} (c : Consumer) (ok : Sound c) (ws : List Row) where
  pub refuses : (r : Refusal) (right : Answer A State) → first ws ≡ some r → Answers (refused r) c c (guarded ws (view c) right)
  refuses r right e = record { is = sym (guarded-refused ws (view c) right r e); sound = ok; kept = refl }

  pub takes_effect : (a : A) {after : Consumer} {s : State} → Passed ws → view after ≡ s → Sound after
      → Answers (done a) c after (guarded ws (view c) (answer (done a) s))
  takes_effect a {after} {s} p e sound =
      record {
        is = ap (answer (done a)) e ∙ sym (guarded-passed ws (view c) (answer (done a) s) p);
        sound = sound;
        kept = tt;
      }
