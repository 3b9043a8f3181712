-- What an ack on the parts of a cursor answers, told in its number. Assumes nothing.
use Prim.Native.Nat.{ℕ}
use mathlib.Core.Path.{◌≡◌, ap, subst, ◌∙◌}
use mathlib.Core.Bool.{Bool}
use Rattle.types.specs.Refusal.{Result}
use Rattle.types.specs.Table.{Answer}
use Rattle.cursor.specs.Cursor.{Cursor}
use Rattle.cursor.specs.Answers.{Updated}
use Rattle.cursor.specs.declared.AckCursor.{AckCursor}
use Rattle.exports.specs.InPlace.{ack_number, AckedInPlace}

pub told_so : {before after : AckCursor} {outcome : Result Bool} {right : Answer Bool Cursor} {n : ℕ} → n ≡ ack_number outcome → Updated before outcome after right → AckedInPlace before n after right
told_so {before} {after} {outcome} {right} p u =
    let same : outcome ≡ right.outcome = ap (λ (a : Answer Bool Cursor). a.outcome) u.is in
    record { told = p ∙ ap ack_number same; updated = subst (λ (o : Result Bool). Updated before o after right) same u }
