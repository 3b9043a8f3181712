-- `is_supervisor` meets its contract: a supervisor is permitted what the mark would permit. Assumes nothing.
use mathlib.Core.Path.{◌≡◌, refl, sym, ◌∙◌}
use Rattle.std.specs.Prelude.{Ok, Err, is_ok}
use Rattle.std.specs.Prelude as std
use Rattle.types.specs.Limits.{WORKERS}
use Rattle.types.specs.declared.refusals.Refusal.{Refusal}
use Rattle.words.specs.Columns.{column}
use Rattle.lease.specs.Operations.{is_none}
use Rattle.consumer.specs.View.{permission_of}
use Rattle.consumer.proofs.Standing.{supervises-by}
use Rattle.consumer_words.specs.Layout.{RIGHTS}
use Rattle.consumer_words.proofs.reads.is_supervisor.Goals as goal

permitted : (r : std.Result (Unit {0}) Refusal) → is_ok r ≡ is_none (permission_of r)
permitted (Ok x) = refl
permitted (Err r) = refl

pub returns : goal.returns
returns c = c.is_ok.ensures.value ∙ permitted c.permission_of.result ∙ sym (supervises-by (column RIGHTS WORKERS c.args.words.now) c.args.worker c.permission_of.ensures)
