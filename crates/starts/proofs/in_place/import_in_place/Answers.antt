-- `import_in_place` meets its contract: a test's refusal, or what the two snapshots say. Assumes nothing.
use Prim.Native.Nat.{◌≤◌}
use mathlib.Core.Path.{◌≡◌}
use lib.ListN.{length}
use Rattle.types.specs.Limits.{MAX}
use Rattle.std.proofs.lemmas.Result.{err_from_is_err_and}
use Rattle.raw.proofs.Bytes.{bytes-known}
use Rattle.consumer.specs.Valid.{Fits}
use Rattle.starts.specs.Starting.{configuration_of}
use Rattle.starts.proofs.Restarting.{import-refused, imported}
use borrow.Author.Rules.{rules}
use Rattle.starts.proofs.in_place.import_in_place.Goals as goal

pub returns-in_err-check_start : goal.returns-in_err-check_start
returns-in_err-check_start c =
    let p = err_from_is_err_and c.from_residual.result c.from_residual.ensures.1 in
    rw (p.1, p.2)
    (import-refused c.args.configuration c.args.area_len c.args.first.0 c.args.cursor.now c.args.attempts.now _ c.in_err-check_start.ensures _)

pub returns : goal.returns
returns c =
    -- what the types say
    let full : length c.args.configuration.settings.delivery.backoff_nanos ≡ 16 = search rules in
    let fits : Fits (configuration_of c.args.configuration).settings = record { limit-fits = search rules; threshold-fits = search rules } in
    let first_fits : c.args.first.0 ≤ MAX = search rules in
    let cursor = c.args.cursor.now in
    let attempts = c.args.attempts.now in
    imported c.args.configuration c.args.area_len c.args.first.0 cursor attempts c.in_ok-check_start.ensures full fits first_fits
    (bytes-known cursor c.shared_slice_known-1.given) (bytes-known attempts c.shared_slice_known-2-1.given)
    c.read_snapshots.result _ _ (c.read_snapshots.ensures c.args.area_len)
