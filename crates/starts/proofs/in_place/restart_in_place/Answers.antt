-- `restart_in_place` meets its contract: a test's refusal, or what the walk over the whole area and its last group say. Assumes
-- nothing.
use Prim.Native.Nat.{◌+◌}
use native.Mathlib.Omega.{arith}
use mathlib.Core.Path.{◌≡◌, ap}
use lib.ListN.{length}
use Rattle.std.proofs.lemmas.Result.{err_from_is_err_and}
use Rattle.std.specs.Prelude as std
use Rattle.types.specs.Refusal.{done}
use Rattle.types.specs.declared.refusals.Refusal.{Refusal}
use Rattle.journal.specs.Answers.{stop_of}
use Rattle.raw.proofs.Bytes.{bytes-known}
use Rattle.consumer.specs.State.{NextGroup}
use Rattle.consumer.specs.Valid.{Fits}
use Rattle.starts.specs.Restart.{limit, from_walk}
use Rattle.starts.specs.Starting.{configuration_of, StopIs}
use Rattle.starts.specs.Parts.{Columns, ReadIs, RestartedIn}
use Rattle.starts.specs.declared.in_place.RestartedAt.{RestartedAt}
use Rattle.starts.proofs.Halves.{limit-within}
use Rattle.starts.proofs.Restarting.{restart-refused, walk-refused, walk-stopped, stopped-lies, end-refused, none-read, last-read, restarted}
use borrow.Author.Rules.{rules}
use Rattle.starts.proofs.in_place.restart_in_place.Goals as goal
use Rattle.starts.proofs.in_place.restart_in_place.Goals.{After-half_blocks, In_ok-stop}

pub returns-in_err-check_start : goal.returns-in_err-check_start
returns-in_err-check_start c =
    let p = err_from_is_err_and c.from_residual.result c.from_residual.ensures.1 in
    rw (p.1, p.2) (restart-refused c.args.configuration c.args.area.now _ c.in_err-check_start.ensures _)

-- the block that no group of the half may pass
ends : (c : After-half_blocks) → c.origin-from.result.block + c.half_blocks.result ≡ limit c.args.area.now
ends c = omega (arith, ap (λ (x : NextGroup). x.block) c.origin-from.ensures, c.half_blocks.ensures)

pub overflow_add-hi : goal.overflow_add-hi
overflow_add-hi c = omega (arith, ends (goal.at.overflow_add-hi c).After-half_blocks, limit-within c.args.area.now)

pub returns-in_err-stop : goal.returns-in_err-stop
returns-in_err-stop c =
    let p = err_from_is_err_and c.from_residual-in_err-stop.result c.from_residual-in_err-stop.ensures.1 in
    -- what the types of the configuration say
    let full : length c.args.configuration.settings.delivery.backoff_nanos ≡ 16 = search rules in
    let fits : Fits (configuration_of c.args.configuration).settings = record { limit-fits = search rules; threshold-fits = search rules } in
    rw (p.1, p.2)
    (walk-refused c.args.configuration c.args.area.now c.in_ok-check_start.ensures full fits (bytes-known c.args.area.now c.shared_slice_known-1.given)
    c.origin-from.result c.origin-from.ensures _ (ends (goal.at.returns-in_err-stop c).After-half_blocks) _ c.in_err-stop.ensures _)

pub check_end-requires : goal.check_end-requires
check_end-requires c = ends (goal.at.check_end-requires c).After-half_blocks

-- where the walk ended
stopped : (c : In_ok-stop) → StopIs c.args.area.now c.in_ok-stop.stop
stopped c =
    -- what the types of the configuration say
    let full : length c.args.configuration.settings.delivery.backoff_nanos ≡ 16 = search rules in
    let fits : Fits (configuration_of c.args.configuration).settings = record { limit-fits = search rules; threshold-fits = search rules } in
    walk-stopped c.args.configuration c.args.area.now c.in_ok-check_start.ensures full fits c.origin-from.result c.origin-from.ensures _
    (omega (arith, ap (λ (x : NextGroup). x.block) c.origin-from.ensures, c.half_blocks.ensures)) _ c.in_ok-stop.ensures

-- what was read behind the walk is what the whole restart finds
whole : (c : In_ok-stop) (r : std.Result RestartedAt Refusal) (p p' : Columns)
    → ReadIs (λ k. from_walk k c.args.area.now (done (stop_of c.in_ok-stop.stop))) (length c.args.area.now) r p p'
    → RestartedIn c.args.configuration c.args.area.now r p p'
whole c r p p' i =
    -- what the types of the configuration say
    let full : length c.args.configuration.settings.delivery.backoff_nanos ≡ 16 = search rules in
    let fits : Fits (configuration_of c.args.configuration).settings = record { limit-fits = search rules; threshold-fits = search rules } in
    restarted c.args.configuration c.args.area.now c.in_ok-check_start.ensures full fits (bytes-known c.args.area.now c.shared_slice_known-1.given)
    c.in_ok-stop.stop (stopped c) r p p' i

pub returns-in_err-check_end : goal.returns-in_err-check_end
returns-in_err-check_end c =
    let p = err_from_is_err_and c.from_residual-in_err-check_end.result c.from_residual-in_err-check_end.ensures.1 in
    rw (p.1, p.2)
    (whole (goal.at.returns-in_err-check_end c).In_ok-stop _ _ _ (end-refused c.args.area.now c.in_ok-stop.stop _ c.in_err-check_end.ensures _))

pub returns-in_default : goal.returns-in_default
returns-in_default c =
    rw c.fresh_numbers.ensures
    (whole (goal.at.returns-in_default c).In_ok-stop _ _ _ (none-read c.args.area.now c.in_ok-stop.stop c.in_ok-check_end.ensures c.in_default.is _))

pub read_group-requires : goal.read_group-requires
read_group-requires c =
    (stopped-lies c.args.area.now c.in_ok-stop.stop _ (stopped (goal.at.read_group-requires c).In_ok-stop) c.in-Some.is, c.requires)

pub returns : goal.returns
returns c =
    whole (goal.at.returns c).In_ok-stop _ _ _
    (last-read c.args.area.now c.in_ok-stop.stop c.in_ok-check_end.ensures _ c.in-Some.is c.read_group.result _ _ c.read_group.ensures)
