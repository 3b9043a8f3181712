-- The parts of a consumer, as the calls in place are lent them: numbers and columns, and the consumers that have them.
-- SPEC.md, "State".
use Rattle.std.specs.Prelude.{ℕ, ◌<◌, ◌≡◌, Bool, true, false, Ok, Err, List, [], ◌∷◌, length}
use Rattle.std.specs.Prelude as std
use Rattle.std.proofs.Math.Option.{none}
use Rattle.types.specs.Limits.{WORKERS}
use Rattle.types.specs.Refusal.{Result, refused, done}
use Rattle.types.specs.Refused.{refusal_of, result_of}
use Rattle.types.specs.declared.refusals.Refusal as code_refusal
use Rattle.types.specs.Table.{first, checked, Answer, answer}
use Rattle.types.specs.Lists.{listed, offsets_in}
use Rattle.types.specs.declared.lent.OffsetList.{OffsetList}
use Rattle.cursor.specs.View.{ack_cursor}
use Rattle.cursor.specs.View as cursor
use Rattle.cursor.specs.declared.AckCursor.{AckCursor}
use Rattle.delivery.specs.Policy.{destination}
use Rattle.delivery.specs.declared.DeliveryConfig.{DeliveryConfig}
use Rattle.hours.specs.declared.Hours.{Hours}
use Rattle.tables.specs.Search.{Placed}
use Rattle.tables.specs.declared.Place.{Place}
use Rattle.lease.specs.declared.LeaseConfig.{LeaseConfig}
use Rattle.lease.specs.declared.LeaseTable.{LeaseTable}
use Rattle.lease.specs.Operations.{Grant}
use Rattle.lease.specs.Parts.{Full, OwnedAt, gathered, leasing, extending, requeuing, releasing, listing_all, timing, carrying}
use Rattle.lease.specs.Parts as lease
use Rattle.consumer.specs.State.{State}
use Rattle.consumer.specs.Rights.{Operation, bit_of}
use Rattle.consumer.specs.Calls.{HandOut, claim_rows, claim_table, token_rows, attempt_of, with_committed, commit}
use Rattle.consumer.specs.Questions.{Question, Plan, reply, look, bytes_after, waiting_at, export_to, export}
use Rattle.consumer.specs.Standing.{view_of}
use Rattle.consumer.specs.Export.{Snapshots, exported, snapshots_after}
use Rattle.consumer.specs.View.{view, Sound, Answers, Commits, holding, holding_both, test_of, plan_of, export_of, view_in}
use Rattle.consumer.specs.declared.Consumer.{Consumer}
use Rattle.consumer.specs.declared.snapshots.Lengths.{Lengths}
use Rattle.consumer.specs.declared.views.View as code
use Rattle.consumer.specs.declared.steps.HeldAt.{HeldAt}

-- ## a consumer with other values in the parts that a call looks at
-- with another ceiling, another policy, another cursor and another table
abbrev pub made : ℕ → DeliveryConfig → AckCursor → LeaseTable → Consumer → Consumer
made ceiling policy cursor table c =
    record {
      cursor = cursor;
      table = table;
      ceiling = record { 0 = ceiling };
      next = c.next;
      area_len = c.area_len;
      settings = record { delivery = policy; rights = c.settings.rights; hours = c.settings.hours };
    }

-- with other rights
abbrev pub permitting : List ℕ → Consumer → Consumer
permitting rights c =
    record {
      cursor = c.cursor;
      table = c.table;
      ceiling = c.ceiling;
      next = c.next;
      area_len = c.area_len;
      settings = record { delivery = c.settings.delivery; rights = rights; hours = c.settings.hours };
    }

-- and with other parts beside them
abbrev pub permitted : List ℕ → (Consumer → Consumer) → Consumer → Consumer
permitted rights with c = with (permitting rights c)

-- with other hours, and with other parts beside them
abbrev pub keeping_hours : Hours → Consumer → Consumer
keeping_hours hours c =
    record {
      cursor = c.cursor;
      table = c.table;
      ceiling = c.ceiling;
      next = c.next;
      area_len = c.area_len;
      settings = record { delivery = c.settings.delivery; rights = c.settings.rights; hours = hours };
    }

abbrev pub in_hours : Hours → (Consumer → Consumer) → Consumer → Consumer
in_hours hours with c = with (keeping_hours hours c)

-- a policy with another limit and another threshold, and one with another schedule
abbrev pub limiting : ℕ → ℕ → DeliveryConfig → DeliveryConfig
limiting limit threshold d =
    record {
      max_deliver = limit;
      allow_unlimited = d.allow_unlimited;
      backoff_nanos = d.backoff_nanos;
      backoff_len = d.backoff_len;
      attempts_flush_redeliveries = threshold;
    }

abbrev pub delaying : List ℕ → ℕ → DeliveryConfig → DeliveryConfig
delaying backoffs n d =
    record {
      max_deliver = d.max_deliver;
      allow_unlimited = d.allow_unlimited;
      backoff_nanos = backoffs;
      backoff_len = n;
      attempts_flush_redeliveries = d.attempts_flush_redeliveries;
    }

-- claim: the rights, the hours, the ceiling, the limit, the threshold, the cursor and the table
abbrev pub claiming : List ℕ → Hours → ℕ → ℕ → ℕ → AckCursor → LeaseTable → Consumer → Consumer
claiming rights hours ceiling limit threshold cursor table =
    permitted rights (in_hours hours (λ c. made ceiling (limiting limit threshold c.settings.delivery) cursor table c))

-- its test: the same without the rights, the limit, the configuration of the leases and four of their columns
abbrev pub testing : Hours → ℕ → ℕ → AckCursor → ℕ → ℕ → ℕ → ℕ → List ℕ → List ℕ → List ℕ → List ℕ → List ℕ → Consumer → Consumer
testing hours ceiling threshold cursor n m g r ks slots ds cks cvs c =
    claiming c.settings.rights hours ceiling c.settings.delivery.max_deliver threshold cursor
    (gathered c.table.config n m g r ks slots c.table.generations c.table.attempt_starts ds c.table.deliveries c.table.workers cks cvs) c

-- the test of a token: the rights, and the number and five columns of the leases
abbrev pub owning : List ℕ → ℕ → List ℕ → List ℕ → List ℕ → List ℕ → List ℕ → Consumer → Consumer
owning rights n ks slots gs ns ws = permitted rights (λ c. holding c (lease.counting n ks slots gs ns ws c.table))

-- Ack and Term: the same and the cursor
abbrev pub settling : List ℕ → AckCursor → ℕ → List ℕ → List ℕ → List ℕ → List ℕ → List ℕ → Consumer → Consumer
settling rights cursor n ks slots gs ns ws = permitted rights (λ c. holding_both c cursor (lease.counting n ks slots gs ns ws c.table))

-- Nack: the rights, the hours, the ceiling, the schedule, the configuration of the leases, the next generation, and the number and six
-- columns of the leases
abbrev pub nacking : List ℕ → Hours → ℕ → List ℕ → ℕ → LeaseConfig → ℕ → ℕ → List ℕ → List ℕ → List ℕ → List ℕ → List ℕ → List ℕ → Consumer → Consumer
nacking rights hours ceiling backoffs m config n g ks slots gs ds ns ws =
    permitted rights
    (in_hours hours
    (λ c.
    made ceiling (delaying backoffs m c.settings.delivery) c.cursor
    (requeuing g slots gs ds
    (extending config slots c.table.attempt_starts ds (leasing n ks slots gs c.table.attempt_starts ds ns ws c.table))) c))

-- Progress: the rights, the configuration of the leases, their number and their columns
abbrev pub progressing : List ℕ → LeaseConfig → ℕ → List ℕ → List ℕ → List ℕ → List ℕ → List ℕ → List ℕ → List ℕ → Consumer → Consumer
progressing rights config n ks slots gs ss ds ns ws =
    permitted rights (λ c. holding c (extending config slots ss ds (leasing n ks slots gs ss ds ns ws c.table)))

-- the test of a commit: the rights and committed
abbrev pub deciding : List ℕ → ℕ → Consumer → Consumer
deciding rights committed =
    permitted rights
    (λ c. holding_both c (ack_cursor committed c.cursor.starts c.cursor.ends c.cursor.runs) c.table)

-- Commit: the rights, the cursor, the numbers, offsets and slots of the leases, and the carried counts
abbrev pub committing : List ℕ → AckCursor → ℕ → ℕ → List ℕ → List ℕ → List ℕ → List ℕ → Consumer → Consumer
committing rights cursor n m ks slots cks cvs =
    permitted rights (λ c. holding_both c cursor (releasing n m ks slots cks cvs c.table))

-- the count of an offset: the offsets, slots and counts of the leases, and the carried counts
abbrev pub counting : ℕ → ℕ → List ℕ → List ℕ → List ℕ → List ℕ → List ℕ → Consumer → Consumer
counting n m ks slots ns cks cvs c = holding c (listing_all n m ks slots ns cks cvs c.table)

-- the waiting list: the offsets, slots and deadlines of the leases, and the carried offsets
abbrev pub awaiting : ℕ → ℕ → List ℕ → List ℕ → List ℕ → List ℕ → Consumer → Consumer
awaiting n m ks slots ds cks c = holding c (carrying m cks c.table.carried_counts (timing n ks slots ds c.table))

-- what is shown of an offset: the rights, the cursor, and the numbers and the columns of the leases and of the carried counts
abbrev pub showing : List ℕ → AckCursor → ℕ → ℕ → List ℕ → List ℕ → List ℕ → List ℕ → List ℕ → List ℕ → List ℕ → List ℕ → List ℕ → Consumer → Consumer
showing rights cursor n m ks slots gs ss ds ns ws cks cvs =
    permitted rights (λ c. holding_both c cursor (releasing n m ks slots cks cvs (leasing n ks slots gs ss ds ns ws c.table)))

-- a plan: the rights and the cursor
abbrev pub planning : List ℕ → AckCursor → Consumer → Consumer
planning rights cursor = permitted rights (λ c. holding_both c cursor c.table)

-- an export: the cursor and what the table counts, and these with the rights
abbrev pub encoding : AckCursor → (LeaseTable → LeaseTable) → Consumer → Consumer
encoding cursor table c = holding_both c cursor (table c.table)

abbrev pub exporting : List ℕ → AckCursor → (LeaseTable → LeaseTable) → Consumer → Consumer
exporting rights cursor table = permitted rights (encoding cursor table)

-- ## what a call in place says of every consumer that has these parts
-- a lent array does not show its length
pub record Whole (c : Consumer) : Type 0 where
  pub full : Full c.table
  pub sound : Sound c

abbrev pub AnswersIn : {A : Type 0} → Result A → (Consumer → Consumer) → (Consumer → Consumer) → (State → Answer A State) → Type 0
AnswersIn outcome before after right =
    (c : Consumer) → Whole (before c) → Answers outcome (before c) (after c) (right (view (before c)))

abbrev pub CommitsIn : Result Bool → (Consumer → Consumer) → (Consumer → Consumer) → (State → Answer Bool State) → Type 0
CommitsIn outcome before after right =
    (c : Consumer) → Whole (before c) → Commits outcome (before c) (after c) (right (view (before c)))

-- a question that every worker is answered alike
abbrev pub RepliesIn : Result (List ℕ) → (Consumer → Consumer) → Question → Type 0
RepliesIn r with q = (c : Consumer) → Whole (with c) → (w : ℕ) → r ≡ reply (view (with c)) w q

-- what a worker is shown of an offset at a clock
abbrev pub ShowsIn : code.View → (Consumer → Consumer) → ℕ → ℕ → ℕ → Type 0
ShowsIn r with w o now = (c : Consumer) → Whole (with c) → view_in r ≡ view_of (view (with c)) w o now

-- a plan that is answered so: the reply, and the lent byte list
pub record Plans (right : Result (List ℕ)) (out : List ℕ) (r : std.Result ℕ code_refusal.Refusal) (out' : List ℕ) : Type 0 where
  pub is : plan_of r out' ≡ right
  pub bytes : out' ≡ bytes_after right out

-- a worker's plan
abbrev pub PlansIn : std.Result ℕ code_refusal.Refusal → (Consumer → Consumer) → ℕ → List ℕ → List ℕ → List ℕ → Type 0
PlansIn r with w os out out' = (c : Consumer) → Plans (look (view (with c)) w (Plan os (length out))) out r out'

-- an export that is answered so: the reply, and both lent byte lists
pub record Exports (s : State) (right : Result (List ℕ)) (out : Snapshots) (r : std.Result Lengths code_refusal.Refusal) (out' : Snapshots) : Type 0 where
  pub is : export_of r out' ≡ right
  pub lists : out' ≡ snapshots_after right (exported s) out

-- what it requires of the parts that it is lent: they are those of a consumer
pub record Exportable (with : Consumer → Consumer) : Type 0 where
  pub consumer : Consumer
  pub cursor : cursor.Whole (with consumer).cursor
  pub whole : Whole (with consumer)

-- a worker's export, and that of every worker that may look
abbrev pub ExportsIn : std.Result Lengths code_refusal.Refusal → (Consumer → Consumer) → ℕ → Snapshots → Snapshots → Type 0
ExportsIn r with w out out' =
    (c : Consumer) → Whole (with c) → Exports (view (with c)) (export (view (with c)) w out) out r out'

abbrev pub EncodesIn : std.Result Lengths code_refusal.Refusal → (Consumer → Consumer) → Snapshots → Snapshots → Type 0
EncodesIn r with out out' =
    (c : Consumer) → Whole (with c) → (w : ℕ) → Exports (view (with c)) (reply (view (with c)) w (export_to out)) out r out'

-- the waiting list at a clock, into a lent list
abbrev pub ListsIn : Result ℕ → (Consumer → Consumer) → ℕ → List ℕ → List ℕ → Type 0
ListsIn r with now before after =
    (c : Consumer) → Whole (with c) → answer r after ≡ listed (waiting_at (view (with c)) now) before

-- the same in an array
abbrev pub WaitsIn : OffsetList → (Consumer → Consumer) → ℕ → Type 0
WaitsIn r with now = (c : Consumer) → Whole (with c) → offsets_in r ≡ waiting_at (view (with c)) now

-- ## the private functions
-- the test of a claim that the worker may make
abbrev pub OpensIn : std.Result Place code_refusal.Refusal → (Consumer → Consumer) → ℕ → ℕ → Type 0
OpensIn r with o now = (c : Consumer) → Whole (with c) → test_of r ≡ first (claim_rows (view (with c)) o now)

-- the test of a claim; where it is open there is a worker of that number
pub record TestsIn (r : std.Result Place code_refusal.Refusal) (with : Consumer → Consumer) (w o now : ℕ) : Type 0 where
  pub known : test_of r ≡ none → w < WORKERS
  pub is : (c : Consumer) → Whole (with c) → test_of r ≡ first (claim_table (view (with c)) w o now)

-- where the offset of an open claim stands, or belongs
abbrev pub OpenAt : ℕ → List ℕ → std.Result Place code_refusal.Refusal → Type 0
OpenAt o ks (Ok place) = Placed o ks place
OpenAt o ks (Err r) = Unit {0}

-- the test of a token: how often its lease was handed out, where the worker holds it
abbrev pub token_of : std.Result HeldAt code_refusal.Refusal → Result ℕ
token_of = result_of (λ (h : HeldAt). h.deliveries)

-- and where that lease stands
abbrev pub TokenAt : ℕ → ℕ → List ℕ → List ℕ → List ℕ → std.Result HeldAt code_refusal.Refusal → Type 0
TokenAt o g ks slots gs (Ok h) = OwnedAt o g ks slots gs h.at
TokenAt o g ks slots gs (Err r) = Unit {0}

abbrev pub TokenIn : std.Result HeldAt code_refusal.Refusal → (Consumer → Consumer) → ℕ → ℕ → ℕ → ℕ → Type 0
TokenIn r with w bit o g =
    (c : Consumer) → Whole (with c) → (op : Operation) → bit_of op ≡ bit
    → token_of r ≡ checked (token_rows (view (with c)) w op o g) (done (attempt_of (view (with c)) o))

-- the test of a commit: its effect, or what it answers at once
abbrev pub decided : std.Result Bool code_refusal.Refusal → State → ℕ → Answer Bool State
decided (Ok true) s bound = answer (done true) (with_committed s bound)
decided (Ok false) s bound = answer (done false) s
decided (Err r) s bound = answer (refused (refusal_of r)) s

abbrev pub DecidesIn : std.Result Bool code_refusal.Refusal → (Consumer → Consumer) → ℕ → ℕ → Type 0
DecidesIn r with w bound = (c : Consumer) → Whole (with c) → decided r (view (with c)) bound ≡ commit (view (with c)) w bound

-- what a claim answers for the table's answer, a count above the limit being for the dead letters
abbrev pub handed_out : ℕ → Result Grant → Result HandOut
handed_out limit (refused r) = refused r
handed_out limit (done g) =
    done (record { offset = g.offset; generation = g.generation; deliveries = g.deliveries; destination = destination limit g.deliveries })
