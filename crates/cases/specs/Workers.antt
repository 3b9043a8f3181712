-- Cases of the refusals that are for who calls: 38 and 39 of every call, 40 of those with a token.
-- SPEC.md, "Rights".
use Rattle.std.specs.Prelude.{ℕ, ◌≡◌, refl, Bool, true, false, List, [], ◌∷◌, map}
use Rattle.std.proofs.Math.Option.{none}
use Rattle.types.specs.Limits.{MAX}
use Rattle.types.specs.Refusal.{refused, done, Fenced, UnknownWorker, NotPermitted, ForeignToken}
use Rattle.cursor.specs.Cursor.{ackBounded}
use Rattle.cursor.specs.Snapshot.{encode_cursor}
use Rattle.attempt.specs.Snapshot.{encode_attempts}
use Rattle.delivery.specs.Policy.{Deliver}
use Rattle.lease.specs.Operations.{extend}
use Rattle.lease.specs.Counts.{all_attempt_counts}
use Rattle.consumer.specs.State.{State}
use Rattle.consumer.specs.Rights.{Operation, claiming, settling, nacking, extending, committing, checkpointing, looking, bit_of, SUPERVISOR, has_bit}
use Rattle.consumer.specs.Calls.{claim, ack, nack, progress, commit}
use Rattle.consumer.specs.Questions.{Waiting, Committed, look}
use Rattle.checkpoint.specs.Checkpoint.{begin, writing}
use Rattle.cases.specs.States.{leases_from, table_of}
use Rattle.cases.specs.Consumer.{consumer_of, consumer, five, with, held, crowd, fragmented, hands_out}
use Rattle.cases.specs.Journal.{numbered}

-- ## 38
-- for worker 8, in every call; worker 7 is one
pub claim-by-worker_8 : (claim (with (held 1 0)) 8 6 100).outcome ≡ refused UnknownWorker
unfolding claim
claim-by-worker_8 = refl

pub claim-by-worker_7 : (claim (with (held 1 0)) 7 6 100).outcome ≡ hands_out 6 1 1 Deliver
unfolding claim
claim-by-worker_7 = refl

pub ack-by-worker_8 : (ack (with (held 1 0)) 8 5 0).outcome ≡ refused UnknownWorker
unfolding ack
ack-by-worker_8 = refl

pub nack-by-worker_8 : (nack (with (held 1 0)) 8 5 0 101 none).outcome ≡ refused UnknownWorker
unfolding nack
nack-by-worker_8 = refl

pub progress-by-worker_8 : (progress (with (held 1 0)) 8 5 0 101).outcome ≡ refused UnknownWorker
unfolding progress extend
progress-by-worker_8 = refl

pub commit-by-worker_8 : (commit (with (held 1 0)) 8 5).outcome ≡ refused UnknownWorker
unfolding commit
commit-by-worker_8 = refl

pub begin-by-worker_8 : begin (numbered 4294967296 2 0) 8 ≡ refused UnknownWorker
unfolding begin
begin-by-worker_8 = refl

pub look-by-worker_8 : look (with (held 1 0)) 8 Committed ≡ refused UnknownWorker
look-by-worker_8 = refl

-- it does not look at the rights, of which a list could have more than eight
pub claim-by-a_ninth : (claim (consumer_of (1 ∷ 1 ∷ 1 ∷ 1 ∷ 1 ∷ 1 ∷ 1 ∷ 1 ∷ 1 ∷ []) five (held 1 0) 4096) 8 6 100).outcome ≡ refused UnknownWorker
unfolding claim
claim-by-a_ninth = refl

-- ## 39
-- before anything else that a call could be answered or refused: 21, 24, a commit and Unchanged, 31, 20
pub claim_not_permitted-before-last-offset : (claim (with (held 1 0)) 2 MAX 100).outcome ≡ refused NotPermitted
unfolding claim
claim_not_permitted-before-last-offset = refl

pub ack_not_permitted-before-fenced : (ack (with (held 1 0)) 2 5 1).outcome ≡ refused NotPermitted
unfolding ack
ack_not_permitted-before-fenced = refl

pub nack_not_permitted-before-fenced : (nack (with (held 1 0)) 2 5 1 101 none).outcome ≡ refused NotPermitted
unfolding nack
nack_not_permitted-before-fenced = refl

pub progress_not_permitted-before-fenced : (progress (with (held 1 0)) 2 5 1 125).outcome ≡ refused NotPermitted
unfolding progress extend
progress_not_permitted-before-fenced = refl

pub commit_not_permitted-over-a-lease : (commit (with (table_of (leases_from 1 6) [] 1 0)) 2 7).outcome ≡ refused NotPermitted
unfolding commit
commit_not_permitted-over-a-lease = refl

pub commit_not_permitted-before-unchanged : (commit (with (held 1 0)) 2 5).outcome ≡ refused NotPermitted
unfolding commit
commit_not_permitted-before-unchanged = refl

pub begin_not_permitted-before-full : begin (numbered 4294967296 2 0) 2 ≡ refused NotPermitted
unfolding begin
begin_not_permitted-before-full = refl

pub look_not_permitted-before_too_short : look (crowd 1 1) 2 (Waiting 110 1) ≡ refused NotPermitted
look_not_permitted-before_too_short = refl

-- no right stands for another, and a supervisor's mark for none
abbrev operations : List Operation
operations = claiming ∷ settling ∷ nacking ∷ extending ∷ committing ∷ checkpointing ∷ looking ∷ []

abbrev allowed : ℕ → List Bool
allowed given = map (λ (op : Operation). has_bit given (bit_of op)) operations

pub one-right-alone : map (λ (op : Operation). allowed (bit_of op)) operations
    ≡ (true ∷ false ∷ false ∷ false ∷ false ∷ false ∷ false ∷ [])
    ∷ (false ∷ true ∷ false ∷ false ∷ false ∷ false ∷ false ∷ [])
    ∷ (false ∷ false ∷ true ∷ false ∷ false ∷ false ∷ false ∷ [])
    ∷ (false ∷ false ∷ false ∷ true ∷ false ∷ false ∷ false ∷ [])
    ∷ (false ∷ false ∷ false ∷ false ∷ true ∷ false ∷ false ∷ [])
    ∷ (false ∷ false ∷ false ∷ false ∷ false ∷ true ∷ false ∷ [])
    ∷ (false ∷ false ∷ false ∷ false ∷ false ∷ false ∷ true ∷ [])
    ∷ []
one-right-alone = refl

pub a-mark-is-no-right : allowed SUPERVISOR ≡ false ∷ false ∷ false ∷ false ∷ false ∷ false ∷ false ∷ []
a-mark-is-no-right = refl

pub every_right : allowed 255 ≡ true ∷ true ∷ true ∷ true ∷ true ∷ true ∷ true ∷ []
every_right = refl

-- each call with every right but its own, and with its own alone; worker 0 has this byte
abbrev by : ℕ → State
by given = consumer_of (given ∷ []) five (held 1 0) 4096

pub claim-without : (claim (by 126) 0 6 100).outcome ≡ refused NotPermitted
unfolding claim
claim-without = refl

pub claim-with_its_right : (claim (by 1) 0 6 100).outcome ≡ hands_out 6 1 1 Deliver
unfolding claim
claim-with_its_right = refl

pub ack-without : (ack (by 125) 0 5 0).outcome ≡ refused NotPermitted
unfolding ack
ack-without = refl

pub ack-with_its_right : (ack (by 2) 0 5 0).outcome ≡ done tt
unfolding ack ackBounded
ack-with_its_right = refl

pub nack-without : (nack (by 123) 0 5 0 101 none).outcome ≡ refused NotPermitted
unfolding nack
nack-without = refl

pub nack-with_its_right : (nack (by 4) 0 5 0 101 none).outcome ≡ done 108
unfolding nack
nack-with_its_right = refl

pub progress-without : (progress (by 119) 0 5 0 101).outcome ≡ refused NotPermitted
unfolding progress extend
progress-without = refl

pub progress-with_its_right : (progress (by 8) 0 5 0 101).outcome ≡ done 111
unfolding progress extend
progress-with_its_right = refl

pub commit-without : (commit (by 111) 0 5).outcome ≡ refused NotPermitted
unfolding commit
commit-without = refl

pub commit-with_its_right : (commit (by 16) 0 5).outcome ≡ done false
unfolding commit
commit-with_its_right = refl

pub begin-without : begin (by 95) 0 ≡ refused NotPermitted
unfolding begin
begin-without = refl

pub begin-with_its_right : begin (by 32) 0 ≡ done (writing (by 32) 0)
unfolding begin encode_cursor encode_attempts all_attempt_counts
begin-with_its_right = refl

pub look-without : look (by 63) 0 Committed ≡ refused NotPermitted
look-without = refl

pub look-with_its_right : look (by 64) 0 Committed ≡ done (5 ∷ [])
look-with_its_right = refl

-- ## 40
-- 24 before it; then it stands before 29, before 25 and 26, and before 28. The lease is worker 0's, and worker 1 may do everything
pub ack-foreign : (ack (with (held 1 0)) 1 5 0).outcome ≡ refused ForeignToken
unfolding ack
ack-foreign = refl

pub ack-fenced-before-foreign : (ack (with (held 1 0)) 1 5 1).outcome ≡ refused Fenced
unfolding ack
ack-fenced-before-foreign = refl

pub ack-foreign-before-shed : (ack (fragmented 1000) 1 1000 0).outcome ≡ refused ForeignToken
unfolding ack
ack-foreign-before-shed = refl

pub nack-foreign-before_exhausted : (nack (consumer five (held MAX 0) MAX) 1 5 0 101 none).outcome ≡ refused ForeignToken
unfolding nack
nack-foreign-before_exhausted = refl

pub nack-foreign-before-due : (nack (with (held 4096 0)) 1 5 0 101 none).outcome ≡ refused ForeignToken
unfolding nack
nack-foreign-before-due = refl

pub progress-foreign-before_cap : (progress (with (held 1 0)) 1 5 0 125).outcome ≡ refused ForeignToken
unfolding progress extend
progress-foreign-before_cap = refl

-- no lease, no token of anybody
pub ack-without-a-lease : (ack (with (held 1 0)) 1 6 0).outcome ≡ refused Fenced
unfolding ack
ack-without-a-lease = refl

-- a hand-out to worker 1 at the deadline makes the lease his: he acks it, and worker 0 can't, with either token
abbrev handed_over : State
handed_over = (claim (with (held 1 0)) 1 5 110).state

pub ack-by_the_new-holder : (ack handed_over 1 5 1).outcome ≡ done tt
unfolding claim ack ackBounded
ack-by_the_new-holder = refl

pub ack-by_the_old-holder : (ack handed_over 0 5 1).outcome ≡ refused ForeignToken
unfolding claim ack
ack-by_the_old-holder = refl

pub ack-with_the_old-token : (ack handed_over 0 5 0).outcome ≡ refused Fenced
unfolding claim ack
ack-with_the_old-token = refl

-- a nack keeps the lease's worker
abbrev given_back : State
given_back = (nack (with (held 1 0)) 0 5 0 101 none).state

pub nacked-stays_its_workers : (ack given_back 1 5 1).outcome ≡ refused ForeignToken
unfolding nack ack
nacked-stays_its_workers = refl

pub nacked-by_its_worker : (ack given_back 0 5 1).outcome ≡ done tt
unfolding nack ack ackBounded
nacked-by_its_worker = refl
