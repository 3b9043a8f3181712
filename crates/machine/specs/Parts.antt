-- The parts of a machine's consumer, as the calls in place are lent them, and the consumers that have them.
-- SPEC.md, "Lists".
use Rattle.std.specs.Prelude.{ℕ, ◌≤◌, ◌/◌, List}
use Rattle.cursor.specs.View.{ack_cursor}
use Rattle.cursor.specs.View as cursor
use Rattle.delivery.specs.Config.{LentBackoffs}
use Rattle.lease.specs.Parts.{gathered}
use Rattle.lease.specs.Parts as lease
use Rattle.consumer.specs.declared.Consumer.{Consumer}
use Rattle.machine.specs.declared.calls.Asked.{Asked}
use Rattle.machine.specs.declared.calls.AskAnswer.{AskAnswer}
use Rattle.machine.specs.declared.in_place.Fixed.{Fixed}
use Rattle.machine.specs.declared.in_place.Figures.{Figures}

-- a consumer with these numbers and columns in their places
abbrev pub consumer_of : Fixed → Figures → List ℕ → List ℕ → List ℕ → List ℕ → List ℕ → List ℕ → List ℕ → List ℕ → List ℕ → List ℕ → List ℕ → List ℕ → List ℕ → Consumer → Consumer
consumer_of f n starts ends ks slots gs ss ds ns ws cks cvs backoffs rights x =
    record {
      cursor = ack_cursor n.committed starts ends n.runs;
      table = gathered f.config n.len n.carried_len n.next_generation n.redeliveries ks slots gs ss ds ns ws cks cvs;
      ceiling = record { 0 = f.ceiling };
      next = record { number = x.next.number; block = f.block };
      area_len = f.area_len;
      settings =
          record {
            delivery =
                record {
                  max_deliver = f.max_deliver;
                  allow_unlimited = x.settings.delivery.allow_unlimited;
                  backoff_nanos = backoffs;
                  backoff_len = f.backoff_len;
                  attempts_flush_redeliveries = f.threshold;
                };
            rights = rights;
            hours = f.hours;
          };
    }

-- what calls leave of a consumer
abbrev pub fixed_of : Consumer → Fixed
fixed_of x =
    record {
      config = x.table.config;
      hours = x.settings.hours;
      ceiling = x.ceiling.0;
      block = x.next.block;
      area_len = x.area_len;
      max_deliver = x.settings.delivery.max_deliver;
      backoff_len = x.settings.delivery.backoff_len;
      threshold = x.settings.delivery.attempts_flush_redeliveries;
    }

-- an answer beside the consumer that the call left
abbrev pub left : AskAnswer → Consumer → Asked
left a x = record { answer = a; consumer = x }

-- what the calls need of the parts that they are lent
pub record Ready (f : Fixed) (n : Figures) (starts ends ks slots gs ss ds ns ws cks cvs backoffs : List ℕ) : Type 0 where
  pub cursor : cursor.Whole (ack_cursor n.committed starts ends n.runs)
  pub table : lease.Whole (gathered f.config n.len n.carried_len n.next_generation n.redeliveries ks slots gs ss ds ns ws cks cvs)
  pub schedule : LentBackoffs backoffs f.backoff_len
  pub blocks : f.block ≤ f.area_len / 512
