-- Which call a line is: the number that its form has among the calls of `server`.
-- SPEC.md, "Programs".
use Rattle.std.specs.Prelude.{ℕ, ◌-◌, ◌^◌}
use Rattle.replay.specs.declared.script.Form.{Form}
use Rattle.replay.specs.declared.script.Form.TheVariants.{Claim, Ack, Term, Nack, NackAfter, Progress, Commit, Begin, Step, StepOn, Restart, RestartOn, Waiting, View, Open, Nearest}

-- of a form that is no call, the last number of 64 bits, which no call has
abbrev pub kind_at : Form → ℕ
kind_at Claim = 0
kind_at Ack = 1
kind_at Term = 2
kind_at Nack = 3
kind_at NackAfter = 4
kind_at Progress = 5
kind_at Commit = 6
kind_at Begin = 16
kind_at Step = 17
kind_at StepOn = 17
kind_at Restart = 18
kind_at RestartOn = 18
kind_at Waiting = 32
kind_at View = 40
kind_at Open = 41
kind_at Nearest = 42
kind_at _ = 2 ^ 64 - 1
