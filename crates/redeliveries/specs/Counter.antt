-- The redelivery counter, as a number and as the struct that is lent.
-- SPEC.md, "Leases".
use Rattle.std.specs.Prelude.{ℕ, cond, leb}
use Rattle.types.specs.Limits.{sat32}
use Rattle.redeliveries.specs.declared.Redeliveries.{Redeliveries}

-- a grant whose count is 2 or more raises it by 1, a flush clears it
abbrev pub after_grant : ℕ → ℕ → ℕ
after_grant n count = cond (leb 2 count) (sat32 n 1) n

abbrev pub after_flush : ℕ → ℕ
after_flush n = 0

-- the struct
abbrev pub counter : ℕ → Redeliveries
counter n = record { since_flush = n }
