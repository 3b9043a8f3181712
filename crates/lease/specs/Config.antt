-- The tunables of a lease table, in nanoseconds (lease.rs, `LeaseConfig`).
-- SPEC.md, "Leases".
use Rattle.std.specs.Prelude.{ℕ, ◌*◌, min}
use Rattle.types.specs.Limits.{MAX}
use Rattle.lease.specs.declared.LeaseConfig.{LeaseConfig}

-- milliseconds in nanoseconds, at most MAX
abbrev pub nanos : ℕ → ℕ
nanos ms = min (ms * 1000000) MAX

-- a configuration from its visibility and its hard cap in milliseconds
abbrev pub from_millis : ℕ → ℕ → LeaseConfig
from_millis visibility cap = record { visibility_nanos = nanos visibility; hard_cap_nanos = nanos cap }

-- the defaults: 30,000 ms and 300,000 ms
abbrev pub default_config : LeaseConfig
default_config = from_millis 30000 300000
