-- What a Rust server compares before its first call, since the language has no `size_of`: the number of this interface, and the bytes of
-- the structs that cross. The number is one more with every change of a struct that crosses or of an exported call: here, in src/abi.rt, in
-- rust/src/abi.rs and in rust/CHANGELOG.md.
-- SPEC.md, "Interface".
use Rattle.std.specs.Prelude.{ℕ, ◌+◌, ◌*◌, List, [], ◌∷◌}
use Rattle.std.proofs.Math.Option.{Option, none, some}
use Rattle.types.specs.Keyed.{Entry, entry, lookup}

abbrev pub abi : ℕ
abi = 2

-- ## bytes of each struct, field by field. A field of eight bytes begins at a multiple of eight, so that a bool or a number of four
-- takes eight before one, or behind the last field
-- shift and days, behind whether they are given
abbrev pub hours_bytes : ℕ
hours_bytes = 8 + 8 + 7 * 8

-- limit and opt-in, backoffs, their number, threshold
abbrev pub delivery_bytes : ℕ
delivery_bytes = 8 + 16 * 8 + 8 + 8

-- delivery, rights, hours
abbrev pub settings_bytes : ℕ
settings_bytes = delivery_bytes + 8 + hours_bytes

-- visibility and hard cap
abbrev pub lease_config_bytes : ℕ
lease_config_bytes = 8 + 8

abbrev pub configuration_bytes : ℕ
configuration_bytes = settings_bytes + lease_config_bytes

-- committed, starts, ends, runs
abbrev pub cursor_bytes : ℕ
cursor_bytes = 8 + 128 * 8 + 128 * 8 + 8

-- configuration; offsets, generations, starts of attempts, deadlines; slots, deliveries, workers; their number; carried offsets, counts, their
-- number; the next generation; the counter
abbrev pub table_bytes : ℕ
table_bytes = lease_config_bytes + 4 * (64 * 8) + 3 * (64 * 4) + 8 + 128 * 8 + 128 * 4 + 8 + 8 + 8

-- cursor, table, ceiling, number and block of the next group, length of the area, settings
abbrev pub consumer_bytes : ℕ
consumer_bytes = cursor_bytes + table_bytes + 8 + (8 + 8) + 8 + settings_bytes

-- consumer, blocks written, payload of 3606 bytes, lengths of both snapshots
abbrev pub writing_bytes : ℕ
writing_bytes = consumer_bytes + 8 + (3606 + 2) + 8 + 8

-- configuration, phase, record
abbrev pub machine_bytes : ℕ
machine_bytes = configuration_bytes + 8 + writing_bytes

-- the number, how many values, and five of them
abbrev pub numbers_bytes : ℕ
numbers_bytes = 7 * 8

-- ## those that are asked for, each by its number; 0 for any other
abbrev pub sizes : List (Entry ℕ)
sizes = entry 0 machine_bytes ∷ entry 1 configuration_bytes ∷ entry 2 numbers_bytes ∷ []

abbrev pub or_zero : Option ℕ → ℕ
or_zero none = 0
or_zero (some n) = n

abbrev pub size_at : ℕ → ℕ
size_at part = or_zero (lookup part sizes)
