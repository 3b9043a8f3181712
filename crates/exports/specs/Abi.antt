-- What a Rust server compares before its first call: the number of this interface. It is one more with every change of an exported call:
-- here, in src/abi.rt and in rust/src/abi.rs.
-- SPEC.md, "Interface".
use Rattle.std.specs.Prelude.{ℕ}

abbrev pub abi : ℕ
abi = 1
