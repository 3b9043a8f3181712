-- The two versions as the code names them.
-- SPEC.md, "Attempt snapshot".
use Rattle.std.specs.Prelude.{ℕ, ◌≡◌, true, false, Option, Some, None}
use Rattle.attempt.specs.Snapshot.{known}
use Rattle.attempt.specs.declared.Version.{Version}
use Rattle.attempt.specs.declared.Version.TheVariants.{One, Two}

-- the byte of a version
abbrev pub byte_of : Version → ℕ
byte_of One = 1
byte_of Two = 2

-- the version of a byte, if there is such a version
abbrev pub KnownIs : ℕ → Option Version → Type 0
KnownIs byte (Some version) = (byte ≡ byte_of version) × (known byte ≡ true)
KnownIs byte None = known byte ≡ false
