-- `check_frame` meets its contract: each return is the row of its test. Assumes nothing.
use mathlib.Core.Path.{sym, ◌∙◌}
use Rattle.cursor.proofs.Reading.{truncated, bad-length, other-version, bad-crc, framed}
use Rattle.cursor.proofs.codec.check_frame.Goals as goal

pub returns-then-len-lt-SNAPSHOT_MIN_LEN : goal.returns-then-len-lt-SNAPSHOT_MIN_LEN
returns-then-len-lt-SNAPSHOT_MIN_LEN c = sym (truncated c.args.input.now c.if-len-lt-SNAPSHOT_MIN_LEN.true)

pub returns-then-ranges_len-ne0 : goal.returns-then-ranges_len-ne0
returns-then-ranges_len-ne0 c = sym (bad-length c.args.input.now c.if-len-lt-SNAPSHOT_MIN_LEN.false c.if-ranges_len-ne0.true)

pub returns-then-version-ne-SNAPSHOT_VERSION : goal.returns-then-version-ne-SNAPSHOT_VERSION
returns-then-version-ne-SNAPSHOT_VERSION c =
    sym (other-version c.args.input.now c.if-len-lt-SNAPSHOT_MIN_LEN.false c.if-ranges_len-ne0.false c.if-version-ne-SNAPSHOT_VERSION.true)

pub returns-then-not-is_sealed : goal.returns-then-not-is_sealed
returns-then-not-is_sealed c =
    sym (bad-crc c.args.input.now c.if-len-lt-SNAPSHOT_MIN_LEN.false c.if-ranges_len-ne0.false c.if-version-ne-SNAPSHOT_VERSION.false (sym c.is_sealed.ensures ∙ c.if-not-is_sealed.true))

pub returns : goal.returns
returns c =
    sym (framed c.args.input.now c.if-len-lt-SNAPSHOT_MIN_LEN.false c.if-ranges_len-ne0.false c.if-version-ne-SNAPSHOT_VERSION.false (sym c.is_sealed.ensures ∙ c.if-not-is_sealed.false))
