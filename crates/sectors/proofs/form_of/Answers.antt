-- `form_of` meets its contract: each test is a row of the table. Assumes nothing.
use Prim.Native.Nat.{ℕ}
use mathlib.Core.Path.{◌≡◌, sym, ◌∙◌}
use mathlib.Core.Bool.{true, false}
use mathlib.Core.List.{List}
use lib.ListN.{take}
use Rattle.raw.specs.Bytes.{unle, number_at}
use Rattle.crc.specs.Seal.{is_sealed}
use Rattle.sectors.specs.File.{SECTOR, magic, version_of, size_of, blocks_of, journals_of, wrong_blocks, wrong_journals, file_bytes}
use Rattle.sectors.proofs.Forms.{
  other-magic,
  other-version,
  other-size,
  other-blocks,
  other-journals,
  other-check,
  other_length,
  all_right,
  same_bytes,
  same-layout,
}
use Rattle.sectors.proofs.form_of.Goals as goal
use Rattle.sectors.proofs.form_of.Goals.{After-file_bytes-whole, Else-not-is_sealed, Else-read_u64-ne-MAGIC, Else-size-ne4096, Else-version-ne1, Else-wrong_blocks, Else-wrong_journals, Start}

-- ---- what is known at a place
abbrev sector : Start → List ℕ
sector s = s.args.sector.now

magic-is : (c : Else-read_u64-ne-MAGIC) → number_at 8 0 c.args.sector.now ≡ unle magic
magic-is c = sym c.read_u64.ensures ∙ c.if-read_u64-ne-MAGIC.false

version-is : (c : Else-version-ne1) → version_of c.args.sector.now ≡ 1
version-is c = sym c.read_u32-version.ensures ∙ c.if-version-ne1.false

size_is : (c : Else-size-ne4096) → size_of c.args.sector.now ≡ SECTOR
size_is c = sym c.read_u32-size.ensures ∙ c.if-size-ne4096.false

blocks-right : (c : Else-wrong_blocks) → wrong_blocks c.read_u32-blocks.result ≡ false
blocks-right c = sym c.wrong_blocks.ensures ∙ c.if-wrong_blocks.false

journals-right : (c : Else-wrong_journals) → wrong_journals c.read_u32-journals.result ≡ false
journals-right c = sym c.wrong_journals.ensures ∙ c.if-wrong_journals.false

check-right : (c : Else-not-is_sealed) → is_sealed (take 512 c.args.sector.now) ≡ true
check-right c = sym c.is_sealed.ensures ∙ c.if-not-is_sealed.false

pub returns-then-read_u64-ne-MAGIC : goal.returns-then-read_u64-ne-MAGIC
returns-then-read_u64-ne-MAGIC c =
    other-magic (sector (goal.at.returns-then-read_u64-ne-MAGIC c).Start) c.args.bytes (λ e. c.if-read_u64-ne-MAGIC.true (c.read_u64.ensures ∙ e))

pub returns-then-version-ne1 : goal.returns-then-version-ne1
returns-then-version-ne1 c =
    let is = c.read_u32-version.ensures in
    rw is (other-version (sector (goal.at.returns-then-version-ne1 c).Start) c.args.bytes (magic-is (goal.at.returns-then-version-ne1 c).Else-read_u64-ne-MAGIC) (λ e. c.if-version-ne1.true (is ∙ e)))

pub returns-then-size-ne4096 : goal.returns-then-size-ne4096
returns-then-size-ne4096 c =
    let is = c.read_u32-size.ensures in
    rw is (other-size (sector (goal.at.returns-then-size-ne4096 c).Start) c.args.bytes (magic-is (goal.at.returns-then-size-ne4096 c).Else-read_u64-ne-MAGIC) (version-is (goal.at.returns-then-size-ne4096 c).Else-version-ne1) (λ e. c.if-size-ne4096.true (is ∙ e)))

pub returns-then-wrong_blocks : goal.returns-then-wrong_blocks
returns-then-wrong_blocks c =
    let is = c.read_u32-blocks.ensures in
    rw is (other-blocks (sector (goal.at.returns-then-wrong_blocks c).Start) c.args.bytes (magic-is (goal.at.returns-then-wrong_blocks c).Else-read_u64-ne-MAGIC) (version-is (goal.at.returns-then-wrong_blocks c).Else-version-ne1) (size_is (goal.at.returns-then-wrong_blocks c).Else-size-ne4096) (rw is at (sym c.wrong_blocks.ensures ∙ c.if-wrong_blocks.true)))

pub returns-then-wrong_journals : goal.returns-then-wrong_journals
returns-then-wrong_journals c =
    let is = c.read_u32-journals.ensures in
    rw is
    (other-journals (sector (goal.at.returns-then-wrong_journals c).Start) c.args.bytes (magic-is (goal.at.returns-then-wrong_journals c).Else-read_u64-ne-MAGIC) (version-is (goal.at.returns-then-wrong_journals c).Else-version-ne1) (size_is (goal.at.returns-then-wrong_journals c).Else-size-ne4096)
    (rw c.read_u32-blocks.ensures at (blocks-right (goal.at.returns-then-wrong_journals c).Else-wrong_blocks))
    (rw is at (sym c.wrong_journals.ensures ∙ c.if-wrong_journals.true)))

pub returns-then-not-is_sealed : goal.returns-then-not-is_sealed
returns-then-not-is_sealed c =
    other-check (sector (goal.at.returns-then-not-is_sealed c).Start) c.args.bytes (magic-is (goal.at.returns-then-not-is_sealed c).Else-read_u64-ne-MAGIC) (version-is (goal.at.returns-then-not-is_sealed c).Else-version-ne1) (size_is (goal.at.returns-then-not-is_sealed c).Else-size-ne4096)
    (rw c.read_u32-blocks.ensures at (blocks-right (goal.at.returns-then-not-is_sealed c).Else-wrong_blocks))
    (rw c.read_u32-journals.ensures at (journals-right (goal.at.returns-then-not-is_sealed c).Else-wrong_journals))
    (sym c.is_sealed.ensures ∙ c.if-not-is_sealed.true)

blocks_are : (c : After-file_bytes-whole) → c.read_u32-blocks.result ≡ blocks_of c.args.sector.now
blocks_are c = c.read_u32-blocks.ensures

journals_are : (c : After-file_bytes-whole) → c.read_u32-journals.result ≡ journals_of c.args.sector.now
journals_are c = c.read_u32-journals.ensures

whole_is : (c : After-file_bytes-whole) → c.file_bytes-whole.result ≡ file_bytes (blocks_of c.args.sector.now) (journals_of c.args.sector.now)
whole_is c = c.file_bytes-whole.ensures ∙ same_bytes (blocks_are c) (journals_are c)

pub returns-then-bytes-whole : goal.returns-then-bytes-whole
returns-then-bytes-whole c =
    rw (whole_is (goal.at.returns-then-bytes-whole c).After-file_bytes-whole)
    (other_length c.args.sector.now c.args.bytes (magic-is (goal.at.returns-then-bytes-whole c).Else-read_u64-ne-MAGIC) (version-is (goal.at.returns-then-bytes-whole c).Else-version-ne1) (size_is (goal.at.returns-then-bytes-whole c).Else-size-ne4096)
    (rw (blocks_are (goal.at.returns-then-bytes-whole c).After-file_bytes-whole) at (blocks-right (goal.at.returns-then-bytes-whole c).Else-wrong_blocks))
    (rw (journals_are (goal.at.returns-then-bytes-whole c).After-file_bytes-whole) at (journals-right (goal.at.returns-then-bytes-whole c).Else-wrong_journals))
    (check-right (goal.at.returns-then-bytes-whole c).Else-not-is_sealed)
    (λ e. c.if-bytes-whole.true (e ∙ sym (whole_is (goal.at.returns-then-bytes-whole c).After-file_bytes-whole))))

pub returns : goal.returns
returns c =
    same-layout (blocks_are (goal.at.returns c).After-file_bytes-whole) (journals_are (goal.at.returns c).After-file_bytes-whole)
    ∙ all_right c.args.sector.now c.args.bytes (magic-is (goal.at.returns c).Else-read_u64-ne-MAGIC) (version-is (goal.at.returns c).Else-version-ne1) (size_is (goal.at.returns c).Else-size-ne4096)
    (rw (blocks_are (goal.at.returns c).After-file_bytes-whole) at (blocks-right (goal.at.returns c).Else-wrong_blocks))
    (rw (journals_are (goal.at.returns c).After-file_bytes-whole) at (journals-right (goal.at.returns c).Else-wrong_journals))
    (check-right (goal.at.returns c).Else-not-is_sealed)
    (c.if-bytes-whole.false ∙ whole_is (goal.at.returns c).After-file_bytes-whole)
