-- `resume_with` meets its contract. Assumes nothing.
use Prim.Native.Nat.{ℕ, ◌+◌}
use native.Mathlib.Omega.{arith}
use mathlib.Core.Path.{◌≡◌, ap, ◌∙◌}
use lib.ListN.{length, take, drop, set}
use lib.Seq.{length-take-le, take_at, take-paste}
use borrow.Rule.Slice.PartMut.{put_mid}
use Rattle.types.specs.Limits.{CARRIED}
use Rattle.lease.specs.Layout.{CARRIED-LEN, CARRIED-OFFSETS, CARRIED-COUNTS}
use Rattle.lease.proofs.Stores.{same-long, counts-put}
use Rattle.lease.proofs.InLists.{resume-answers}
use borrow.Author.Rules.{rules}
use Rattle.lease.proofs.listings.resume_with.Goals as goal

pub returns : goal.returns
returns c =
    let w = c.args.table.now in
    let held = c.args.carried in
    let n = held.len in
    let ks = c.copy.new.column in
    let vs = c.put_counts.new.column in
    let a : length held.offsets ≡ CARRIED = search rules in
    let b : length held.counts ≡ CARRIED = search rules in
    let z : n ≡ 0 + n = omega arith in
    let few = c.requires.1.few in
    let p : take n ks ≡ take n held.offsets = ap (λ (k : ℕ). take k ks) z ∙ ap (take (0 + n)) c.copy.ensures ∙ take-paste (take CARRIED (drop CARRIED-OFFSETS w)) 0 held.offsets n (omega arith) (omega (arith, few, a)) in
    let q : take n vs ≡ take n held.counts = ap (take n) c.put_counts.ensures ∙ take_at (take n held.counts) _ n (length-take-le n held.counts (omega (arith, few, b))) in
    let k = c.table-1.given.0 in
    let m = c.table-2-1.given.0 in
    resume-answers c.requires.0 held c.requires.1 c.if-carried.false a b ks vs p q (set (put_mid CARRIED-COUNTS CARRIED (put_mid CARRIED-OFFSETS CARRIED w ks) vs) CARRIED-LEN n)
    (same-long CARRIED-OFFSETS CARRIED CARRIED-COUNTS CARRIED CARRIED-LEN n w ks vs k m ∙ c.requires.0.long) (counts-put w c.requires.0.long ks k vs m n)
