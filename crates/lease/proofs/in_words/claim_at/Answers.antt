-- `claim_at` meets its contract. Assumes nothing.
use mathlib.Core.Path.{sym, ◌∙◌}
use Rattle.lease.proofs.InWords.{claim_in_flight, claim_exhausted, claim-full}
use Rattle.lease.proofs.in_words.claim_at.Goals as goal

pub returns-then-is_running_at : goal.returns-then-is_running_at
returns-then-is_running_at c =
    let o = c.args.offset.0 in
    claim_in_flight c.requires.0 c.args.worker o c.args.now (sym (c.is_running_at.ensures o c.requires.1) ∙ c.if-is_running_at.true)

pub returns-then-is_exhausted : goal.returns-then-is_exhausted
returns-then-is_exhausted c =
    let o = c.args.offset.0 in
    claim_exhausted c.requires.0 c.args.worker o c.args.now (sym (c.is_running_at.ensures o c.requires.1) ∙ c.if-is_running_at.false)
    (sym c.is_exhausted.ensures ∙ c.if-is_exhausted.true)

pub returns-then-is_full_at : goal.returns-then-is_full_at
returns-then-is_full_at c =
    let o = c.args.offset.0 in
    claim-full c.requires.0 c.args.worker o c.args.now (sym (c.is_running_at.ensures o c.requires.1) ∙ c.if-is_running_at.false)
    (sym c.is_exhausted.ensures ∙ c.if-is_exhausted.false) (sym (c.is_full_at.ensures o c.requires.1) ∙ c.if-is_full_at.true)
