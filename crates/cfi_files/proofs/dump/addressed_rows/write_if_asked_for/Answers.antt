use Rattle.std.proofs.Common.{◌∙◌, sym}
use Rattle.cfi_files.proofs.EntryRowsSent.{if_asked_for, if_not}
use Rattle.cfi_files.proofs.SendingLemmas.{passes_nothing}
use Rattle.cfi_files.proofs.dump.addressed_rows.write_if_asked_for.Goals as goal

pub returns-then-is_asked_for : goal.returns-then-is_asked_for
returns-then-is_asked_for g c =
    if_asked_for _ _ _ _ c.write_addressed_rows.result _ _ (sym c.is_asked_for.ensures ∙ c.if-is_asked_for.true) c.write_addressed_rows.ensures

pub returns-else-is_asked_for : goal.returns-else-is_asked_for
returns-else-is_asked_for g c = if_not _ _ _ _ (sym c.is_asked_for.ensures ∙ c.if-is_asked_for.false)
