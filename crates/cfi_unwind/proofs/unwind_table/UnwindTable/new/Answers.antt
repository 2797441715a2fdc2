use Rattle.std.proofs.Common.{ap, ◌∙◌}
use Rattle.cfi_parts.specs.InstructionIterators.{instruction_reader}
use Rattle.cfi_parts.specs.InstructionReaders.{instructions_left}
use Rattle.cfi_state.specs.ContextEffects.{setting_of}
use Rattle.cfi_unwind.specs.UnwindTableViews.{table_state}
use Rattle.cfi_unwind.proofs.ScanSteps.{if_ok}
use Rattle.cfi_unwind.proofs.StartLemmas.{starts_rows}
use Rattle.cfi_unwind.proofs.unwind_table.UnwindTable.new.Goals as goal

pub returns-clause-starts : goal.returns-clause-starts
returns-clause-starts g c =
    starts_rows (λ table. table_state g.R.Reader.position g.R.Offset.ReaderOffset.number table) c.with_instructions.result _ _ (c.parameters.ensures.setting _ _) _ _ _ _ c.instructions-initial.ensures.left
    c.with_instructions.ensures.cie c.with_instructions.ensures.kept
    (if_ok c.with_instructions.result (λ table same. ap (λ i. instructions_left (instruction_reader g.R.Reader.position i)) same ∙ c.instructions-instructions.ensures.left) c.with_instructions.ensures.fde)
    c.with_instructions.ensures.has_ended
    c.requires.cie.first c.requires.cie.last c.requires.own.first c.requires.own.last

pub returns-clause-setting : goal.returns-clause-setting
returns-clause-setting g c =
    if_ok c.with_instructions.result (λ table same rules stack. ap (λ p. setting_of p rules stack) same ∙ c.parameters.ensures.setting rules stack) c.with_instructions.ensures.parameters

pub returns-clause-holds_row : goal.returns-clause-holds_row
returns-clause-holds_row g c = c.with_instructions.ensures.holds_row

pub returns-clause-same_reference : goal.returns-clause-same_reference
returns-clause-same_reference g c = c.with_instructions.ensures.same_reference
