use Rattle.std.proofs.Common.{◌≡◌, ◌≢◌, ◌∙◌, ℕ, Bor, true, false, sym, rules, true≢false}
use Rattle.cfi_compiled.specs.CompiledTables.{TableContents}
use Rattle.cfi_entry.specs.SectionViews.{debug_frame_view, eh_frame_view}
use Rattle.cfi_expression.specs.Frames.{frame_view}
use Rattle.cfi_step.specs.Modules.{address_in_file, no_fde}
use Rattle.cfi_step.specs.StepsByTable.{IsStepAsScanned}
use Rattle.cfi_step.proofs.OrSteps.{some_first, some_other}
use Rattle.cfi_step.proofs.module_steps.step_in_kept.Goals as goal

pub returns-then-not-has_no_fde-clause-scan : goal.returns-then-not-has_no_fde-clause-scan
returns-then-not-has_no_fde-clause-scan g c =
    let loaded = c.args.loaded.now in
    let frame = frame_view g.M.Memory.number_at c.args.frame.now in
    let no : c.has_no_fde.result ≡ false = search rules in
    let found : c.step_in_eh_frame-step.result ≢ no_fde = λ is. true≢false (sym (c.has_no_fde.ensures.1 is) ∙ no) in
    some_first (λ (table : Bor TableContents) (n : ℕ). IsStepAsScanned frame (eh_frame_view g.R.Reader.position loaded.frame).position c.args.abi.now table.now n)
    (λ n debug. IsStepAsScanned frame (debug_frame_view g.R.Reader.position debug.frame.now).position c.args.abi.now debug.compiled.now n) loaded.debug
    c.address_in_file-address.result (address_in_file loaded.bias c.args.address) c.address_in_file-address.ensures
    loaded.compiled c.step_in_eh_frame-step.result c.step_in_eh_frame-step.new.caller found c.step_in_eh_frame-step.ensures.scan

pub returns-clause-scan : goal.returns-clause-scan
returns-clause-scan g c =
    let loaded = c.args.loaded.now in
    let frame = frame_view g.M.Memory.number_at c.args.frame.now in
    let yes : c.has_no_fde.result ≡ true = search rules in
    some_other (λ (table : Bor TableContents) (n : ℕ). IsStepAsScanned frame (eh_frame_view g.R.Reader.position loaded.frame).position c.args.abi.now table.now n)
    (λ n debug. IsStepAsScanned frame (debug_frame_view g.R.Reader.position debug.frame.now).position c.args.abi.now debug.compiled.now n) loaded.debug
    c.address_in_file-address.result (address_in_file loaded.bias c.args.address) c.address_in_file-address.ensures
    loaded.compiled c.in-Some.debug c.step_in_eh_frame-step.result c.step_in_debug_frame.result c.step_in_eh_frame-step.new.caller c.step_in_debug_frame.new.caller
    c.in-Some.is (c.has_no_fde.ensures.0 yes) c.step_in_eh_frame-step.ensures.scan c.step_in_debug_frame.ensures.scan
