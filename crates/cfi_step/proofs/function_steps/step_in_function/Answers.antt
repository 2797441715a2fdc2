use Rattle.std.proofs.Common.{ℕ, subst}
use Rattle.cfi_read_core.specs.ReaderCalls.{map_ok}
use Rattle.cfi_unwind.specs.FdeViews.{fde_view}
use Rattle.cfi_expression.specs.Frames.{frame_view}
use Rattle.cfi_step.specs.Functions.{IsStepInFunction}
use Rattle.cfi_step.specs.Modules.{IsFoundIn}
use Rattle.cfi_step.proofs.FoundFdes.{covers_if_found}
use Rattle.cfi_step.proofs.function_steps.step_in_function.Goals as goal

pub returns-clause-step : goal.returns-clause-step
returns-clause-step g c =
    let view = fde_view g.R.Reader.position g.R.Offset.ReaderOffset.number in
    let found = map_ok view c.fde_in_module-found.result in
    let at = c.address_in_file-address in
    subst
    (λ (a : ℕ). IsStepInFunction g.R.Reader.position g.R.Offset.ReaderOffset.number (frame_view g.M.Memory.number_at c.args.frame.now) c.args.abi.now g.S.Rules.ArrayLike.limit g.S-Stack-ArrayLike.limit
    g.S.Rules.CopyList.copies_free c.args.loaded.now a c.function_step.result.function c.function_step.result.caller c.function_step.new.caller)
    at.ensures (
      found,
      (
        subst (λ (n : ℕ). IsFoundIn g.R.Reader.position n c.args.loaded.now at.result found) c.bytes.ensures c.fde_in_module-found.ensures.found,
        covers_if_found view c.fde_in_module-found.result at.result c.fde_in_module-found.ensures.contains,
        c.function_step.ensures.step,
      ),
      c.function_step.ensures.function,
    )
