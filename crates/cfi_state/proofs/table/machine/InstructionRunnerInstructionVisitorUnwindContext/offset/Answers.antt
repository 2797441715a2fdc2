use Rattle.std.proofs.Common.{Ok, refl, sym, ap}
use Rattle.cfi_read_core.specs.declared.instruction.CallFrameInstruction.TheVariants.{Offset}
use Rattle.cfi_state.specs.Machine as machine
use Rattle.cfi_state.specs.UnwindContexts.{machine_state}
use Rattle.cfi_state.specs.ContextEffects.{setting_of}
use Rattle.cfi_state.proofs.Evaluation.{gives}
use Rattle.cfi_state.proofs.table.machine.InstructionRunnerInstructionVisitorUnwindContext.offset.Goals as goal

pub returns : goal.returns
returns g c =
    let s = setting_of c.args.self.now.parameters.now g.S.Rules.ArrayLike.limit g.S-Stack-ArrayLike.limit in
    let i = Offset c.args.register c.args.factored_offset in (
      gives s g.S.Rules.CopyList.copies_free c.args.self.now.location c.args.context.now c.set_rule.new.self i c.args.register c.at_offset.result (Ok tt)
          (ap (machine.set_rule s (machine_state c.args.self.now.location c.args.context.now) c.args.register.0) (sym c.at_offset.ensures)) refl refl c.in_ok-set_rule.ensures,
      refl,
    )
