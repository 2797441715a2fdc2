use Rattle.std.proofs.Common.{rules, SFits, refl, sym, ap, ◌∙◌}
use Rattle.std.proofs.lemmas.Int.{to_z-of_z}
use Rattle.std.proofs.lemmas.Result.{err_from_is_err_and}
use Rattle.std.specs.Int.{w64}
use Rattle.cfi_read_core.specs.declared.instruction.CallFrameInstruction.TheVariants.{DefCfaOffset}
use Rattle.cfi_state.specs.Machine.{set_cfa_offset}
use Rattle.cfi_state.specs.UnwindContexts.{machine_state}
use Rattle.cfi_state.specs.ContextEffects.{setting_of}
use Rattle.cfi_state.proofs.Evaluation.{cfa-refused, cfa-set}
use Rattle.cfi_state.proofs.table.machine.InstructionRunnerInstructionVisitorUnwindContext.def_cfa_offset.Goals as goal

pub returns-in_err-cfa : goal.returns-in_err-cfa
returns-in_err-cfa g c =
    let refusal = err_from_is_err_and c.from_residual.result c.from_residual.ensures.1 in
    let old = machine_state c.args.self.now.location c.args.context.now in
    let fits : SFits w64 c.cast_signed.result = search rules in
    rw (refusal.1, refusal.2) (cfa-refused (setting_of c.args.self.now.parameters.now g.S.Rules.ArrayLike.limit g.S-Stack-ArrayLike.limit) g.S.Rules.CopyList.copies_free c.args.self.now.location c.args.context.now
    (DefCfaOffset c.args.offset) refl c.with_offset.result
    (ap (λ offset. set_cfa_offset old offset old.parts.cfa) (sym (to_z-of_z w64 c.cast_signed.result fits ∙ c.cast_signed.ensures))
    ∙ ap (set_cfa_offset old _) (sym (c.cfa.ensures ∙ ap (λ row. row.parts.cfa) c.row.ensures)) ∙ c.with_offset.ensures old)
    c.in_err-cfa.field-0.0 c.in_err-cfa.was)

pub returns : goal.returns
returns g c =
    let old = machine_state c.args.self.now.location c.args.context.now in
    let fits : SFits w64 c.cast_signed.result = search rules in
    cfa-set (setting_of c.args.self.now.parameters.now g.S.Rules.ArrayLike.limit g.S-Stack-ArrayLike.limit) g.S.Rules.CopyList.copies_free c.args.self.now.location c.args.context.now
    (DefCfaOffset c.args.offset) refl c.with_offset.result
    (ap (λ offset. set_cfa_offset old offset old.parts.cfa) (sym (to_z-of_z w64 c.cast_signed.result fits ∙ c.cast_signed.ensures))
    ∙ ap (set_cfa_offset old _) (sym (c.cfa.ensures ∙ ap (λ row. row.parts.cfa) c.row.ensures)) ∙ c.with_offset.ensures old)
    c.in_ok-cfa.cfa c.set_cfa.new.self c.in_ok-cfa.was c.set_cfa.ensures refl
