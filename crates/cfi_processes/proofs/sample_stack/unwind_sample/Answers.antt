use Rattle.std.proofs.Common.{ℕ, Option, subst}
use Rattle.cfi_expression.specs.Windows.{number_in}
use Rattle.cfi_step.specs.ModuleLists.{module_list}
use Rattle.cfi_perf.specs.Samples.{registers_view, user_view}
use Rattle.cfi_processes.specs.SampleStacks.{IsWalkOver}
use Rattle.cfi_processes.proofs.Unwinding.{unwound}
use Rattle.cfi_processes.proofs.sample_stack.unwind_sample.Goals as goal

pub returns-clause-unwound : goal.returns-clause-unwound
returns-clause-unwound g c =
    let innermost = c.in_ok-innermost.innermost in
    unwound g.R.Reader.position (λ (n : ℕ). n) g.S.Rules.ArrayLike.limit g.S-Stack-ArrayLike.limit g.S.Rules.CopyList.copies_free
    (module_list c.args.modules) c.args.machine (user_view c.args.user.now)
    (record { registers = c.args.registers.now; caller = c.args.caller.now; frames = c.args.frames.now })
    (record { registers = c.unwind_from.new.registers; caller = c.unwind_from.new.caller; frames = c.unwind_from.new.frames })
    (registers_view c.in_ok-sampled.sampled) innermost c.write_registers.new.known c.unwind_from.result
    c.in_ok-sampled.ensures c.in_ok-innermost.ensures c.write_registers.ensures
    (subst (λ (memory : ℕ → ℕ → Option ℕ). IsWalkOver g.R.Reader.position (λ (n : ℕ). n) g.S.Rules.ArrayLike.limit g.S-Stack-ArrayLike.limit g.S.Rules.CopyList.copies_free
    (module_list c.args.modules) c.args.machine memory innermost.pc c.write_registers.new.known
    (record { registers = c.args.registers.now; caller = c.args.caller.now; frames = c.args.frames.now })
    c.unwind_from.result
    (record { registers = c.unwind_from.new.registers; caller = c.unwind_from.new.caller; frames = c.unwind_from.new.frames }))
    (λ i. number_in (c.new.ensures i) innermost.stack_pointer) c.unwind_from.ensures.walk)
