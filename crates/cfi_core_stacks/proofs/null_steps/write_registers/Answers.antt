use Rattle.std.proofs.Common.{None, arith, length}
use Rattle.std.proofs.lemmas.List.FromFn.{fill_by_all}
use Rattle.cfi_core_stacks.specs.NullSteps.{value_in_caller}
use Rattle.cfi_core_stacks.proofs.null_steps.write_registers.Goals as goal

pub returns : goal.returns
returns c =
    let long = c.loop-k.invariant.0 in
    fill_by_all (value_in_caller c.args.machine c.args.registers.now c.args.cfa) c.loop-k.caller (length c.args.caller.now) None long
    (λ j below. c.loop-k.invariant.1 j (omega (arith, c.loop-k-test.false, long, below)))
