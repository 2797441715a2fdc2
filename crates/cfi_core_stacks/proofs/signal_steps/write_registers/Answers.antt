use Rattle.std.proofs.Common.{None, arith, length}
use Rattle.std.proofs.lemmas.List.FromFn.{fill_by_all}
use Rattle.cfi_core_stacks.specs.SignalSteps.{saved_in}
use Rattle.cfi_core_stacks.proofs.signal_steps.write_registers.Goals as goal

pub returns : goal.returns
returns g c =
    let long = c.loop-k.invariant.0 in
    fill_by_all (saved_in (g.M.Memory.number_at c.args.memory.now) c.args.context) c.loop-k.caller (length c.args.caller.now) None long
    (λ j below. c.loop-k.invariant.1 j (omega (arith, c.loop-k-test.false, long, below)))
