use Rattle.std.proofs.Common.{◌∙◌, None, arith}
use Rattle.std.proofs.lemmas.List.FromFn.{fill_by_all}
use Rattle.cfi_cores.specs.CoreThreads.{thread_register, thread_view}
use Rattle.cfi_processes.specs.Registers.{register_count}
use Rattle.cfi_core_stacks.proofs.thread_frames.write_registers.Goals as goal

pub returns : goal.returns
returns c =
    let long = c.loop-k.invariant.0 ∙ c.requires in
    fill_by_all (thread_register c.args.machine (thread_view c.args.thread.now)) c.loop-k.known (register_count c.args.machine) None long
    (λ j below. c.loop-k.invariant.1 j (omega (arith, c.loop-k-test.false, long, below)))
