use Rattle.std.proofs.Common.{List, map, subst}
use Rattle.cfi_cores.specs.CoreThreads.{thread_view}
use Rattle.cfi_mapped.specs.ThreadNames.{name_bytes}
use Rattle.cfi_processes.specs.KnownFiles.{known_view}
use Rattle.cfi_step.specs.declared.walk.StackFrame.{StackFrame}
use Rattle.cfi_core_stacks.specs.KnownCores.{has_parts}
use Rattle.cfi_core_stacks.specs.ThreadOutputs.{IsFoundText}
use Rattle.cfi_core_stacks.proofs.KnownLemmas.{begun_text}
use Rattle.cfi_core_stacks.proofs.core_threads.print_thread.Goals as goal

pub returns-clause-printed : goal.returns-clause-printed
returns-clause-printed g c = λ all known.
    let process = c.args.process.now in
    let found = c.in-Some.found in
    let (text, written, is) = c.in_ok-print_found.ensures in
    let said = subst (λ (room : List StackFrame). IsFoundText c.args.listing (map known_view process.code.files.now) process.code.mappings.now (name_bytes process.name) (thread_view c.args.thread.now) found room text) c.as_slice-frames.ensures.value is in
    (text, written, (found, _, c.in-Some.ensures.walked all known, said))

pub returns-in_err-print_found-clause-printed : goal.returns-in_err-print_found-clause-printed
returns-in_err-print_found-clause-printed g c = λ all known.
    let process = c.args.process.now in
    let found = c.in-Some.found in
    let (text, begun, is) = c.in_err-print_found.ensures in
    let said = subst (λ (room : List StackFrame). IsFoundText c.args.listing (map known_view process.code.files.now) process.code.mappings.now (name_bytes process.name) (thread_view c.args.thread.now) found room text) c.as_slice-frames.ensures.value is in
    begun_text _ _ _ (has_parts c.args.memory.now) c.from_residual.result text c.from_residual.ensures.0 begun (found, _, c.in-Some.ensures.walked all known, said)
