use Rattle.std.proofs.Common.{◌≡◌, Err, rules}
use Rattle.cfi_elf.specs.ElfFiles.{file_view}
use Rattle.cfi_elf.specs.SegmentLists.{segments_left}
use Rattle.cfi_cores.proofs.CoreResults.{core_found, no_file, no_headers, no_machine}
use Rattle.cfi_cores.proofs.core_file.read_core.Goals as goal

pub returns-in_err-file-clause-core : goal.returns-in_err-file-clause-core
returns-in_err-file-clause-core c =
    let gives : c.from_residual.result ≡ Err c.in_err-file.field-0.0 = search rules in
    no_file c.args.bytes.now c.in_err-file.field-0.0 c.from_residual.result c.in_err-file.ensures gives

pub returns-in_err-machine-clause-core : goal.returns-in_err-machine-clause-core
returns-in_err-machine-clause-core c =
    let gives : c.from_residual-in_err-machine.result ≡ Err c.in_err-machine.field-0.0 = search rules in
    no_machine c.args.bytes.now (file_view c.in_ok-file.file) c.in_ok-file.ensures c.in_err-machine.field-0.0 c.from_residual-in_err-machine.result c.in_err-machine.ensures gives

pub returns-in_err-headers-clause-core : goal.returns-in_err-headers-clause-core
returns-in_err-headers-clause-core c =
    let gives : c.from_residual-in_err-headers.result ≡ Err c.in_err-headers.field-0.0 = search rules in
    no_headers c.args.bytes.now (file_view c.in_ok-file.file) c.in_ok-file.ensures c.in_ok-machine.machine c.in_ok-machine.ensures c.in_err-headers.field-0.0 c.from_residual-in_err-headers.result c.in_err-headers.ensures gives

pub returns-in-Ok-clause-core : goal.returns-in-Ok-clause-core
returns-in-Ok-clause-core c =
    core_found c.args.bytes.now (file_view c.in_ok-file.file) c.in_ok-file.ensures c.in_ok-machine.machine c.in_ok-machine.ensures
    (segments_left c.in_ok-headers.headers) c.in-Ok.core c.in_ok-headers.ensures c.in-Ok.ensures.core
