use Rattle.std.proofs.Common.{length, refl, sym}
use Rattle.std.proofs.lemmas.Bool.{ltb-true}
use Rattle.std.proofs.lemmas.Option.{slice_get_read}
use Rattle.cfi_processes.proofs.ModuleLemmas.{of_files}
use Rattle.cfi_processes.proofs.process_code.ProcessCode.module_at.Goals as goal

pub returns-clause-file : goal.returns-clause-file
returns-clause-file c =
    let files = c.args.self.now.files.now in
    of_files files c.in_ok-number.number c.in_ok-get.field-0.now c.module_in.result
    (slice_get_read files (length files) c.in_ok-number.number c.in_ok-get.field-0.now refl (ltb-true c.in_ok-number.number (length files) (sym c.in_ok-get.ensures.lookup.0)) c.in_ok-get.ensures.lookup.1) c.module_in.ensures.file
