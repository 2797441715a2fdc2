use Rattle.std.proofs.Common.{◌∙◌, Bool, ap}
use Rattle.std.specs.Prelude.{option_map}
use Rattle.std.specs.Option.{is_some}
use Rattle.cfi_perf.specs.Events.{record_view}
use Rattle.cfi_mapped.specs.WantedFiles.{mapped_code_file}
use Rattle.cfi_mapped.specs.Wanted.{wanted_view}
use Rattle.cfi_stacks.proofs.WantedPieces.{file_of_other}
use Rattle.cfi_stacks.proofs.profile_index.ProfileIndex.code_file.Goals as goal

pub returns-in-Ok : goal.returns-in-Ok
returns-in-Ok c known piece is at =
    file_of_other known c.args.self.now piece c.args.place.now is at (is_some c.args.self.now.kernel) (record_view c.in-Ok.item) (option_map wanted_view c.code_file.result) c.in_default.not-InFile
    (c.in-Ok.ensures known c.in_default.not-InFile) (c.code_file.ensures ∙ ap (λ (b : Bool). mapped_code_file b (record_view c.in-Ok.item).event) c.is_some.ensures)
