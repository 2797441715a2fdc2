use Rattle.std.proofs.Common.{◌≡◌, ◌∙◌, false, rules}
use Rattle.cfi_read_core.specs.ByteOrder.{is_big}
use Rattle.cfi_read_core.specs.SliceReaders.{slice_position}
use Rattle.cfi_step.specs.Modules.{address_in_file}
use Rattle.cfi_step.specs.PackedRows.{rows_in}
use Rattle.cfi_c.specs.PassedSections.{header_in}
use Rattle.cfi_c.specs.PassedModules.{sized}
use Rattle.cfi_c.specs.PassedModules.{is_debug_frame}
use Rattle.cfi_c.proofs.CachedSteps.{keeps}
use Rattle.cfi_c.proofs.StepsInModules.{of_eh_frame}
use Rattle.cfi_c.proofs.cached_step.keep_in_module.Goals as goal

pub returns : goal.returns
returns c =
    let loaded = c.loaded_of-loaded in
    let module_now = c.args.module.now in
    let no : is_debug_frame module_now ≡ false = search rules in
    keeps c.args.size c.args.file (address_in_file loaded.result.bias c.args.address) c.args.module.now (rows_in c.args.rows.now) (rows_in c.keep_row.new.cache) (slice_position is_big) loaded.result
    (loaded.ensures.section ∙ of_eh_frame (sized c.args.size module_now.bases) (header_in module_now.header.now) module_now.section.now no) loaded.ensures.header c.keep_row.ensures
