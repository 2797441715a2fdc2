use Rattle.std.proofs.Common.{ℕ}
use Rattle.cfi_read_core.specs.ByteOrder.{is_big}
use Rattle.cfi_read_core.specs.ReaderCalls.{map_ok}
use Rattle.cfi_read_core.specs.SliceReaders.{slice_position}
use Rattle.cfi_entry.specs.SectionViews.{debug_frame_view}
use Rattle.cfi_entry.specs.Sections.{section_of}
use Rattle.cfi_unwind.specs.FdeViews.{fde_view}
use Rattle.cfi_expression.specs.Frames.{frame_view}
use Rattle.cfi_step.proofs.FoundFdes.{covers_if_found}
use Rattle.cfi_c.proofs.StepsInModules.{by_scan}
use Rattle.cfi_c.proofs.debug_frame.step_in_debug_frame.Goals as goal

pub returns-clause-step : goal.returns-clause-step
returns-clause-step g c =
    let scanned = c.scanned_of-scanned in
    let found = c.scan_for_fde-found in
    let step = c.function_step in
    let view = fde_view (slice_position is_big) (λ (n : ℕ). n) in
    let section = debug_frame_view (slice_position is_big) scanned.result.frame in
    by_scan (frame_view g.M.Memory.number_at c.args.frame.now) c.args.abi.now c.args.module.now c.bytes.result (section_of section scanned.result.bases) section.position c.args.address
    (map_ok view found.result) step.result.function step.result.caller step.new.caller
    c.requires.kind c.bytes.ensures scanned.ensures.section scanned.ensures.bytes found.ensures.scan (covers_if_found view found.result c.args.address found.ensures.contains) step.ensures.step step.ensures.function
