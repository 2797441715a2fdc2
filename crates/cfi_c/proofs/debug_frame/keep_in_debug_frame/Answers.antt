use Rattle.std.proofs.Common.{ℕ}
use Rattle.cfi_read_core.specs.ByteOrder.{is_big}
use Rattle.cfi_read_core.specs.ReaderCalls.{map_ok}
use Rattle.cfi_read_core.specs.SliceReaders.{slice_position}
use Rattle.cfi_entry.specs.SectionViews.{debug_frame_view}
use Rattle.cfi_entry.specs.Sections.{section_of}
use Rattle.cfi_unwind.specs.FdeViews.{fde_view}
use Rattle.cfi_step.specs.PackedRows.{rows_in}
use Rattle.cfi_step.proofs.FoundFdes.{covers_if_found}
use Rattle.cfi_c.proofs.CachedSteps.{keeps_scanned}
use Rattle.cfi_c.proofs.debug_frame.keep_in_debug_frame.Goals as goal

pub returns : goal.returns
returns c =
    let scanned = c.scanned_of-scanned in
    let found = c.scan_for_fde-found in
    let view = fde_view (slice_position is_big) (λ (n : ℕ). n) in
    keeps_scanned c.args.size c.args.file c.args.address c.args.module.now (rows_in c.args.rows.now) (rows_in c.keep_found.new.cache)
    (section_of (debug_frame_view (slice_position is_big) scanned.result.frame) scanned.result.bases) c.requires.kind scanned.ensures.section
    (map_ok view found.result) found.ensures.scan (covers_if_found view found.result c.args.address found.ensures.contains) c.keep_found.ensures
