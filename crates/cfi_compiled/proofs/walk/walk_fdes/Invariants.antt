use Rattle.std.proofs.Common.{◌≤◌, ℕ, map, drop, Err}
use Rattle.cfi_entry.specs.Sections.{section_of}
use Rattle.cfi_unwind.specs.FdeViews.{fde_view}
use Rattle.cfi_unwind.specs.Scan.{answer_by}
use Rattle.cfi_compiled.specs.FrameParts.{frame_of_fde}
use Rattle.cfi_compiled.proofs.FdeSteps.{Taken}
use Rattle.cfi_compiled.proofs.walk.walk_fdes.Given as goal

abbrev pub invariant-loop-piece : goal.invariant-loop-piece
invariant-loop-piece g l =
    let section = section_of (g.S._UnwindSectionPrivate.view l.section) l.bases in
    let fdes = map (fde_view g.R.Reader.position (λ (n : ℕ). n)) l.fdes in
    record {
      free : g.K.StepSink.free l.sink ≤ l.end;
      so_far : Taken (λ a found. answer_by (frame_of_fde g.C.Rules.ArrayLike.limit g.C-Stack-ArrayLike.limit section a) found) fdes l.pieces (drop l.piece-index l.pieces) (Err l.outside) l.end (g.K.StepSink.answer l.sink);
    }
