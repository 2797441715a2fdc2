use Rattle.cfi_elf.specs.Notes.{note_view}
use Rattle.cfi_cores.specs.declared.error.CoreError.TheVariants.{NoteCut}
use Rattle.cfi_cores.specs.Contents.{contents_view, ended_by, contents_of_note}
use Rattle.cfi_cores.proofs.Sequences.{all_read, cut_first, no_note, note_first, one_read}
use Rattle.cfi_cores.proofs.contents.Contents.read_segment.Goals as goal

pub loop-note-preserved-in-Continue-1 : goal.loop-note-preserved-in-Continue-1
loop-note-preserved-in-Continue-1 c =
    one_read (contents_view c.loop-note.self) _ (contents_of_note c.args.machine (note_view c.in-Ok.note)) _ _ _ c.in_ok-read_note-in-Ok.ensures
    (note_first c.args.machine _ _ (note_view c.in-Ok.note) (rw c.in-Ok.is at c.in-Some.ensures.steps)) c.loop-note.invariant

pub loop-note-preserved : goal.loop-note-preserved
loop-note-preserved c =
    one_read (contents_view c.loop-note.self) _ (ended_by NoteCut) _ _ _ c.end.ensures
    (cut_first c.args.machine _ _ _ (rw c.in-Err.is at c.in-Some.ensures.steps)) c.loop-note.invariant

pub returns : goal.returns
returns c = all_read _ _ _ (no_note c.args.machine _ c.in-None.ensures.steps.0) c.loop-note.invariant
