use Rattle.std.proofs.Common.{sym, ◌∙◌}
use Rattle.cfi_elf.specs.Notes.{note_view}
use Rattle.cfi_elf.proofs.NoteSteps.{id_found, id_not_yet, no_id_cut, no_id_left}
use Rattle.cfi_elf.proofs.build_id.build_id_in.Goals as goal

pub returns-then-is_build_id : goal.returns-then-is_build_id
returns-then-is_build_id c = id_found _ _ (note_view c.in-Ok.note) (rw c.in-Ok.is at c.in-Some.ensures.steps) (sym c.is_build_id.ensures ∙ c.if-is_build_id.true) ∙ c.loop-note.invariant

pub loop-note-preserved : goal.loop-note-preserved
loop-note-preserved c = id_not_yet _ _ (note_view c.in-Ok.note) (rw c.in-Ok.is at c.in-Some.ensures.steps) (sym c.is_build_id.ensures ∙ c.if-is_build_id.false) ∙ c.loop-note.invariant

pub returns-in-Err : goal.returns-in-Err
returns-in-Err c = no_id_cut _ _ _ (rw c.in-Err.is at c.in-Some.ensures.steps) ∙ c.loop-note.invariant

pub returns : goal.returns
returns c = no_id_left _ c.in-None.ensures.steps.0 ∙ c.loop-note.invariant
