use Rattle.std.proofs.Common.{◌≡◌, option_map}
use Rattle.std.specs.Prelude.{find}
use Rattle.cfi_elf.specs.BuildIds.{is_build_id}
use Rattle.cfi_elf.specs.Notes.{notes_left}
use Rattle.cfi_elf.proofs.build_id.build_id_in.Given as goal

-- the notes that are left give what all give
abbrev pub invariant-loop-note : goal.invariant-loop-note
invariant-loop-note l =
    option_map (λ note. note.desc) (find is_build_id (notes_left l.note-iterator).notes)
    ≡ option_map (λ note. note.desc) (find is_build_id (notes_left l.fn.notes).notes)
