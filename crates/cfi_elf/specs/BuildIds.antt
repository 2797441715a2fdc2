-- The identification of a file's build, which a note has (GNU ld's manual, "--build-id").
--     build_id file      what the first note says that has one
use Rattle.std.specs.Prelude.{ℕ, Bool, ◌&&◌, List, [], ◌∷◌, find, codes, Option, Some, None, Result}
use Rattle.std.specs.Prelude.{Ok, option_map, nat_eq, ◌==◌, if◌then◌else◌}
use Rattle.std.specs.Cmp.Lexicographic.{pointwise}
use Rattle.cfi_elf.specs.declared.error.ElfError.{ElfError}
use Rattle.cfi_elf.specs.declared.program_header.ProgramHeader.{ProgramHeader}
use Rattle.cfi_elf.specs.ElfFiles.{File, is_big_file}
use Rattle.cfi_elf.specs.Results.{and_then}
use Rattle.cfi_elf.specs.SegmentLists.{segments, segment_bytes}
use Rattle.cfi_elf.specs.Notes.{Note, notes_of}

-- whether a note is named GNU, and of type NT_GNU_BUILD_ID (3)
abbrev pub is_build_id : Note → Bool
is_build_id note = (note.kind == 3) && pointwise nat_eq note.name (codes "GNU")

abbrev pub build_id_in : Bool → List ℕ → Option (List ℕ)
build_id_in big bytes = option_map (λ note. note.desc) (find is_build_id (notes_of big bytes).notes)

-- that of one segment; PT_NOTE is 4
unfoldable pub build_id_of : File → ProgramHeader → Result (Option (List ℕ)) ElfError
build_id_of file header =
    if header.p_type == 4
    then and_then (segment_bytes file header) (λ bytes. Ok (build_id_in (is_big_file file) bytes))
    else Ok None

-- this, or what the others give
abbrev pub or_others :
    Option (List ℕ) → Result (Option (List ℕ)) ElfError → Result (Option (List ℕ)) ElfError
or_others (Some id) others = Ok (Some id)
or_others None others = others

-- the first, or the first error before it
abbrev pub build_id_among : File → List ProgramHeader → Result (Option (List ℕ)) ElfError
build_id_among file [] = Ok None
build_id_among file (header ∷ headers) =
    and_then (build_id_of file header) (λ found. or_others found (build_id_among file headers))

unfoldable pub build_id : File → Result (Option (List ℕ)) ElfError
build_id file = and_then (segments file) (build_id_among file)
