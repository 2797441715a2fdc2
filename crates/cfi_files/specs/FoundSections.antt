-- The sections of call frames of a file, each with the error in its place where it can't be had.
use Rattle.std.specs.Prelude.{◌≡◌, Option, Result, option_map}
use Rattle.std.specs.Result.{result_transpose}
use Rattle.cfi_elf.specs.declared.error.ElfError.{ElfError}
use Rattle.cfi_elf.specs.ElfFiles.{File}
use Rattle.cfi_read_core.specs.ReaderCalls.{map_ok}
use Rattle.gimli_cfi.specs.SectionSources.{GivenSection, source_view}
use Rattle.gimli_cfi.specs.declared.source.SectionSource.{SectionSource}
use Rattle.cfi_object.specs.CallFrames.{debug_frame_of, eh_frame_of}
use Rattle.cfi_files.specs.declared.row.FrameSections.{FrameSections}

-- none where the file has no such section
abbrev pub FoundSection : Type 0
FoundSection = Option (Result GivenSection ElfError)

abbrev pub eh_frame_in : File → FoundSection
eh_frame_in file = result_transpose (eh_frame_of file)

abbrev pub debug_frame_in : File → FoundSection
debug_frame_in file = result_transpose (debug_frame_of file)

-- ---- as the code has them

abbrev pub frames_view : Option (Result SectionSource ElfError) → FoundSection
frames_view part = option_map (λ part. map_ok source_view part) part

abbrev pub AreSectionsOf : File → FrameSections → Type 0
AreSectionsOf file sections =
    (frames_view sections.eh_frame ≡ eh_frame_in file)
    × (frames_view sections.debug_frame ≡ debug_frame_in file)
