-- Which parts of a file of code are enough.
--     needed_of_code      what is needed of it beside its call frames
--     is_read r      whether no byte was needed that was not read
--     are_enough image      whether the parts have all that is needed of the file: the note of its
--         build, the link to its debug file, the call frames and the symbols
use Rattle.std.specs.Prelude.{Bool, true, false, not, ◌&&◌, Result, Ok, Err}
use Rattle.cfi_elf.specs.declared.error.ElfError.{ElfError}
use Rattle.cfi_elf.specs.declared.error.ElfError.TheVariants.{NotRead}
use Rattle.cfi_elf.specs.DebugLinks.{debug_link}
use Rattle.cfi_elf.specs.ElfFiles.{File, elf_file_of}
use Rattle.cfi_elf.specs.Images.{Image}
use Rattle.cfi_elf.specs.BuildIds.{build_id}
use Rattle.cfi_elf.specs.SymbolTables.{symbol_table}
use Rattle.cfi_object.specs.declared.needed.Needed.{Needed}
use Rattle.cfi_object.specs.CallFrames.{debug_frame_of, eh_frame_of}

-- its symbols, and the note of its build with the link to its debug file
abbrev pub needed_of_code : Needed
needed_of_code = record { symbols = true; plt = false; build = true }

abbrev pub is_lack : ElfError → Bool
is_lack (NotRead offset size) = true
is_lack e = false

abbrev pub is_read : {A : Type 0} → Result A ElfError → Bool
is_read (Ok x) = true
is_read (Err e) = not (is_lack e)

abbrev pub has_needed : File → Bool
has_needed file =
    is_read (build_id file)
    && (is_read (debug_link file)
    && (is_read (eh_frame_of file)
    && (is_read (debug_frame_of file) && is_read (symbol_table file))))

abbrev pub has_needed_of : Result File ElfError → Bool
has_needed_of (Ok file) = has_needed file
has_needed_of (Err e) = not (is_lack e)

abbrev pub are_enough : Image → Bool
are_enough image = has_needed_of (elf_file_of image)
