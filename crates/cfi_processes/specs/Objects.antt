-- A file of a profile, and the module that it is where a process has mapped it.
--     Object, object_view      its segments and its call frames, and that of the code
--     code_addresses file offset      the address of the byte of code at an offset
--     debug_for file debug      .debug_frame of a file, or else of its debug file
--     object_in image debug      the file of which these parts were read, if it has call frames;
--         of its debug file those of debug were
--     bias_by addresses mapped, bias_of object mapped      how far its code is moved
--     is_compiled object      whether a compiled table is made
--     IsDebugTable section table      a compiled table of .debug_frame, if there is one
--     object_module number object tables mapped      the module, with the file's number and these
--         compiled tables
--     HasFramesOf number object loaded      a module of the code has the file's number and its call
--         frames
use Rattle.std.specs.Prelude.{◌≡◌, ℕ, ◌==◌, Bool, not, [], Option, Some, None, Result, Ok}
use Rattle.std.specs.Prelude.{Err, length, option_map, if◌then◌else◌}
use Rattle.std.specs.Option.{is_some, option_and_then, option_or}
use Rattle.std.specs.Result.{result_ok}
use Rattle.cfi_read_core.specs.ByteOrder.{is_big}
use Rattle.cfi_read_core.specs.SliceReaders.{EndianSlice, slice_position}
use Rattle.cfi_read_core.specs.declared.endianity.RunTimeEndian.{RunTimeEndian}
use Rattle.cfi_entry.specs.Sections.{DebugFrame, EhFrame, Section, position_of, section_of}
use Rattle.gimli_cfi.specs.EhFrameHdr.{HeaderSection}
use Rattle.gimli_cfi.specs.HeaderViews.{section_view}
use Rattle.cfi_entry.specs.SectionViews.{debug_frame_view}
use Rattle.gimli_cfi.specs.SectionSources.{GivenSection, given_as, given_header}
use Rattle.gimli_cfi.specs.declared.source.SectionKind.TheVariants as given
use Rattle.cfi_elf.specs.declared.error.ElfError.{ElfError}
use Rattle.cfi_elf.specs.ElfFiles.{File, elf_file_of, file_view}
use Rattle.cfi_elf.specs.Images.{Image}
use Rattle.cfi_compiled.specs.CompiledTables.{TableContents, IsCompiled}
use Rattle.cfi_elf.specs.Segments.{address_of_offset}
use Rattle.cfi_elf.specs.Modular.{minus}
use Rattle.cfi_object.specs.CallFrames.{debug_frame_of, eh_frame_of, given_section}
use Rattle.cfi_step.specs.declared.module.LoadedModule.{LoadedModule}
use Rattle.cfi_mapped.specs.declared.mappings.MappedCode.{MappedCode}
use Rattle.cfi_mapped.specs.FileBuilds.{there}
use Rattle.cfi_processes.specs.declared.objects.DebugSection.{DebugSection}
use Rattle.cfi_processes.specs.declared.objects.Object.{Object as ObjectOfCode}
use Rattle.cfi_processes.specs.Modules.{DebugModule, FileModule, module_header, loaded_module}

pub record Object : Type 0 where
  pub addresses : ℕ → Option ℕ  -- of the byte of code at an offset
  pub section : Section  -- .eh_frame
  pub header : Option HeaderSection  -- .eh_frame_hdr, if there is one
  pub debug : Option Section  -- .debug_frame, if there is one

abbrev pub debug_section : DebugSection → Section
debug_section debug = section_of (debug_frame_view (slice_position is_big) debug.frame) debug.bases

-- where the segment of code that has the byte at an offset places it
abbrev pub code_addresses : File → ℕ → Option ℕ
code_addresses file offset = there (address_of_offset file offset)

-- what an `Object` of the code is
abbrev pub object_view : ObjectOfCode → Object
object_view object = record {
  addresses = code_addresses (file_view object.file);
  section = section_view (slice_position is_big) object.frame object.bases;
  header = module_header object.frame object.bases object.header;
  debug = option_map debug_section object.debug;
}

-- .debug_frame of a file, if the file can be read and has bytes of it
abbrev pub if_bytes : GivenSection → Option GivenSection
if_bytes frames = if length frames.bytes == 0 then None else Some frames

abbrev pub debug_in : File → Option GivenSection
debug_in file = option_and_then if_bytes (there (debug_frame_of file))

-- that of the file, or else that of its debug file, which has the same addresses
abbrev pub debug_for : File → Option Image → Option GivenSection
debug_for file debug =
    option_or (debug_in file)
    (option_and_then (λ image. option_and_then debug_in (result_ok (elf_file_of image))) debug)

-- the file with these sections
abbrev pub object_with : File → GivenSection → Option GivenSection → Object
object_with file frames debug = record {
  addresses = code_addresses file;
  section = given_as EhFrame frames;
  header = given_header frames;
  debug = option_map (given_as DebugFrame) debug;
}

-- with either of the two; .eh_frame that isn't there has no entries
abbrev pub with_either : File → Option GivenSection → Option GivenSection → Option Object
with_either file (Some frames) debug = Some (object_with file frames debug)
with_either file None debug =
    let frameless = given_section file given.EhFrame [] in
    option_map (λ frames. object_with file frameless (Some frames)) debug

abbrev pub with_call_frames : Option Image → File → Option Object
with_call_frames debug file = with_either file (there (eh_frame_of file)) (debug_for file debug)

-- the file of which these parts were read, if it can be read and has call frames
abbrev pub object_in : Image → Option Image → Option Object
object_in image debug = option_and_then (with_call_frames debug) (result_ok (elf_file_of image))

-- the byte at the first mapped address is that at the offset in the file, which has an address of
-- the file's own
abbrev pub bias_by : (ℕ → Option ℕ) → MappedCode → Option ℕ
bias_by addresses mapped = option_map (minus mapped.start) (addresses mapped.offset)

abbrev pub bias_of : Object → MappedCode → Option ℕ
bias_of object mapped = bias_by object.addresses mapped

-- where each row is else found by a scan
abbrev pub is_compiled : Object → Bool
is_compiled object = not (is_some object.header)

-- in a storage of 192 rules and 4 rows
abbrev pub IsDebugTable : Option Section → Option TableContents → Type 0
IsDebugTable None table = table ≡ None
IsDebugTable (Some section) table =
    (made : TableContents) × IsCompiled (Some 192) (Some 4) section made × (table ≡ Some made)

-- The compiled tables of a file: of .eh_frame and of .debug_frame.
pub record Tables : Type 0 where
  pub table : Option TableContents
  pub debug : Option TableContents

-- .debug_frame with its table
abbrev pub debug_module : Section → TableContents → DebugModule
debug_module section table = record { bytes = position_of section; compiled = table }

abbrev pub debug_by : Option Section → Option TableContents → Option DebugModule
debug_by None table = None
debug_by (Some section) table = option_map (debug_module section) table

abbrev pub object_module : ℕ → Object → Tables → MappedCode → Option FileModule
object_module number object tables mapped =
    option_map
    (loaded_module number object.section object.header tables.table
    (debug_by object.debug tables.debug) mapped)
    (bias_of object mapped)

-- wherever the file is mapped
abbrev pub HasFramesOf : ℕ → ObjectOfCode → LoadedModule (EndianSlice RunTimeEndian) → Type 0
HasFramesOf number object loaded =
    (loaded.file ≡ number) × (loaded.frame ≡ object.frame) × (loaded.header ≡ object.header)
    × (loaded.bases ≡ object.bases)
