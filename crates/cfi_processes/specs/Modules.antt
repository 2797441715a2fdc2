-- The module that call frames of a file are where the file is mapped (LSB Core, "Exception Frames";
-- System V ABI chapter 5, "Program Loading").
--     FileModule, loaded_module_view      a module by its code and its sections, and that of the
--         code
--     module_header frame bases header      the header of .eh_frame, at the addresses of the file
--     DebugModule, debug_view      .debug_frame as frames are found by it, and that of the code
--     loaded_module number section header table debug mapped bias      the module of .eh_frame and
--         its header, with the file's number, this compiled table and .debug_frame
use Rattle.std.specs.Prelude.{ℕ, Option, option_map}
use Rattle.cfi_read_core.specs.declared.endianity.RunTimeEndian.{RunTimeEndian}
use Rattle.cfi_read_core.specs.AddressSizes.{size_in_bytes}
use Rattle.cfi_read_core.specs.ByteOrder.{is_big}
use Rattle.cfi_read_core.specs.SliceReaders.{EndianSlice, slice_position}
use Rattle.cfi_entry.specs.Sections.{Section}
use Rattle.cfi_entry.specs.SectionViews.{debug_frame_view, eh_frame_address_size}
use Rattle.cfi_read_core.specs.ReadFunctions.{Position}
use Rattle.gimli_cfi.specs.Words.{BaseAddresses, EhFrame}
use Rattle.gimli_cfi.specs.declared.hdr.header.EhFrameHdr.{EhFrameHdr}
use Rattle.gimli_cfi.specs.EhFrameHdr.{HeaderSection}
use Rattle.gimli_cfi.specs.HeaderViews.{section_view, unparsed_view}
use Rattle.cfi_compiled.specs.CompiledTables.{TableContents}
use Rattle.cfi_step.specs.declared.module.DebugTable.{DebugTable}
use Rattle.cfi_step.specs.declared.module.LoadedModule.{LoadedModule}
use Rattle.cfi_mapped.specs.declared.mappings.MappedCode.{MappedCode}

-- .debug_frame as frames are found by it.
pub record DebugModule : Type 0 where
  pub bytes : Position  -- of the section, which has those of the expressions in rows
  pub compiled : TableContents

abbrev pub debug_view : DebugTable (EndianSlice RunTimeEndian) → DebugModule
debug_view debug = record {
  bytes = (debug_frame_view (slice_position is_big) debug.frame.now).position;
  compiled = debug.compiled.now;
}

-- A module as its frames are found: its code is from one address of the process up to another.
pub record FileModule : Type 0 where
  pub start : ℕ
  pub end : ℕ
  pub bias : ℕ  -- how far the file is moved
  pub file : ℕ  -- the number of the file
  pub section : Section  -- .eh_frame
  pub header : Option HeaderSection  -- .eh_frame_hdr
  pub compiled : Option TableContents  -- the table that is asked in place of both
  pub debug : Option DebugModule  -- .debug_frame, asked where no FDE of .eh_frame has the address

-- the header of the code, if addresses have the size of the section's
abbrev pub module_header :
    EhFrame (EndianSlice RunTimeEndian) → BaseAddresses →
    Option (EhFrameHdr (EndianSlice RunTimeEndian)) → Option HeaderSection
module_header frame bases header =
    let size = size_in_bytes (eh_frame_address_size frame) in
    option_map (λ header. unparsed_view (slice_position is_big) header size bases) header

-- what a module of the code is
abbrev pub loaded_module_view : LoadedModule (EndianSlice RunTimeEndian) → FileModule
loaded_module_view loaded = record {
  start = loaded.start;
  end = loaded.end;
  bias = loaded.bias;
  file = loaded.file;
  section = section_view (slice_position is_big) loaded.frame loaded.bases;
  header = module_header loaded.frame loaded.bases loaded.header;
  compiled = option_map (λ table. table.now) loaded.compiled;
  debug = option_map debug_view loaded.debug;
}

-- the sections as they lie in the file, and the code as it lies in the process
abbrev pub loaded_module :
    ℕ → Section → Option HeaderSection → Option TableContents → Option DebugModule → MappedCode →
    ℕ → FileModule
loaded_module number section header table debug mapped bias = record {
  start = mapped.start;
  end = mapped.end;
  bias = bias;
  file = number;
  section = section;
  header = header;
  compiled = table;
  debug = debug;
}
