-- What is read of a file by parts is what is read of the whole file, unless it needs bytes that were not read; and of a
-- whole file all is read.
use Rattle.std.proofs.Common.{◌≡◌, ◌∙◌, ◌+◌, ◌*◌, false, Bool, ℕ, List, [], length, drop, Option, Some, None, Result, Ok, Err, refl, ap, subst}
use Rattle.std.specs.Prelude.{not, nat_le, find, slice_get, ◌==◌, ◌&&◌, bit_and, codes, if◌then◌else◌}
use Rattle.cfi_elf.specs.declared.error.ElfError.{ElfError}
use Rattle.cfi_elf.specs.declared.error.ElfError.TheVariants.{SectionEntrySize, SectionTableOutOfBounds, NoNameSection, SectionOutOfBounds, Compressed, NameOutOfBounds, NameNotTerminated, ProgramEntrySize, ProgramTableOutOfBounds, SegmentOutOfBounds}
use Rattle.cfi_elf.specs.declared.section_header.SectionHeader.{SectionHeader}
use Rattle.cfi_elf.specs.declared.symbol.Symbol.{Symbol}
use Rattle.cfi_elf.specs.declared.program_header.ProgramHeader.{ProgramHeader}
use Rattle.cfi_elf.specs.declared.segments.Wanted.{Wanted}
use Rattle.cfi_elf.specs.declared.segments.Wanted.TheVariants.{OfType, LoadedAt, CodeAt}
use Rattle.cfi_elf.specs.Images.{Image, IsImageOf, IsRead, bytes_at, whole}
use Rattle.cfi_elf.specs.Fields.{before_zero}
use Rattle.cfi_elf.specs.Headers.{program_header_bytes, section_header_bytes}
use Rattle.cfi_elf.specs.ElfFiles.{File, class_of_file}
use Rattle.cfi_elf.specs.Sections.{Section, debug_frame, header_named, is_named, section_address, section_named, section_by_header, unless_compressed}
use Rattle.cfi_elf.specs.SectionContents.{address_of, by_type, contents}
use Rattle.cfi_elf.specs.SectionTables.{first_section_header, or_by_first, section_count, section_headers, section_table}
use Rattle.cfi_elf.specs.StringTables.{name_at, name_section, names_at, section_names}
use Rattle.cfi_elf.specs.Segments.{address_of_offset, bytes_after, eh_frame_hdr_segment, loaded_bytes, segment_of, wanted_segment}
use Rattle.cfi_elf.specs.SegmentLists.{program_table, segment_bytes, segment_count}
use Rattle.cfi_elf.specs.Symbols.{is_function_at}
use Rattle.cfi_elf.specs.FunctionEntries.{function_descriptors, has_descriptors}
use Rattle.cfi_elf.specs.Functions.{Function, function_at, read_function}
use Rattle.cfi_elf.specs.SymbolTables.{SymbolTable, symbol_section, symbol_table, symbols, symbols_in, symbols_if_any}
use Rattle.cfi_elf.specs.SymbolAddresses.{is_symbol_named, symbol_address}
use Rattle.cfi_elf.specs.SymbolAddresses.{symbol_addresses}
use Rattle.cfi_elf.specs.FunctionNames.{best_name, function_name, function_place, place_among}
use Rattle.cfi_elf.specs.Functions.{functions_in, named_functions}
use Rattle.cfi_elf.proofs.SameResults.{Same, is_not_read, same_err, same_first_by, same_if, same_if_found, same_ok, same_or_missing, same_then}
use Rattle.cfi_elf.proofs.ImageParts.{same_part}

-- the file all of whose bytes are these
abbrev pub in_whole : List ℕ → File → File
in_whole bytes file = record file { image = whole bytes }

-- ---- bytes

module _ {image : Image} {bytes : List ℕ} (of : IsImageOf image bytes) where
  pub same_bytes_at : (offset size : ℕ) (error : ElfError) → is_not_read error ≡ false → Same (bytes_at image offset size error) (bytes_at (whole bytes) offset size error)
  unfolding bytes_at
  same_bytes_at offset size error other = same_then (same_part of offset size) (λ found. same_or_missing error other found)

-- ---- sections

same_name_at : (strings : List ℕ) (index : ℕ) → Same (name_at strings index) (name_at strings index)
unfolding name_at
same_name_at strings index =
    same_if (index == 0) (same_ok []) (same_if (nat_le (length strings) index) (same_err NameOutOfBounds refl) (same_or_missing NameNotTerminated refl (before_zero (drop index strings))))

same_is_named : (names name : List ℕ) (header : SectionHeader) → Same (is_named names name header) (is_named names name header)
unfolding is_named
same_is_named names name header = same_if (header.sh_type == 0) (same_ok false) (same_then (same_name_at names header.sh_name) (λ found. same_ok _))

same_by_type : {A : Type 0} (header : SectionHeader) (x : A) {r r' : Result A ElfError} → Same r r' → Same (by_type header x r) (by_type header x r')
same_by_type header x same = same_if (header.sh_type == 8) (same_ok x) (same_if (not (bit_and header.sh_flags 0x800 == 0)) (same_err Compressed refl) same)

module _ {bytes : List ℕ} (file : File) (of : IsImageOf file.image bytes) where
  abbrev all : File
  all = in_whole bytes file

  same_first_header : Same (first_section_header file) (first_section_header all)
  unfolding first_section_header
  same_first_header =
      same_then (same_bytes_at of file.header.offsets.e_shoff (section_header_bytes (class_of_file file)) SectionTableOutOfBounds refl)
      (λ found. same_or_missing SectionTableOutOfBounds refl (slice_get (section_headers file found) 0))

  same_by_first : (number : ℕ) (by_first : Bool) (of_first : SectionHeader → ℕ) → Same (or_by_first file number by_first of_first) (or_by_first all number by_first of_first)
  same_by_first number by_first of_first = same_if by_first (same_then same_first_header (λ first. same_ok (of_first first))) (same_ok number)

  same_section_count : Same (section_count file) (section_count all)
  unfolding section_count
  same_section_count = same_by_first file.header.sizes.e_shnum (file.header.sizes.e_shnum == 0) (λ first. first.sh_size)

  pub same_section_table : Same (section_table file) (section_table all)
  unfolding section_table
  same_section_table =
      let size = section_header_bytes (class_of_file file) in
      same_if (file.header.offsets.e_shoff == 0) (same_ok [])
      (same_if (not (file.header.sizes.e_shentsize == size)) (same_err (SectionEntrySize file.header.sizes.e_shentsize) refl)
      (same_then same_section_count (λ count. same_bytes_at of file.header.offsets.e_shoff (count * size) SectionTableOutOfBounds refl)))

  pub same_contents : (header : SectionHeader) → Same (contents file header) (contents all header)
  unfolding contents
  same_contents header = same_by_type header [] (same_bytes_at of header.sh_offset header.sh_size SectionOutOfBounds refl)

  same_name_section : Same (name_section file) (name_section all)
  unfolding name_section
  same_name_section = same_by_first file.header.sizes.e_shstrndx (file.header.sizes.e_shstrndx == 0xffff) (λ first. first.sh_link)

  same_names_at : (table : List ℕ) (index : ℕ) → Same (names_at file table index) (names_at all table index)
  unfolding names_at
  same_names_at table index =
      same_if (index == 0) (same_ok []) (same_then (same_or_missing (NoNameSection index) refl (slice_get (section_headers file table) index)) same_contents)

  same_section_names : (table : List ℕ) → Same (section_names file table) (section_names all table)
  unfolding section_names
  same_section_names table = same_if (length table == 0) (same_ok []) (same_then same_name_section (same_names_at table))

  pub same_header_named : (name : List ℕ) → Same (header_named file name) (header_named all name)
  unfolding header_named
  same_header_named name =
      same_then same_section_table (λ table.
      same_then (same_section_names table) (λ names.
      same_first_by (is_named names name) (λ header. (same_is_named names name header).read) (section_headers file table)))

  same_section_of : (header : SectionHeader) → Same (section_by_header file header) (section_by_header all header)
  same_section_of header = same_then (same_contents header) (λ bytes. same_ok _)

  pub same_section_named : (name : List ℕ) → Same (section_named file name) (section_named all name)
  unfolding section_named
  same_section_named name = same_then (same_header_named name) (same_if_found same_section_of)

  same_unless_compressed : (found : Option Section) → Same (unless_compressed file found) (unless_compressed all found)
  same_unless_compressed (Some section) = same_ok (Some section)
  same_unless_compressed None = same_then (same_header_named (codes ".zdebug_frame")) (same_if_found (λ header. same_err Compressed refl))

  pub same_debug_frame : Same (debug_frame file) (debug_frame all)
  unfolding debug_frame
  same_debug_frame = same_then (same_section_named (codes ".debug_frame")) same_unless_compressed

  same_address_of : (header : SectionHeader) → Same (address_of file header) (address_of all header)
  unfolding address_of
  same_address_of header =
      let test = λ (n : ℕ). nat_le (header.sh_offset + header.sh_size) n in
      let by = λ (n : ℕ). (if test n then Ok header.sh_addr else Err SectionOutOfBounds) in
      same_by_type header header.sh_addr
      (subst (λ (n : ℕ). Same (by file.image.length) (by n)) of.length_is (same_if (test file.image.length) (same_ok header.sh_addr) (same_err SectionOutOfBounds refl)))

  pub same_section_address : (name : List ℕ) → Same (section_address file name) (section_address all name)
  unfolding section_address
  same_section_address name = same_then (same_header_named name) (same_if_found same_address_of)

  -- ---- segments

  same_segment_count : Same (segment_count file) (segment_count all)
  unfolding segment_count
  same_segment_count = same_by_first file.header.sizes.e_phnum ((file.header.sizes.e_phnum == 0xffff) && not (file.header.offsets.e_shoff == 0)) (λ first. first.sh_info)

  same_program_table : Same (program_table file) (program_table all)
  unfolding program_table
  same_program_table =
      let size = program_header_bytes (class_of_file file) in
      same_if (file.header.offsets.e_phoff == 0) (same_ok [])
      (same_if (not (file.header.sizes.e_phentsize == size)) (same_err (ProgramEntrySize file.header.sizes.e_phentsize) refl)
      (same_then same_segment_count (λ count. same_bytes_at of file.header.offsets.e_phoff (count * size) ProgramTableOutOfBounds refl)))

  same_wanted : (wanted : Wanted) → Same (wanted_segment file wanted) (wanted_segment all wanted)
  unfolding wanted_segment
  same_wanted wanted = same_then same_program_table (λ table. same_ok _)

  same_segment_bytes : (header : ProgramHeader) → Same (segment_bytes file header) (segment_bytes all header)
  same_segment_bytes header = same_bytes_at of header.p_offset header.p_filesz SegmentOutOfBounds refl

  same_segment_of : (header : ProgramHeader) → Same (segment_of file header) (segment_of all header)
  same_segment_of header = same_then (same_segment_bytes header) (λ bytes. same_ok _)

  pub same_eh_frame_hdr_segment : Same (eh_frame_hdr_segment file) (eh_frame_hdr_segment all)
  unfolding eh_frame_hdr_segment
  same_eh_frame_hdr_segment = same_then (same_wanted (OfType 0x6474e550)) (same_if_found same_segment_of)

  same_bytes_after : (address : ℕ) (header : ProgramHeader) → Same (bytes_after file address header) (bytes_after all address header)
  same_bytes_after address header = same_then (same_segment_bytes header) (λ bytes. same_ok _)

  pub same_loaded_bytes : (address : ℕ) → Same (loaded_bytes file address) (loaded_bytes all address)
  unfolding loaded_bytes
  same_loaded_bytes address = same_then (same_wanted (LoadedAt address)) (same_if_found (same_bytes_after address))

  pub same_address_of_offset : (offset : ℕ) → Same (address_of_offset file offset) (address_of_offset all offset)
  unfolding address_of_offset
  same_address_of_offset offset = same_then (same_wanted (CodeAt offset)) (λ found. same_ok _)

  -- ---- symbols

  pub same_function_descriptors : Same (function_descriptors file) (function_descriptors all)
  unfolding function_descriptors
  same_function_descriptors = same_if (has_descriptors file) (same_section_named (codes ".opd")) (same_ok None)

  same_symbols_in : (table : List ℕ) (header : SectionHeader) → Same (symbols_in file table header) (symbols_in all table header)
  unfolding symbols_in
  same_symbols_in table header = same_then (same_contents header) (λ bytes. same_then (same_names_at table header.sh_link) (λ names. same_then same_function_descriptors (λ descriptors. same_ok _)))

  same_symbols_of : (table : List ℕ) (found : Option SectionHeader) → Same (symbols_if_any file table found) (symbols_if_any all table found)
  same_symbols_of table None = same_ok _
  same_symbols_of table (Some header) = same_symbols_in table header

  pub same_symbol_table : Same (symbol_table file) (symbol_table all)
  unfolding symbol_table
  same_symbol_table = same_then same_section_table (λ table. same_symbols_of table (symbol_section file table))

  same_symbol_named : (names name : List ℕ) (s : Symbol) → Same (is_symbol_named names name s) (is_symbol_named names name s)
  unfolding is_symbol_named
  same_symbol_named names name s = same_if (s.st_shndx == 0) (same_ok false) (same_then (same_name_at names s.st_name) (λ found. same_ok _))

  pub same_symbol_address : (name : List ℕ) → Same (symbol_address file name) (symbol_address all name)
  unfolding symbol_address
  same_symbol_address name =
      same_then same_symbol_table (λ table.
      same_then (same_first_by (is_symbol_named table.names name) (λ s. (same_symbol_named table.names name s).read) (symbols file table)) (λ found. same_ok _))

  pub same_symbol_addresses : (name : List ℕ) → Same (symbol_addresses file name) (symbol_addresses all name)
  unfolding symbol_addresses
  same_symbol_addresses name = same_then same_symbol_table (λ table. same_ok _)

  same_function_of : (names : List ℕ) (s : Symbol) → Same (read_function names s) (read_function names s)
  same_function_of names s = same_then (same_name_at names s.st_name) (λ name. same_ok _)

  pub same_function_at : (address : ℕ) → Same (function_at file address) (function_at all address)
  unfolding function_at
  same_function_at address = same_then same_symbol_table (λ table. same_if_found (same_function_of table.names) (find (is_function_at address) (symbols file table)))

  -- ---- names of functions, where the symbols were read

  same_functions_in : (r : Result SymbolTable ElfError) → functions_in file r ≡ functions_in all r
  same_functions_in (Ok table) = refl
  same_functions_in (Err e) = refl

  module _ (read : IsRead (symbol_table file)) where
    pub same_named_functions : named_functions file ≡ named_functions all
    unfolding named_functions
    same_named_functions = ap (functions_in file) (same_symbol_table.same read) ∙ same_functions_in (symbol_table all)

    pub same_function_name : (address : ℕ) → function_name file address ≡ function_name all address
    same_function_name address = ap (λ (functions : List Function). best_name functions address) same_named_functions

    pub same_function_place : (address : ℕ) → function_place file address ≡ function_place all address
    same_function_place address = ap (λ (functions : List Function). place_among functions address) same_named_functions
