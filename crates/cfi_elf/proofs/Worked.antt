-- A file of 32 bits, the most significant byte first, by computation; headers and symbols of 64 bits, some of a real program.
use Rattle.std.proofs.Common.{◌≡◌, ℕ, ◌+◌, ◌-◌, ◌*◌, ◌++◌, List, [], ◌∷◌, codes, true, false, Option, Some, None, Result, Ok, Err, refl, ap, ◌∙◌}
use Rattle.std.specs.Prelude.{nat_lt, if◌then◌else◌, take, drop}
use Rattle.cfi_read_core.specs.declared.endianity.RunTimeEndian.TheVariants.{Big}
use Rattle.cfi_elf.specs.declared.error.ElfError.{ElfError}
use Rattle.cfi_elf.specs.declared.error.ElfError.TheVariants.{NotElf, HeaderCut, NotCore, NotRead, SectionTableOutOfBounds, NameOutOfBounds, NameNotTerminated}
use Rattle.cfi_elf.specs.declared.file_header.Class.TheVariants.{Elf32, Elf64}
use Rattle.cfi_elf.specs.Results.{and_then}
use Rattle.cfi_elf.specs.Headers.{file_header, program_header, section_header, symbol}
use Rattle.cfi_elf.specs.ElfFiles.{File, any_file, core_file, elf_file, elf_file_of, file_by, header_bytes, identification}
use Rattle.cfi_elf.specs.Images.{Image, Part, bytes_at, whole}
use Rattle.cfi_elf.specs.SectionTables.{first_section_header, section_count, section_table}
use Rattle.cfi_elf.specs.SectionContents.{contents, address_of}
use Rattle.cfi_elf.specs.StringTables.{name_at, name_section, names_at, section_names}
use Rattle.cfi_elf.specs.Sections.{is_named, header_named, section_named, section_address, debug_frame}
use Rattle.cfi_elf.specs.SegmentLists.{segment_count, program_table}
use Rattle.cfi_elf.specs.Segments.{wanted_segment, loaded_bytes, eh_frame_hdr_segment, address_of_offset}
use Rattle.cfi_elf.specs.SegmentLists.{segments}
use Rattle.cfi_elf.specs.BuildIds.{build_id, build_id_in, build_id_of}
use Rattle.cfi_elf.specs.Notes.{first_note, notes_of, notes_up_to}
use Rattle.cfi_elf.specs.Functions.{Function}
use Rattle.cfi_elf.specs.FunctionNames.{best_name, place_among}
use Rattle.cfi_elf.specs.Functions.{named_function}

-- to name it on an `unfolding` line is to open all these
unfoldable computing : ℕ
unfolding bytes_at header_bytes any_file file_by core_file identification elf_file_of first_section_header section_count section_table contents name_at name_section names_at section_names is_named header_named section_named address_of section_address debug_frame segment_count program_table wanted_segment loaded_bytes eh_frame_hdr_segment address_of_offset segments first_note notes_up_to build_id_of build_id
computing = 0

-- the bytes of hexadecimal text, whose letters are small
abbrev digit_of : ℕ → ℕ
digit_of c = if nat_lt c 58 then c - 48 else c - 87

abbrev bytes_behind : Option ℕ → List ℕ → List ℕ
bytes_behind high [] = []
bytes_behind None (c ∷ cs) = bytes_behind (Some (digit_of c)) cs
bytes_behind (Some high) (c ∷ cs) = (16 * high + digit_of c) ∷ bytes_behind None cs

-- ELFCLASS32, ELFDATA2MSB, ET_EXEC, EM_MIPS: the header, a segment of type PT_LOAD, four bytes, the names, three section headers
abbrev worked_header : List ℕ
worked_header = bytes_behind None (codes "7f454c46010201000000000000000000000200080000000100001054000000340000006600000000003400200001002800030002")

abbrev worked : List ℕ
worked = bytes_behind None (codes "7f454c460102010000000000000000000002000800000001000010540000003400000066000000000034002000010028000300020000000100000054000010540000105400000004000000080000000500000001909192c3002e74657874002e6e616d657300000000000000000000000000000000000000000000000000000000000000000000000001000000000000000100000001000000060000105400000054000000040000000000000000000000010000000000000007000000030000000000000000000000580000000e00000000000000000000000100000000")

-- the same bytes one by one, and the file of them, so that each case begins with these
abbrev worked_bytes : List ℕ
worked_bytes =
    0x7f ∷ 0x45 ∷ 0x4c ∷ 0x46 ∷ 1 ∷ 2 ∷ 1 ∷ 0 ∷ 0 ∷ 0 ∷ 0 ∷ 0 ∷ 0 ∷ 0 ∷ 0 ∷ 0 ∷ 0 ∷ 2 ∷ 0 ∷ 8 ∷
    0 ∷ 0 ∷ 0 ∷ 1 ∷ 0 ∷ 0 ∷ 0x10 ∷ 0x54 ∷ 0 ∷ 0 ∷ 0 ∷ 0x34 ∷ 0 ∷ 0 ∷ 0 ∷ 0x66 ∷ 0 ∷ 0 ∷ 0 ∷ 0 ∷
    0 ∷ 0x34 ∷ 0 ∷ 0x20 ∷ 0 ∷ 1 ∷ 0 ∷ 0x28 ∷ 0 ∷ 3 ∷ 0 ∷ 2 ∷ 0 ∷ 0 ∷ 0 ∷ 1 ∷ 0 ∷ 0 ∷ 0 ∷ 0x54 ∷
    0 ∷ 0 ∷ 0x10 ∷ 0x54 ∷ 0 ∷ 0 ∷ 0x10 ∷ 0x54 ∷ 0 ∷ 0 ∷ 0 ∷ 4 ∷ 0 ∷ 0 ∷ 0 ∷ 8 ∷ 0 ∷ 0 ∷ 0 ∷ 5 ∷
    0 ∷ 0 ∷ 0 ∷ 1 ∷ 0x90 ∷ 0x91 ∷ 0x92 ∷ 0xc3 ∷ 0 ∷ 0x2e ∷ 0x74 ∷ 0x65 ∷ 0x78 ∷ 0x74 ∷ 0 ∷ 0x2e ∷ 0x6e ∷ 0x61 ∷ 0x6d ∷ 0x65 ∷
    0x73 ∷ 0 ∷ 0 ∷ 0 ∷ 0 ∷ 0 ∷ 0 ∷ 0 ∷ 0 ∷ 0 ∷ 0 ∷ 0 ∷ 0 ∷ 0 ∷ 0 ∷ 0 ∷ 0 ∷ 0 ∷ 0 ∷ 0 ∷
    0 ∷ 0 ∷ 0 ∷ 0 ∷ 0 ∷ 0 ∷ 0 ∷ 0 ∷ 0 ∷ 0 ∷ 0 ∷ 0 ∷ 0 ∷ 0 ∷ 0 ∷ 0 ∷ 0 ∷ 1 ∷ 0 ∷ 0 ∷
    0 ∷ 0 ∷ 0 ∷ 0 ∷ 0 ∷ 1 ∷ 0 ∷ 0 ∷ 0 ∷ 1 ∷ 0 ∷ 0 ∷ 0 ∷ 6 ∷ 0 ∷ 0 ∷ 0x10 ∷ 0x54 ∷ 0 ∷ 0 ∷
    0 ∷ 0x54 ∷ 0 ∷ 0 ∷ 0 ∷ 4 ∷ 0 ∷ 0 ∷ 0 ∷ 0 ∷ 0 ∷ 0 ∷ 0 ∷ 0 ∷ 0 ∷ 0 ∷ 0 ∷ 1 ∷ 0 ∷ 0 ∷
    0 ∷ 0 ∷ 0 ∷ 0 ∷ 0 ∷ 7 ∷ 0 ∷ 0 ∷ 0 ∷ 3 ∷ 0 ∷ 0 ∷ 0 ∷ 0 ∷ 0 ∷ 0 ∷ 0 ∷ 0 ∷ 0 ∷ 0 ∷
    0 ∷ 0x58 ∷ 0 ∷ 0 ∷ 0 ∷ 0xe ∷ 0 ∷ 0 ∷ 0 ∷ 0 ∷ 0 ∷ 0 ∷ 0 ∷ 0 ∷ 0 ∷ 0 ∷ 0 ∷ 1 ∷ 0 ∷ 0 ∷
    0 ∷ 0 ∷ []

same_bytes : worked ≡ worked_bytes
same_bytes = refl

abbrev worked_file : File
worked_file = record {
  image = whole worked_bytes;
  identification = record { class = Elf32; «data» = Big };
  header = record {
    kind = record { e_type = 2; e_machine = 8; e_version = 1 };
    offsets = record { e_phoff = 52; e_shoff = 102 };
    sizes = record { e_phentsize = 32; e_phnum = 1; e_shentsize = 40; e_shnum = 3; e_shstrndx = 2 };
  };
}

is_file : elf_file worked_bytes ≡ Ok worked_file
unfolding computing
is_file = refl

-- what a definition says of the file
abbrev of_worked : {A : Type 0} → (File → Result A ElfError) → Result A ElfError
of_worked f = and_then (elf_file worked) f

says : {A : Type 0} (f : File → Result A ElfError) → of_worked f ≡ f worked_file
says f = ap (λ (bytes : List ℕ). and_then (elf_file bytes) f) same_bytes ∙ ap (λ (r : Result File ElfError). and_then r f) is_file

its_header : of_worked (λ file. Ok file.header) ≡ Ok (record {
  kind = record { e_type = 2; e_machine = 8; e_version = 1 };
  offsets = record { e_phoff = 52; e_shoff = 102 };
  sizes = record { e_phentsize = 32; e_phnum = 1; e_shentsize = 40; e_shnum = 3; e_shstrndx = 2 };
})
unfolding computing
its_header = says (λ file. Ok file.header) ∙ refl

its_identification : of_worked (λ file. Ok file.identification) ≡ Ok (record { class = Elf32; «data» = Big })
unfolding computing
its_identification = says (λ file. Ok file.identification) ∙ refl

its_text : of_worked (λ file. section_named file (codes ".text")) ≡ Ok (Some (record { address = 0x1054; bytes = 0x90 ∷ 0x91 ∷ 0x92 ∷ 0xc3 ∷ [] }))
unfolding computing
its_text = says (λ file. section_named file (codes ".text")) ∙ refl

no_beginning_of_a_name : of_worked (λ file. section_named file (codes ".tex")) ≡ Ok None
unfolding computing
no_beginning_of_a_name = says (λ file. section_named file (codes ".tex")) ∙ refl

loaded_in_the_middle : of_worked (λ file. loaded_bytes file 0x1056) ≡ Ok (Some (0x92 ∷ 0xc3 ∷ []))
unfolding computing
loaded_in_the_middle = says (λ file. loaded_bytes file 0x1056) ∙ refl

-- the segment has eight bytes in memory, and four in the file
not_in_the_file : of_worked (λ file. loaded_bytes file 0x1058) ≡ Ok None
unfolding computing
not_in_the_file = says (λ file. loaded_bytes file 0x1058) ∙ refl

no_header_segment : of_worked eh_frame_hdr_segment ≡ Ok None
unfolding computing
no_header_segment = says eh_frame_hdr_segment ∙ refl

-- the segment's four bytes are at offset 0x54, and are loaded at 0x1054; the page begins at offset 0
address_of_its_third_byte : of_worked (λ file. address_of_offset file 0x56) ≡ Ok (Some 0x1056)
unfolding computing
address_of_its_third_byte = says (λ file. address_of_offset file 0x56) ∙ refl

address_of_its_page : of_worked (λ file. address_of_offset file 0) ≡ Ok (Some 0x1000)
unfolding computing
address_of_its_page = says (λ file. address_of_offset file 0) ∙ refl

not_with_the_segment : of_worked (λ file. address_of_offset file 0x58) ≡ Ok None
unfolding computing
not_with_the_segment = says (λ file. address_of_offset file 0x58) ∙ refl

its_segments : of_worked segments
    ≡ Ok (record { p_type = 1; p_flags = 5; p_offset = 0x54; p_vaddr = 0x1054; p_filesz = 4; p_memsz = 8 } ∷ [])
unfolding computing
its_segments = says segments ∙ refl

no_build_id : of_worked build_id ≡ Ok None
unfolding computing
no_build_id = says build_id ∙ refl

-- ---- cut, and changed

no_core_file : core_file worked_header ≡ Err (NotCore 2)
unfolding computing
no_core_file = refl

a_header_less_a_byte : elf_file (take 51 worked_header) ≡ Err HeaderCut
unfolding computing
a_header_less_a_byte = refl

no_section_headers_there : and_then (elf_file worked_header) (λ file. section_named file (codes ".text")) ≡ Err SectionTableOutOfBounds
unfolding computing
no_section_headers_there = refl

empty_file : elf_file [] ≡ Err NotElf
unfolding computing
empty_file = refl

-- ---- read by parts: the header and what follows to 64, the four bytes of .text, and from the names of sections on

abbrev worked_part : Part
worked_part = record { offset = 0x54; bytes = 0x90 ∷ 0x91 ∷ 0x92 ∷ 0xc3 ∷ [] }

abbrev worked_image : List Part → Image
worked_image parts = record { length = 222; first = take 64 worked_bytes; parts = parts }

abbrev tables_part : Part
tables_part = record { offset = 0x58; bytes = drop 0x58 worked_bytes }

text_by_parts : and_then (elf_file_of (worked_image (tables_part ∷ worked_part ∷ []))) (λ file. section_named file (codes ".text"))
    ≡ Ok (Some (record { address = 0x1054; bytes = 0x90 ∷ 0x91 ∷ 0x92 ∷ 0xc3 ∷ [] }))
unfolding computing
text_by_parts = refl

text_not_read : and_then (elf_file_of (worked_image (tables_part ∷ []))) (λ file. section_named file (codes ".text")) ≡ Err (NotRead 0x54 4)
unfolding computing
text_not_read = refl

address_without_the_text : and_then (elf_file_of (worked_image (tables_part ∷ []))) (λ file. section_address file (codes ".text")) ≡ Ok (Some 0x1054)
unfolding computing
address_without_the_text = refl

-- the header needs 64 bytes of a file that has as many
header_not_read : elf_file_of (record { length = 222; first = take 63 worked_bytes; parts = [] }) ≡ Err (NotRead 0 64)
unfolding computing
header_not_read = refl

-- ---- names

no_name : name_at [] 0 ≡ Ok []
unfolding computing
no_name = refl

name_behind_the_table : name_at (0 ∷ 0x61 ∷ 0 ∷ []) 3 ≡ Err NameOutOfBounds
unfolding computing
name_behind_the_table = refl

unterminated : name_at (0 ∷ 0x61 ∷ []) 1 ≡ Err NameNotTerminated
unfolding computing
unterminated = refl

-- ---- of 64 bits, the least significant byte first: of a program of Debian 12 (true), and what readelf prints of it

header_of_64_bits : file_header Elf64 false (bytes_behind None (codes "7f454c4602010100000000000000000003003e0001000000d0230000000000004000000000000000908300000000000000000000400038000d0040001f001e00"))
    ≡ record {
      kind = record { e_type = 3; e_machine = 62; e_version = 1 };
      offsets = record { e_phoff = 64; e_shoff = 33680 };
      sizes = record { e_phentsize = 56; e_phnum = 13; e_shentsize = 64; e_shnum = 31; e_shstrndx = 30 };
    }
unfolding computing
header_of_64_bits = refl

section_of_64_bits : section_header Elf64 false (bytes_behind None (codes "c2000000010000000200000000000000006e000000000000006e000000000000600d000000000000000000000000000008000000000000000000000000000000"))
    ≡ record { sh_name = 194; sh_type = 1; sh_flags = 2; sh_addr = 0x6e00; sh_offset = 0x6e00; sh_size = 0xd60; sh_link = 0; sh_info = 0 }
unfolding computing
section_of_64_bits = refl

segment_of_64_bits : program_header Elf64 false (bytes_behind None (codes "0100000005000000000200000000000000124000000000000012400000000000300000000000000040000000000000000010000000000000"))
    ≡ record { p_type = 1; p_flags = 5; p_offset = 0x200; p_vaddr = 0x401200; p_filesz = 0x30; p_memsz = 0x40 }
unfolding computing
segment_of_64_bits = refl

symbol_of_64_bits : symbol Elf64 false (bytes_behind None (codes "010000001200070000124000000000003000000000000000"))
    ≡ record { st_name = 1; st_value = 0x401200; st_size = 0x30; st_info = 0x12; st_shndx = 7 }
unfolding computing
symbol_of_64_bits = refl

-- ---- notes: that with the build id of a program of Debian 12 (true), as readelf -n prints it

abbrev gnu_note : List ℕ
gnu_note = bytes_behind None (codes "040000001400000003000000474e5500c89156ebdabf859f4ee70cb0c303004dccf1ae51")

abbrev its_id : List ℕ
its_id = bytes_behind None (codes "c89156ebdabf859f4ee70cb0c303004dccf1ae51")

one_note : notes_of false gnu_note ≡ record { notes = record { name = codes "GNU"; kind = 3; desc = its_id } ∷ []; is_cut = false }
unfolding computing
one_note = refl

its_build_id : build_id_in false gnu_note ≡ Some its_id
unfolding computing
its_build_id = refl

-- names of three and five bytes are padded by one and three, what the first says by two, and behind the last nothing need follow
padded_notes : notes_of false (bytes_behind None (codes "0300000002000000070000004142000001020000") ++ bytes_behind None (codes "05000000010000000900000043444546000000000a"))
    ≡ record {
      notes = record { name = codes "AB"; kind = 7; desc = 1 ∷ 2 ∷ [] } ∷ record { name = codes "CDEF"; kind = 9; desc = 10 ∷ [] } ∷ [];
      is_cut = false;
    }
unfolding computing
padded_notes = refl

big_note : notes_of true (bytes_behind None (codes "000000010000000100000007414141410a")) ≡ record { notes = record { name = codes "A"; kind = 7; desc = 10 ∷ [] } ∷ []; is_cut = false }
unfolding computing
big_note = refl

a_note_less_a_byte : notes_of false (gnu_note ++ take 35 gnu_note) ≡ record { notes = record { name = codes "GNU"; kind = 3; desc = its_id } ∷ []; is_cut = true }
unfolding computing
a_note_less_a_byte = refl

no_notes_there : notes_of false [] ≡ record { notes = []; is_cut = false }
unfolding computing
no_notes_there = refl

-- ---- names of functions

f_at_5 : named_function (0 ∷ 0x66 ∷ 0 ∷ []) (record { st_name = 1; st_value = 5; st_size = 2; st_info = 0x12; st_shndx = 7 }) ≡ Some (record { name = 0x66 ∷ []; address = 5; size = 2; binding = 1 })
unfolding computing
f_at_5 = refl

-- of type STT_OBJECT
no_function : named_function (0 ∷ 0x66 ∷ 0 ∷ []) (record { st_name = 1; st_value = 5; st_size = 2; st_info = 0x11; st_shndx = 7 }) ≡ None
unfolding computing
no_function = refl

undefined : named_function (0 ∷ 0x66 ∷ 0 ∷ []) (record { st_name = 1; st_value = 5; st_size = 2; st_info = 0x12; st_shndx = 0 }) ≡ None
unfolding computing
undefined = refl

nameless : named_function (0 ∷ 0x66 ∷ 0 ∷ []) (record { st_name = 0; st_value = 5; st_size = 2; st_info = 0x12; st_shndx = 7 }) ≡ None
unfolding computing
nameless = refl

unreadable : named_function (0 ∷ 0x66 ∷ []) (record { st_name = 1; st_value = 5; st_size = 2; st_info = 0x12; st_shndx = 7 }) ≡ None
unfolding computing
unreadable = refl

abbrev three_functions : List Function
three_functions =
    record { name = 0x66 ∷ []; address = 9; size = 1; binding = 1 } ∷ record { name = 0x67 ∷ []; address = 5; size = 1; binding = 1 } ∷ record { name = 0x68 ∷ []; address = 5; size = 2; binding = 2 } ∷ []

best_of_two : best_name three_functions 5 ≡ Some (0x67 ∷ [])
best_of_two = refl

inside_a_function : best_name three_functions 6 ≡ None
inside_a_function = refl

-- names of one function in a C library
abbrev alias : List ℕ → ℕ → Function
alias name binding = record { name = name; address = 5; size = 9; binding = binding }

-- fewer underscores, and a longer name
of_malloc : best_name (alias (codes "__libc_malloc") 1 ∷ alias (codes "malloc") 1 ∷ alias (codes "__GI___libc_malloc") 0 ∷ []) 5 ≡ Some (codes "malloc")
of_malloc = refl

of_calloc : best_name (alias (codes "__calloc") 1 ∷ alias (codes "__libc_calloc") 1 ∷ []) 5 ≡ Some (codes "__libc_calloc")
of_calloc = refl

-- a weak name is the last to be taken
of_readdir : best_name (alias (codes "readdir") 2 ∷ alias (codes "__readdir") 0 ∷ alias (codes "__GI___readdir64") 0 ∷ []) 5 ≡ Some (codes "__GI___readdir64")
of_readdir = refl

-- ---- by an address in a function's bytes

abbrev nested : List Function
nested = record { name = 0x66 ∷ []; address = 3; size = 9; binding = 1 } ∷ record { name = 0x67 ∷ []; address = 5; size = 2; binding = 1 } ∷ record { name = 0x68 ∷ []; address = 5; size = 4; binding = 2 } ∷ []

at_the_last_byte : place_among nested 6 ≡ Some (record { name = 0x67 ∷ []; offset = 1 })
at_the_last_byte = refl

-- the function that begins nearest before it has no such byte
behind_the_nearest : place_among nested 7 ≡ None
behind_the_nearest = refl

before_all : place_among nested 2 ≡ None
before_all = refl
