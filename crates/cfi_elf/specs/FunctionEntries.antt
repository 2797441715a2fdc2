-- The address of a function, by the value of its symbol and the machine.
--     function_descriptors file      the section of the descriptors of functions, if there is one
--     located_value file descriptors s      the address of the first instruction of the function
--         that a symbol is, or the value of any other symbol
--     located file descriptors s      the symbol with that for its value
use Rattle.std.specs.Prelude.{ℕ, ◌+◌, ◌-◌, ◌%◌, Bool, not, ◌&&◌, Option, Some, None, Result, Ok}
use Rattle.std.specs.Prelude.{codes, length, nat_le, ◌==◌, if◌then◌else◌}
use Rattle.std.specs.Int.{w64}
use Rattle.cfi_elf.specs.declared.error.ElfError.{ElfError}
use Rattle.cfi_elf.specs.declared.symbol.Symbol.{Symbol}
use Rattle.cfi_elf.specs.ElfFiles.{File, is_big_file}
use Rattle.cfi_elf.specs.Fields.{number_at}
use Rattle.cfi_elf.specs.Sections.{Section, section_named}
use Rattle.cfi_elf.specs.Symbols.{has_type_of_function}

-- EM_ARM is 40, EM_PPC64 21
abbrev pub is_arm : File → Bool
is_arm file = file.header.kind.e_machine == 40

-- The symbol of a function is that of its descriptor (64-bit PowerPC ELF ABI 1.9, section 3.2.5,
-- "Function Descriptors"). Descriptors are in `.opd`, which files of the ELF V2 ABI don't have;
-- those of a relocatable file (ET_REL is 1) have no addresses yet.
abbrev pub has_descriptors : File → Bool
has_descriptors file =
    (file.header.kind.e_machine == 21) && not (file.header.kind.e_type == 1)

unfoldable pub function_descriptors : File → Result (Option Section) ElfError
function_descriptors file =
    if has_descriptors file then section_named file (codes ".opd") else Ok None

-- by the descriptor at an address: its first doubleword. What isn't in the section is no descriptor
abbrev pub described : Bool → Option Section → ℕ → ℕ
described big None value = value
described big (Some section) value =
    let offset = value - section.address in
    if nat_le section.address value && nat_le (offset + 8) (length section.bytes)
    then number_at big section.bytes offset w64
    else value

-- of a function: bit 0 of the value says that its instructions are those of Thumb (ELF for the Arm
-- architecture, "Symbol Values")
abbrev pub function_entry : File → Option Section → ℕ → ℕ
function_entry file descriptors value =
    if is_arm file then value - value % 2 else described (is_big_file file) descriptors value

abbrev pub located_value : File → Option Section → Symbol → ℕ
located_value file descriptors s =
    if has_type_of_function s then function_entry file descriptors s.st_value else s.st_value

abbrev pub located : File → Option Section → Symbol → Symbol
located file descriptors s = record {
  st_name = s.st_name;
  st_value = located_value file descriptors s;
  st_size = s.st_size;
  st_info = s.st_info;
  st_shndx = s.st_shndx;
}
