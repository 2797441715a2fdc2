-- The entries of the global offset table where the address of a symbol is stored (System V ABI
-- chapter 5, "Global Offset Table"; System V psABI for x86-64, "Relocation Types"; ELF for the Arm
-- 64-bit architecture, "Dynamic relocations").
use Rattle.std.specs.Prelude.{ℕ, Bool, true, false, ◌&&◌, ◌||◌, List, ◌++◌, Option, Some, None}
use Rattle.std.specs.Prelude.{slice_get, ◌==◌, if◌then◌else◌}
use Rattle.std.specs.List.{filter_map}
use Rattle.cfi_elf.specs.declared.relocation.Relocation.{Relocation}
use Rattle.cfi_elf.specs.declared.symbol.Symbol.{Symbol}
use Rattle.cfi_elf.specs.ElfFiles.{File}
use Rattle.cfi_elf.specs.Relocations.{relocations}
use Rattle.cfi_elf.specs.StringTables.{name_at, is_name}
use Rattle.cfi_elf.specs.SymbolTables.{symbols_of_bytes}
use Rattle.cfi_elf.specs.PltSections.{GotRelocations}

-- R_X86_64_GLOB_DAT is 6, R_X86_64_JUMP_SLOT 7, R_AARCH64_GLOB_DAT 1025, R_AARCH64_JUMP_SLOT 1026;
-- EM_X86_64 is 62, EM_AARCH64 is 183
abbrev pub stores_address : ℕ → ℕ → Bool
stores_address e_machine kind =
    if e_machine == 62 then kind == 6 || kind == 7
    else if e_machine == 183 then kind == 1025 || kind == 1026
    else false

abbrev pub is_of_name : List ℕ → List ℕ → Option Symbol → Bool
is_of_name names name None = false
is_of_name names name (Some s) = is_name name (name_at names s.st_name)

abbrev pub names_symbol : File → GotRelocations → List ℕ → Relocation → Bool
names_symbol file got name r =
    is_of_name got.dynstr name (slice_get (symbols_of_bytes file got.dynsym) r.symbol)

abbrev pub slot_of : File → GotRelocations → List ℕ → Relocation → Option ℕ
slot_of file got name r =
    if stores_address file.header.kind.e_machine r.kind && names_symbol file got name r
    then Some r.r_offset
    else None

abbrev pub slots_in : File → GotRelocations → List ℕ → List ℕ → List ℕ
slots_in file got name bytes = filter_map (slot_of file got name) (relocations file true bytes)

abbrev pub slots_of : File → GotRelocations → List ℕ → List ℕ
slots_of file got name =
    slots_in file got name got.rela_plt ++ slots_in file got name got.rela_dyn
