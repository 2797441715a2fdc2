-- Relocatable files with addresses, and their call frames relocated for these (System V ABI chapter
-- 4, "Relocation").
--     relocated file bytes      the bytes of the file, with the addresses of its sections and
--         symbols, and with its call frames for these
--     relocated_file bytes      the relocatable file of these bytes, relocated
use Rattle.std.specs.Prelude.{ℕ, ◌+◌, ◌*◌, ◌/◌, ◌%◌, ◌^◌, Bool, true, false, not, ◌&&◌, ◌||◌, List}
use Rattle.std.specs.Prelude.{[], codes, Option, Some, None, Result, Ok, nat_le, nat_lt, ◌==◌}
use Rattle.std.specs.Prelude.{bit_and, slice_get, if◌then◌else◌}
use Rattle.std.specs.Int.{byte_len}
use Rattle.cfi_elf.specs.declared.error.ElfError.{ElfError}
use Rattle.cfi_elf.specs.declared.relocate.RelocationTables.{RelocationTables as TablesOfCode}
use Rattle.cfi_elf.specs.declared.error.ElfError.TheVariants.{UnknownRelocation}
use Rattle.cfi_elf.specs.declared.error.ElfError.TheVariants.{RelocationOutOfBounds}
use Rattle.cfi_elf.specs.declared.section_header.SectionHeader.{SectionHeader}
use Rattle.cfi_elf.specs.declared.relocation.Relocation.{Relocation}
use Rattle.cfi_elf.specs.declared.relocation_kind.Formula.{Formula}
use Rattle.cfi_elf.specs.declared.relocation_kind.Formula.TheVariants.{Unchanged, Absolute}
use Rattle.cfi_elf.specs.declared.relocation_kind.Formula.TheVariants.{Relative, Added, Subtracted}
use Rattle.cfi_elf.specs.declared.relocation_kind.Formula.TheVariants.{LowSix, LowSixSubtracted}
use Rattle.cfi_elf.specs.declared.relocation_kind.RelocationKind.{RelocationKind}
use Rattle.cfi_elf.specs.ElfFiles.{File, is_big_file, object_file}
use Rattle.cfi_elf.specs.RelocationKinds.{kinds_of}
use Rattle.cfi_elf.specs.InOrder.{in_order}
use Rattle.cfi_elf.specs.Options.{meaning, or_this}
use Rattle.cfi_elf.specs.Results.{and_then, or_missing}
use Rattle.cfi_elf.specs.SectionContents.{contents}
use Rattle.cfi_elf.specs.Sections.{is_named}
use Rattle.cfi_elf.specs.SectionTables.{section_headers, section_table}
use Rattle.cfi_elf.specs.StringTables.{section_names}
use Rattle.cfi_elf.specs.Modular.{minus, plus}
use Rattle.cfi_elf.specs.SymbolTables.{symbol_section, symbols_of_bytes}
use Rattle.cfi_elf.specs.RelocatedFields.{width_of_field, write_number, read_number}
use Rattle.cfi_elf.specs.Relocations.{relocations}
use Rattle.cfi_elf.specs.Placement.{section_base, symbol_value_at, write_section_address}
use Rattle.cfi_elf.specs.Placement.{write_symbol_value}

-- The bytes of the section headers, of the section name string table, and of the symbols.
pub record RelocationTables : Type 0 where
  pub sections : List ℕ
  pub names : List ℕ
  pub symbols : List ℕ

-- what those of the code are
abbrev pub tables_view : TablesOfCode → RelocationTables
tables_view tables = record {
  sections = tables.sections.now;
  names = tables.names.now;
  symbols = tables.symbols.now;
}

-- the number in the field then: by S + A, the number that stood there, and P, the address of the
-- field. That number is added to or subtracted from only by types of RISC-V, whose relocations
-- have an addend of their own
abbrev pub relocated_number : Formula → ℕ → ℕ → ℕ → ℕ
relocated_number Unchanged value stored place = stored
relocated_number Absolute value stored place = value
relocated_number Relative value stored place = minus value place
relocated_number Added value stored place = plus stored value
relocated_number Subtracted value stored place = minus stored value
relocated_number LowSix value stored place = stored / 64 * 64 + value % 64
relocated_number LowSixSubtracted value stored place =
    stored / 64 * 64 + minus stored value % 64

-- where a field of a section is in the file
abbrev pub field_offset : SectionHeader → ℕ → ℕ → Option ℕ
field_offset section offset size =
    if nat_le (offset + size) section.sh_size && nat_lt (section.sh_offset + offset) (2 ^ 64)
    then Some (section.sh_offset + offset)
    else None

-- the number that stands there is the addend where the relocation has none
unfoldable pub relocate_field :
    File → SectionHeader → ℕ → Relocation → RelocationKind → List ℕ → Result (List ℕ) ElfError
relocate_field file section symbol r kind bytes =
    let big = is_big_file file in
    let width = width_of_field kind.width in
    and_then
    (or_missing RelocationOutOfBounds (field_offset section r.r_offset (byte_len width)))
    (λ offset. and_then (read_number big width offset bytes) (λ stored.
    let value = plus symbol (or_this stored r.r_addend) in
    let place = plus (section_base file section) r.r_offset in
    write_number big width offset (relocated_number kind.formula value stored place) bytes))

unfoldable pub relocate :
    File → RelocationTables → SectionHeader → Relocation → List ℕ → Result (List ℕ) ElfError
relocate file tables section r bytes =
    and_then
    (or_missing (UnknownRelocation r.kind) (meaning (kinds_of file.header.kind.e_machine) r.kind))
    (λ kind. and_then (symbol_value_at file tables.sections tables.symbols r.symbol) (λ symbol.
    relocate_field file section symbol r kind bytes))

-- SHT_RELA is 4, SHT_REL is 9
abbrev pub has_relocations : SectionHeader → Bool
has_relocations header = header.sh_type == 4 || header.sh_type == 9

-- whether its bytes are in the file as they are (SHT_NOBITS is 8, SHF_COMPRESSED is 0x800)
abbrev pub is_stored : SectionHeader → Bool
is_stored header = not (header.sh_type == 8) && (bit_and header.sh_flags 0x800 == 0)

unfoldable pub has_call_frames : List ℕ → SectionHeader → Result Bool ElfError
has_call_frames names header =
    if not (is_stored header) then Ok false
    else and_then (is_named names (codes ".eh_frame") header) (λ found.
    if found then Ok true else is_named names (codes ".debug_frame") header)

-- a section, by the relocations of another
unfoldable pub relocate_section :
    File → RelocationTables → SectionHeader → SectionHeader → List ℕ → Result (List ℕ) ElfError
relocate_section file tables header section bytes =
    and_then (contents file header) (λ entries.
    in_order (λ index. relocate file tables section) 0
    (relocations file (header.sh_type == 4) entries) bytes)

abbrev pub relocate_frames :
    File → RelocationTables → SectionHeader → Option SectionHeader → List ℕ →
    Result (List ℕ) ElfError
relocate_frames file tables header None bytes = Ok bytes
relocate_frames file tables header (Some section) bytes =
    and_then (has_call_frames tables.names section) (λ found.
    if found then relocate_section file tables header section bytes else Ok bytes)

-- sh_info is the index of the section that is relocated
abbrev pub relocate_by :
    File → RelocationTables → SectionHeader → List ℕ → Result (List ℕ) ElfError
relocate_by file tables header bytes =
    if has_relocations header
    then relocate_frames file tables header
    (slice_get (section_headers file tables.sections) header.sh_info) bytes
    else Ok bytes

abbrev pub symbol_contents : File → Option SectionHeader → Result (List ℕ) ElfError
symbol_contents file None = Ok []
symbol_contents file (Some header) = contents file header

abbrev pub symbol_offset : Option SectionHeader → ℕ
symbol_offset None = 0
symbol_offset (Some header) = header.sh_offset

unfoldable pub relocated : File → List ℕ → Result (List ℕ) ElfError
relocated file bytes =
    and_then (section_table file) (λ sections.
    and_then (section_names file sections) (λ names.
    let section = symbol_section file sections in
    and_then (symbol_contents file section) (λ symbols.
    let tables : RelocationTables =
    record { sections = sections; names = names; symbols = symbols } in
    let headers = section_headers file sections in
    let symbol_list = symbols_of_bytes file symbols in
    and_then (in_order (write_section_address file) 0 headers bytes) (λ bytes.
    and_then
    (in_order (write_symbol_value file sections (symbol_offset section)) 0 symbol_list bytes)
    (λ bytes. in_order (λ index. relocate_by file tables) 0 headers bytes)))))

unfoldable pub relocated_file : List ℕ → Result File ElfError
relocated_file bytes =
    and_then (object_file bytes) (λ file. and_then (relocated file bytes) object_file)
