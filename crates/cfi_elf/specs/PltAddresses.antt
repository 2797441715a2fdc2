-- The addresses of the entries of the procedure linkage table that go to a function of another file
-- (System V ABI chapter 5, "Procedure Linkage Table").
--     plt_addresses file name      those that jump to what stands where a relocation has the
--         address of a symbol of this name stored
use Rattle.std.specs.Prelude.{ℕ, ◌*◌, ◌/◌, List, ◌++◌, length, drop, Option, Some, None, Result, Ok}
use Rattle.std.specs.Prelude.{option_and_then, ◌==◌, if◌then◌else◌}
use Rattle.std.specs.List.{filter_map, list_any, range_with_len}
use Rattle.cfi_elf.specs.declared.error.ElfError.{ElfError}
use Rattle.cfi_elf.specs.ElfFiles.{File}
use Rattle.cfi_elf.specs.PltJumps.{jump_slot}
use Rattle.cfi_elf.specs.Results.{and_then}
use Rattle.cfi_elf.specs.Sections.{Section}
use Rattle.cfi_elf.specs.Modular.{plus}
use Rattle.cfi_elf.specs.PltSections.{PltParts, plt_parts}
use Rattle.cfi_elf.specs.GotEntries.{slots_of}

abbrev pub if_among : List ℕ → ℕ → ℕ → Option ℕ
if_among slots address slot = if list_any (λ s. s == slot) slots then Some address else None

-- an entry begins at a multiple of 8 bytes: those that linkers make have 8, 16 or 24
abbrev pub entry_in : File → List ℕ → Section → ℕ → Option ℕ
entry_in file slots section index =
    let address = plus section.address (index * 8) in
    option_and_then (if_among slots address)
    (jump_slot file.header.kind.e_machine address (drop (index * 8) section.bytes))

abbrev pub entries_in : File → List ℕ → Section → List ℕ
entries_in file slots section =
    filter_map (entry_in file slots section) (range_with_len 0 (length section.bytes / 8))

-- in the order of the sections and of the bytes
abbrev pub entries_to : File → List ℕ → PltParts → List ℕ
entries_to file name parts =
    let slots = slots_of file parts.got name in
    entries_in file slots parts.plt.plt
    ++ (entries_in file slots parts.plt.plt_sec ++ entries_in file slots parts.plt.plt_got)

unfoldable pub plt_addresses : File → List ℕ → Result (List ℕ) ElfError
plt_addresses file name =
    and_then (plt_parts file) (λ parts. Ok (entries_to file name parts))
