-- The addresses that a word names in an ELF file.
--     target_addresses file word      a number; the name of symbols or a section; or such a name, a
--         plus sign and an offset. After the name of a symbol may stand an @ and its version, or
--         @plt for its entries in the procedure linkage table
--     names_entry word      whether the name in a word is of such entries
use Rattle.std.specs.Prelude.{◌≡◌, ◌⊎◌, ℕ, ◌+◌, ◌-◌, Bool, List, [], ◌∷◌, length, take}
use Rattle.std.specs.Prelude.{drop, Option, Some, None, Result, Ok, Err, codes, ◌==◌, if◌then◌else◌}
use Rattle.std.specs.List.{after_first, before_first, cons_option, filter_map, position_or_len}
use Rattle.std.specs.Option.{is_some}
use Rattle.std.specs.Str.{bytes_eq}
use Rattle.cfi_elf.specs.declared.error.ElfError.{ElfError}
use Rattle.cfi_elf.specs.declared.error.ElfError.TheVariants.{OutOfMemory}
use Rattle.cfi_elf.specs.ElfFiles.{File}
use Rattle.cfi_elf.specs.PltAddresses.{plt_addresses}
use Rattle.cfi_elf.specs.Sections.{section_address}
use Rattle.cfi_elf.specs.SymbolAddresses.{symbol_addresses}
use Rattle.cfi_object.specs.Numbers.{below_2_64, number}
use Rattle.cfi_object.specs.CallFrames.{◌>>=◌}

-- that an error is the one that is meant, or that memory for a list was refused
abbrev pub IsOrNoMemory : Result (List ℕ) ElfError → ElfError → Type 0
IsOrNoMemory meant e = (e ≡ OutOfMemory) ⊎ (meant ≡ Err e)

-- + is 43
abbrev pub is_plus : ℕ → Bool
is_plus c = c == 43

-- @ is 64
abbrev pub is_at_sign : ℕ → Bool
is_at_sign c = c == 64

-- those that were found, or others where there are none
abbrev pub or_if_none : List ℕ → Result (List ℕ) ElfError → Result (List ℕ) ElfError
or_if_none found others = if length found == 0 then others else Ok found

unfoldable pub section_addresses : File → List ℕ → Result (List ℕ) ElfError
section_addresses file name = do
  address ← section_address file name
  Ok (cons_option address [])

-- of the symbols of this name, or else of the section
unfoldable pub symbols_or_section : File → List ℕ → Result (List ℕ) ElfError
symbols_or_section file name = do
  found ← symbol_addresses file name
  or_if_none found (section_addresses file name)

-- nothing is meant by the empty name
abbrev pub symbols_named : File → List ℕ → Result (List ℕ) ElfError
symbols_named file name = if length name == 0 then Ok [] else symbol_addresses file name

-- of the symbols whose name stands before the first @, as nm(1) prints a symbol and its version: no
-- version is compared
abbrev pub without_version : File → List ℕ → Result (List ℕ) ElfError
without_version file name =
    if position_or_len is_at_sign name == length name
    then Ok []
    else symbols_named file (before_first is_at_sign name)

-- what stands before @plt at the end of a name
abbrev pub before_plt : List ℕ → Option (List ℕ)
before_plt name =
    let size = length name - 4 in
    if bytes_eq (drop size name) (codes "@plt") then Some (take size name) else None

-- of the entries of the procedure linkage table that go to the symbols of this name
abbrev pub entries_named : File → List ℕ → Result (List ℕ) ElfError
entries_named file name = if length name == 0 then Ok [] else plt_addresses file name

-- of those where @plt ends the name, as objdump(1) prints them, and else of the symbols without the
-- version
abbrev pub by_ending : File → List ℕ → Option (List ℕ) → Result (List ℕ) ElfError
by_ending file name (Some symbol) = entries_named file symbol
by_ending file name None = without_version file name

-- of what has the whole name, or else of what the ending says
unfoldable pub with_version_or_not : File → List ℕ → Result (List ℕ) ElfError
with_version_or_not file name = do
  found ← symbols_or_section file name
  or_if_none found (by_ending file name (before_plt name))

abbrev pub addresses_named : File → List ℕ → Result (List ℕ) ElfError
addresses_named file name = if length name == 0 then Ok [] else with_version_or_not file name

-- each with an offset, where that is an address
abbrev pub each_offset : ℕ → List ℕ → List ℕ
each_offset offset addresses = filter_map (λ address. below_2_64 (address + offset)) addresses

abbrev pub offset_if_number : Option ℕ → List ℕ → List ℕ
offset_if_number None addresses = []
offset_if_number (Some offset) addresses = each_offset offset addresses

unfoldable pub offset_from_name : File → List ℕ → Option ℕ → Result (List ℕ) ElfError
offset_from_name file name offset = do
  addresses ← addresses_named file name
  Ok (offset_if_number offset addresses)

-- the first plus sign ends the name
abbrev pub addresses_by_name : File → List ℕ → Result (List ℕ) ElfError
addresses_by_name file word =
    if position_or_len is_plus word == length word
    then addresses_named file word
    else offset_from_name file (before_first is_plus word) (number (after_first is_plus word))

abbrev pub number_or_name : File → List ℕ → Option ℕ → Result (List ℕ) ElfError
number_or_name file word (Some address) = Ok (address ∷ [])
number_or_name file word None = addresses_by_name file word

abbrev pub target_addresses : File → List ℕ → Result (List ℕ) ElfError
target_addresses file word = number_or_name file word (number word)

-- ---- which words name entries of the procedure linkage table

abbrev pub ends_with_plt : List ℕ → Bool
ends_with_plt name = is_some (before_plt name)

abbrev pub names_entry : List ℕ → Bool
names_entry word =
    if position_or_len is_plus word == length word
    then ends_with_plt word
    else ends_with_plt (before_first is_plus word)
