-- The entries of a section in order, and the entry at an offset.
use Rattle.std.specs.Prelude.{ℕ, zero, suc, ◌+◌, ◌-◌, Bool, true, false, Option, Some, None, Result}
use Rattle.std.specs.Prelude.{Ok, Err, nat_le, ◌==◌, if◌then◌else◌}
use Rattle.cfi_read_core.specs.declared.error.Error.{Error}
use Rattle.cfi_read_core.specs.declared.error.Error.TheVariants.{NotCieId, NotCiePointer}
use Rattle.cfi_read_core.specs.declared.error.Error.TheVariants.{NoEntryAtGivenOffset}
use Rattle.cfi_read_core.specs.Numbers.{initial_length_size}
use Rattle.cfi_read_core.specs.ReaderCalls.{map_ok}
use Rattle.cfi_read_core.specs.ReadFunctions.{Readings, no_values, readings_with}
use Rattle.cfi_entry.specs.Sections.{Section, cie_id, cie_offset_of, zero_length_ends, at_offset}
use Rattle.cfi_entry.specs.Prefixes.{Prefix, prefix}
use Rattle.cfi_entry.specs.Cies.{Cie, cie_of}
use Rattle.cfi_entry.specs.Fdes.{PartialFde, Fde, fde_of}

pub data Entry : Type 0 where
  CieEntry : Cie → Entry
  FdeEntry : PartialFde → Entry

abbrev pub is_cie : Section → Prefix → Bool
is_cie section found = found.id == cie_id section.kind found.format

abbrev pub partial_fde_of : Section → Prefix → Result PartialFde Error
partial_fde_of section found =
    map_ok (λ offset. record { prefix = found; cie_offset = offset })
    (cie_offset_of section found.id_offset found.id)

-- a CIE is read whole, an FDE as far as the offset of its CIE
unfoldable pub entry_of : Section → Prefix → Result Entry Error
entry_of section found =
    if is_cie section found
    then map_ok CieEntry (cie_of section found)
    else map_ok FdeEntry (partial_fde_of section found)

-- where an entry ends: after its initial length and as many bytes as that says
abbrev pub end_of_entry : Entry → ℕ
end_of_entry (CieEntry cie) = cie.offset + initial_length_size cie.format + cie.length
end_of_entry (FdeEntry fde) =
    fde.prefix.offset + initial_length_size fde.prefix.format + fde.prefix.length

-- ---- the list of entries

-- Whether the end was met, what stands there where it wasn't, and the entries after that.
abbrev pub entries_with :
    Section → Bool → Result (Option Prefix) Error → Readings Entry → Readings Entry
entries_with section true first others = no_values None
entries_with section false (Err e) others = no_values (Some e)
entries_with section false (Ok None) others =
    if zero_length_ends section.kind then no_values None else others
entries_with section false (Ok (Some found)) others =
    readings_with false (entry_of section found) others

-- the entries from a place up to the end, to a zero length that ends them or to the first refusal,
-- at most n
unfoldable pub entries_from : ℕ → Section → ℕ → Readings Entry
entries_from zero section place = no_values None
entries_from (suc n) section place =
    let first = prefix section section.source place in
    entries_with section (nat_le section.source.last place) first.value
    (entries_from n section first.place)

-- the entries that are left at a place; each takes a byte at least
abbrev pub entries_left : Section → ℕ → Readings Entry
entries_left section place = entries_from (section.source.last - place) section place

abbrev pub entries : Section → Readings Entry
entries section = entries_left section section.first

-- ---- the entry at an offset

abbrev pub some_prefix : ℕ → Result (Option Prefix) Error → Result Prefix Error
some_prefix offset (Err e) = Err e
some_prefix offset (Ok None) = Err (NoEntryAtGivenOffset offset)
some_prefix offset (Ok (Some found)) = Ok found

abbrev pub prefix_at : Section → ℕ → Result Prefix Error
prefix_at section offset = some_prefix offset (at_offset section offset (prefix section))

abbrev pub cie_by : Section → ℕ → Result Prefix Error → Result Cie Error
cie_by section offset (Err e) = Err e
cie_by section offset (Ok found) =
    if is_cie section found then cie_of section found else Err (NotCieId offset)

unfoldable pub cie_at : Section → ℕ → Result Cie Error
cie_at section offset = cie_by section offset (prefix_at section offset)

abbrev pub partial_fde_by : Section → ℕ → Result Prefix Error → Result PartialFde Error
partial_fde_by section offset (Err e) = Err e
partial_fde_by section offset (Ok found) =
    if is_cie section found then Err (NotCiePointer offset) else partial_fde_of section found

unfoldable pub partial_fde_at : Section → ℕ → Result PartialFde Error
partial_fde_at section offset = partial_fde_by section offset (prefix_at section offset)

-- an FDE with the CIE or the refusal that was given for it
abbrev pub fde_with : Section → PartialFde → Result Cie Error → Result Fde Error
fde_with section partial (Err e) = Err e
fde_with section partial (Ok cie) = fde_of section partial cie

abbrev pub fde_by : Section → Result PartialFde Error → Result Fde Error
fde_by section (Err e) = Err e
fde_by section (Ok partial) = fde_with section partial (cie_at section partial.cie_offset)

-- the FDE at an offset, with the CIE to which it points
abbrev pub fde_at : Section → ℕ → Result Fde Error
fde_at section offset = fde_by section (partial_fde_at section offset)
