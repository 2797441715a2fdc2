-- The entries that an iterator over a section returns, as what they mean.
--     partial_view position number fde      an FDE as far as the offset of its CIE
--     partial_section, .._bases, .._prefix, .._cie_offset fde      its section, its bases, its
--         prefix and that offset
--     IsPartialOf section bases fde      it keeps this section and these bases
--     cie_or_fde_view position number entry      an entry
--     IsEntryOf view position section bases entry      a CIE is read from the bytes of the section,
--         an FDE keeps it and the bases
use Rattle.std.specs.Prelude.{◌≡◌, ℕ}
use Rattle.cfi_read_core.specs.ReadFunctions.{Position}
use Rattle.cfi_read_core.specs.CallFrameSections.{SectionView}
use Rattle.cfi_parts.specs.declared.pointer.BaseAddresses.{BaseAddresses}
use Rattle.cfi_entry.specs.Cies.{Cie}
use Rattle.cfi_entry.specs.Fdes.{PartialFde}
use Rattle.cfi_entry.specs.Entries.{Entry, CieEntry, FdeEntry}
use Rattle.cfi_entry.specs.EntryViews.{IsCieOf, cie_view, prefix_view}
use Rattle.cfi_entry.specs.declared.cie.CieFields.{CieFields}
use Rattle.cfi_entry.specs.declared.prefix.EntryPrefix.{EntryPrefix}
use Rattle.cfi_unwind.specs.declared.entry.entries.EntryFields.{EntryFields}
use Rattle.cfi_unwind.specs.declared.entry.entries.EntryFields.TheVariants as code
use Rattle.cfi_unwind.specs.declared.entry.partial.PartialFdeFields.{PartialFdeFields}

-- an FDE by its prefix and the offset of its CIE
abbrev pub partial_of : {R O : Type 0} → (R → Position) → (O → ℕ) → EntryPrefix R O → O → PartialFde
partial_of position number prefix cie_offset =
    record { prefix = prefix_view position number prefix; cie_offset = number cie_offset }

-- the braces have the reader's offset and byte order, and what the traits of the section and of the
-- reader say
abbrev pub partial_view :
    {S R O P E : Type 0} {a : _} {b : _} {c : _} {d : _} {e : _} {f : _} {g : _} {h : _} {i : _}
    {j : _} {k : _} {l : _} →
    (R → Position) → (O → ℕ) → PartialFdeFields S R O P E a b c d e f g h i j k l → PartialFde
partial_view position number p = partial_of position number p.prefix p.cie_offset

abbrev pub partial_section :
    {S R O P E : Type 0} {a : _} {b : _} {c : _} {d : _} {e : _} {f : _} {g : _} {h : _} {i : _}
    {j : _} {k : _} {l : _} →
    PartialFdeFields S R O P E a b c d e f g h i j k l → S
partial_section p = p.section

abbrev pub partial_bases :
    {S R O P E : Type 0} {a : _} {b : _} {c : _} {d : _} {e : _} {f : _} {g : _} {h : _} {i : _}
    {j : _} {k : _} {l : _} →
    PartialFdeFields S R O P E a b c d e f g h i j k l → BaseAddresses
partial_bases p = p.bases.now

abbrev pub partial_prefix :
    {S R O P E : Type 0} {a : _} {b : _} {c : _} {d : _} {e : _} {f : _} {g : _} {h : _} {i : _}
    {j : _} {k : _} {l : _} →
    PartialFdeFields S R O P E a b c d e f g h i j k l → EntryPrefix R O
partial_prefix p = p.prefix

abbrev pub partial_cie_offset :
    {S R O P E : Type 0} {a : _} {b : _} {c : _} {d : _} {e : _} {f : _} {g : _} {h : _} {i : _}
    {j : _} {k : _} {l : _} →
    PartialFdeFields S R O P E a b c d e f g h i j k l → O
partial_cie_offset p = p.cie_offset

abbrev pub IsPartialOf :
    {S R O P E : Type 0} {a : _} {b : _} {c : _} {d : _} {e : _} {f : _} {g : _} {h : _} {i : _}
    {j : _} {k : _} {l : _} →
    S → BaseAddresses → PartialFdeFields S R O P E a b c d e f g h i j k l → Type 0
IsPartialOf section bases p = (p.section ≡ section) × (p.bases.now ≡ bases)

-- ---- a CIE or an FDE

abbrev pub entry_view : {C F : Type 0} → (C → Cie) → (F → PartialFde) → EntryFields C F → Entry
entry_view cie partial (code.Cie c) = CieEntry (cie c)
entry_view cie partial (code.Fde f) = FdeEntry (partial f)

-- what holds of a CIE and of an FDE
abbrev pub OfEither : {C F : Type 0} → (C → Type 0) → (F → Type 0) → EntryFields C F → Type 0
OfEither cie partial (code.Cie c) = cie c
OfEither cie partial (code.Fde f) = partial f

abbrev pub cie_or_fde_view :
    {S R O P E : Type 0} {a : _} {b : _} {c : _} {d : _} {e : _} {f : _} {g : _} {h : _} {i : _}
    {j : _} {k : _} {l : _} →
    (R → Position) → (O → ℕ) →
    EntryFields (CieFields R O) (PartialFdeFields S R O P E a b c d e f g h i j k l) → Entry
cie_or_fde_view position number =
    entry_view (cie_view position number) (partial_view position number)

abbrev pub IsEntryOf :
    {S R O P E : Type 0} {a : _} {b : _} {c : _} {d : _} {e : _} {f : _} {g : _} {h : _} {i : _}
    {j : _} {k : _} {l : _} →
    (S → SectionView) → (R → Position) → S → BaseAddresses →
    EntryFields (CieFields R O) (PartialFdeFields S R O P E a b c d e f g h i j k l) → Type 0
IsEntryOf view position section bases =
    OfEither (IsCieOf position (view section).position) (IsPartialOf section bases)
