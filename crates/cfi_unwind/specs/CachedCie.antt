-- A CIE that is kept with its offset, so that it is not read again.
--     CachesCie position number section bases kept      the kept CIE, if there is one, is the
--         section's at its offset
--     IsCacheOf position number section bases cache      the same of a `CieCache`
--     GetsCie position number section bases before offset result after      what `CieCache::get`
--         returns, and the cache after it
use Rattle.std.specs.Prelude.{◌≡◌, ℕ, Option, Result, Ok, IfOk, IfSome}
use Rattle.cfi_read_core.specs.ReaderCalls.{map_ok}
use Rattle.cfi_read_core.specs.declared.error.Error.{Error}
use Rattle.cfi_read_core.specs.ReadFunctions.{Position}
use Rattle.cfi_read_core.specs.CallFrameSections.{SectionView}
use Rattle.cfi_parts.specs.declared.pointer.BaseAddresses.{BaseAddresses}
use Rattle.cfi_entry.specs.Sections.{section_of}
use Rattle.cfi_entry.specs.Entries.{cie_at}
use Rattle.cfi_entry.specs.EntryViews.{IsCieOf, cie_view}
use Rattle.cfi_entry.specs.declared.cie.CieFields.{CieFields}
use Rattle.cfi_unwind.specs.declared.cie_cache.CieCacheFields.{CieCacheFields}

abbrev pub CachesCie :
    {R O : Type 0} → (R → Position) → (O → ℕ) → SectionView → BaseAddresses →
    Option (ℕ × CieFields R O) → Type 0
CachesCie position number frame bases kept =
    IfSome kept
    (λ known.
    (Ok (cie_view position number known.1) ≡ cie_at (section_of frame bases) known.0)
    × IsCieOf position frame.position known.1)

abbrev pub IsCacheOf :
    {R O : Type 0} → (R → Position) → (O → ℕ) → SectionView → BaseAddresses → CieCacheFields R O →
    Type 0
IsCacheOf position number frame bases cache = CachesCie position number frame bases cache.kept

-- Where the cache is one of the section: the result is the section's CIE at the offset, read from
-- its bytes, and the cache is one of the section still.
abbrev pub GetsCie :
    {R O : Type 0} → (R → Position) → (O → ℕ) → SectionView → BaseAddresses → CieCacheFields R O →
    ℕ → Result (CieFields R O) Error → CieCacheFields R O → Type 0
GetsCie position number frame bases before offset result after =
    (IsCacheOf position number frame bases before →
    map_ok (cie_view position number) result ≡ cie_at (section_of frame bases) offset)
    × ((IsCacheOf position number frame bases before →
    IfOk result (IsCieOf position frame.position))
    × (IsCacheOf position number frame bases before →
    IsCacheOf position number frame bases after))
