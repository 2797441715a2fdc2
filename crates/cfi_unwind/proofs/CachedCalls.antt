-- What a closure that calls `CieCache::get` returns for the section and the bases that it is called with, which are those of the scan.
use Rattle.std.proofs.Common.{◌≡◌, ℕ, Result, subst}
use Rattle.std.specs.Prelude.{IfOk}
use Rattle.cfi_read_core.specs.ReaderCalls.{map_ok}
use Rattle.cfi_read_core.specs.ReadFunctions.{Position}
use Rattle.cfi_read_core.specs.declared.error.Error.{Error}
use Rattle.cfi_read_core.specs.CallFrameSections.{SectionView}
use Rattle.cfi_parts.specs.declared.pointer.BaseAddresses.{BaseAddresses}
use Rattle.cfi_entry.specs.Sections.{section_of}
use Rattle.cfi_entry.specs.Entries.{cie_at}
use Rattle.cfi_entry.specs.EntryViews.{IsCieOf, cie_view}
use Rattle.cfi_entry.specs.declared.cie.CieFields.{CieFields}
use Rattle.cfi_unwind.specs.CachedCie.{GetsCie, IsCacheOf}
use Rattle.cfi_unwind.specs.declared.cie_cache.CieCacheFields.{CieCacheFields}

module _ {R O S : Type 0} (position : R → Position) (number : O → ℕ) (view : S → SectionView) (section shown : S) (bases shown_bases : BaseAddresses) (at_section : shown ≡ section) (at_bases : shown_bases ≡ bases)
    (before after : CieCacheFields R O) (offset : ℕ) (answer : Result (CieFields R O) Error) where
  abbrev Gets : S → BaseAddresses → Type 0
  Gets s b = GetsCie position number (view s) b before offset answer after

  at_hand : Gets shown shown_bases → Gets section bases
  at_hand says = subst (λ (b : BaseAddresses). Gets section b) at_bases (subst (λ (s : S). Gets s shown_bases) at_section says)

  pub own : Gets shown shown_bases → IsCacheOf position number (view section) bases before →
      IsCacheOf position number (view section) bases after × (map_ok (cie_view position number) answer ≡ cie_at (section_of (view section) bases) offset)
  own says holds = let here = at_hand says in (here.1.1 holds, here.0 holds)

  pub part : Gets shown shown_bases → IsCacheOf position number (view section) bases before →
      IsCacheOf position number (view section) bases after × IfOk answer (IsCieOf position (view section).position)
  part says holds = let here = at_hand says in (here.1.1 holds, here.1.0 holds)
