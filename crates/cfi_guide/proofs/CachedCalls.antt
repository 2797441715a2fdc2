-- A closure that asks a cache is called with the section and the bases of the caller, so what it returns is of them.
use Rattle.std.proofs.Common.{◌≡◌, ℕ, Result, subst}
use Rattle.std.specs.Prelude.{IfOk}
use Rattle.gimli_cfi.specs.Words.{BaseAddresses, CieCacheFields, CieFields, Error, IsCacheOf}
use Rattle.gimli_cfi.specs.Words.{IsOf, Position, SectionView, cie_at, cie_view, map_ok, section_of}
use Rattle.gimli_cfi.specs.Words.{GetsCie}

module _ {R O S : Type 0} (position : R → Position) (number : O → ℕ) (view : S → SectionView) (section shown : S) (bases shown_bases : BaseAddresses) (at_section : shown ≡ section) (at_bases : shown_bases ≡ bases) (before after : CieCacheFields R O) (offset : ℕ) (answer : Result (CieFields R O) Error) where
  abbrev Answers : S → BaseAddresses → Type 0
  Answers s b = GetsCie position number (view s) b before offset answer after

  at_hand : Answers shown shown_bases → Answers section bases
  at_hand says = subst (λ (b : BaseAddresses). Answers section b) at_bases (subst (λ (s : S). Answers s shown_bases) at_section says)

  pub own : Answers shown shown_bases → IsCacheOf position number (view section) bases before →
      IsCacheOf position number (view section) bases after × (map_ok (cie_view position number) answer ≡ cie_at (section_of (view section) bases) offset)
  own says holds = let here = at_hand says in (here.1.1 holds, here.0 holds)

  pub part : Answers shown shown_bases → IsCacheOf position number (view section) bases before →
      IsCacheOf position number (view section) bases after × IfOk answer (λ cie. IsOf (position cie.initial_instructions) (view section).position)
  part says holds = let here = at_hand says in (here.1.1 holds, here.1.0 holds)
