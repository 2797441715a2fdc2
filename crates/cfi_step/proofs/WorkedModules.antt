-- Modules in order and out of order, addresses in a file, and the numbers of files, worked out from the definitions alone.
use Rattle.std.proofs.Common.{◌≡◌, ◌-◌, ◌^◌, ℕ, true, List, [], ◌∷◌, Some, None, refl, arith}
use Rattle.cfi_parts.specs.declared.pointer.BaseAddresses.{BaseAddresses}
use Rattle.cfi_entry.specs.declared.eh_frame.EhFrame.{EhFrame}
use Rattle.cfi_step.specs.declared.module.LoadedModule.{LoadedModule}
use Rattle.cfi_step.specs.CachedRows.{AreAlike}
use Rattle.cfi_step.specs.CodeRanges.{IsOutOfOrder}
use Rattle.cfi_step.specs.Modules.{address_in_file, are_sorted, code_end, code_start, first_module}

-- 0x40001001, of a file that is loaded at 0x40000000
in_file : address_in_file 1073741824 1073745921 ≡ 4097
in_file = refl

-- 0x1000, of one that is loaded 0x1000 below the addresses that it has
below_its_own : address_in_file (2 ^ 64 - 4096) 4096 ≡ 8192
below_its_own = refl

module _ {R : Type 0} (frame : EhFrame R) (bases : BaseAddresses) where
  abbrev code : ℕ → ℕ → LoadedModule R
  code start end = record { start = start; end = end; bias = 0; file = 0; frame = frame; header = None; bases = bases; compiled = None; debug = None }

  abbrev in_order : List (LoadedModule R)
  in_order = code 1 5 ∷ code 5 5 ∷ code 5 9 ∷ code 12 13 ∷ []

  -- a module may begin where the one before it ends, and may have no code
  sorted : are_sorted 0 in_order ≡ true
  sorted = refl

  -- the end of a module is not in it
  at_end : first_module in_order 5 ≡ Some (code 5 9)
  at_end = refl

  last_one : first_module in_order 12 ≡ Some (code 12 13)
  last_one = refl

  between : first_module in_order 9 ≡ None
  between = refl

  overlapping : IsOutOfOrder code_start code_end (code 1 5 ∷ code 4 9 ∷ []) 1
  overlapping = (refl, refl)

  one_in_another : IsOutOfOrder code_start code_end (code 1 9 ∷ code 2 3 ∷ []) 1
  one_in_another = (refl, refl)

  backwards : IsOutOfOrder code_start code_end (code 1 5 ∷ code 9 8 ∷ code 9 12 ∷ []) 1
  backwards = (refl, refl)

  swapped : IsOutOfOrder code_start code_end (code 5 9 ∷ code 1 5 ∷ []) 1
  swapped = (refl, refl)

  -- ---- numbers of files

  abbrev loaded : ℕ → ℕ → EhFrame R → LoadedModule R
  loaded bias file entries = record { start = 1; end = 5; bias = bias; file = file; frame = entries; header = None; bases = bases; compiled = None; debug = None }

  -- modules of one file, wherever it is loaded
  one_file : AreAlike (loaded 4096 7 frame) (loaded 8192 7 frame)
  one_file same = (refl, refl, refl)

  module _ (other : EhFrame R) where
    -- files with two numbers may have any sections
    two_files : AreAlike (loaded 0 7 frame) (loaded 0 8 other)
    two_files same = absurd (omega (arith, same))

    -- one number for two sections
    one_number_for_two : (frame ≡ other → ⊥) → AreAlike (loaded 0 7 frame) (loaded 0 7 other) → ⊥
    one_number_for_two apart alike = apart (alike refl).0
