-- Which row of a file is that of an address.
--     RowIn      a row, and the section that it is in
--     IsRowAt .. eh_frame debug_frame address found      the row of the address in these sections,
--         or why there is none
use Rattle.std.specs.Prelude.{◌≡◌, ◌≢◌, ◌⊎◌, ℕ, Bool, Option, Some, None, Result, Ok, Err}
use Rattle.cfi_read_core.specs.declared.error.Error.{Error}
use Rattle.cfi_read_core.specs.declared.error.Error.TheVariants.{NoUnwindInfoForAddress}
use Rattle.cfi_state.specs.Row.{Row}
use Rattle.cfi_unwind.specs.AddressRow.{IsRowByScan}
use Rattle.gimli_cfi.specs.SectionSources.{GivenSection, IsGivenRow, given_section}
use Rattle.cfi_files.specs.declared.error.FileError.{FileError}
use Rattle.cfi_files.specs.declared.error.FileError.TheVariants as errors
use Rattle.cfi_files.specs.FoundSections.{FoundSection}

pub record RowIn : Type 0 where
  pub section : GivenSection
  pub row : Row ℕ

abbrev pub row_of : GivenSection → Row ℕ → RowIn
row_of frames row = record { section = frames; row = row }

-- what a section has for an address
abbrev pub row_in : GivenSection → Result (Row ℕ) Error → Result RowIn FileError
row_in frames (Ok row) = Ok (row_of frames row)
row_in frames (Err error) = Err (errors.Row error)

-- where the unwind has room for so many rules and rows
module _ (rule_limit stack_limit : Option ℕ) (copies_free : Bool) where
  abbrev pub IsScanned : GivenSection → ℕ → Result (Row ℕ) Error → Type 0
  IsScanned frames address answer =
      IsRowByScan rule_limit stack_limit copies_free (given_section frames) address answer

  -- by a scan of .debug_frame; this error without such a section
  abbrev pub IsInDebugFrame : FileError → FoundSection → ℕ → Result RowIn FileError → Type 0
  IsInDebugFrame otherwise None address found = found ≡ Err otherwise
  IsInDebugFrame otherwise (Some (Ok frames)) address found =
      (answer : Result (Row ℕ) Error) × IsScanned frames address answer
      × (found ≡ row_in frames answer)
  IsInDebugFrame otherwise (Some (Err error)) address found = found ≡ Err (errors.Elf error)

  -- .debug_frame is read if no FDE of .eh_frame has the address
  abbrev pub IsOtherwise : FoundSection → Error → ℕ → Result RowIn FileError → Type 0
  IsOtherwise debug_frame error address found =
      ((error ≡ NoUnwindInfoForAddress)
      × IsInDebugFrame (errors.Row error) debug_frame address found)
      ⊎ ((error ≢ NoUnwindInfoForAddress) × (found ≡ Err (errors.Row error)))

  -- where there is one, it is looked up once more
  abbrev pub IsRowOr :
      GivenSection → FoundSection → ℕ → Result (Row ℕ) Error → Result RowIn FileError → Type 0
  IsRowOr frames debug_frame address (Ok row) found =
      (again : Result (Row ℕ) Error) × IsScanned frames address again
      × (found ≡ row_in frames again)
  IsRowOr frames debug_frame address (Err error) found =
      IsOtherwise debug_frame error address found

  -- by a scan of .eh_frame
  abbrev pub IsScannedOr : GivenSection → FoundSection → ℕ → Result RowIn FileError → Type 0
  IsScannedOr frames debug_frame address found =
      (answer : Result (Row ℕ) Error) × IsScanned frames address answer
      × IsRowOr frames debug_frame address answer found

  -- the row to which the table of the header leads, or by a scan where it leads to none
  abbrev pub IsTableRowOr :
      GivenSection → FoundSection → ℕ → Result (Row ℕ) Error → Result RowIn FileError → Type 0
  IsTableRowOr frames debug_frame address (Ok row) found =
      (again : Result (Row ℕ) Error)
      × IsGivenRow rule_limit stack_limit copies_free frames address again
      × (found ≡ row_in frames again)
  IsTableRowOr frames debug_frame address (Err e) found =
      IsScannedOr frames debug_frame address found

  abbrev pub IsInEhFrame : GivenSection → FoundSection → ℕ → Result RowIn FileError → Type 0
  IsInEhFrame frames debug_frame address found =
      (answer : Result (Row ℕ) Error)
      × IsGivenRow rule_limit stack_limit copies_free frames address answer
      × IsTableRowOr frames debug_frame address answer found

  -- in .eh_frame, or in .debug_frame where the file has no .eh_frame or that has no row
  abbrev pub IsRowAt : FoundSection → FoundSection → ℕ → Result RowIn FileError → Type 0
  IsRowAt None debug_frame address found =
      IsInDebugFrame errors.NoCallFrames debug_frame address found
  IsRowAt (Some (Ok frames)) debug_frame address found =
      IsInEhFrame frames debug_frame address found
  IsRowAt (Some (Err error)) debug_frame address found = found ≡ Err (errors.Elf error)
