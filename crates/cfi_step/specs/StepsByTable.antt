-- From a frame to its caller, by what a compiled table has for the address.
--     IsStepByFrame frame bytes abi found result caller      what a step returns and writes by the
--         row and the CIE, or by the error in their place
--     IsStepAsScanned frame bytes abi table a result caller      for whatever section the table is
--         compiled: the step by a scan of it
use Rattle.std.specs.Prelude.{◌≡◌, ℕ, Bool, List, Option, Result, Ok, Err}
use Rattle.cfi_read_core.specs.declared.error.Error.{Error}
use Rattle.cfi_read_core.specs.ReadFunctions.{Position}
use Rattle.cfi_entry.specs.Sections.{Section}
use Rattle.cfi_unwind.specs.Scan.{chosen_fde}
use Rattle.cfi_compiled.specs.CompiledTables.{TableContents, IsCompiled}
use Rattle.cfi_compiled.specs.FrameParts.{FrameParts}
use Rattle.cfi_expression.specs.declared.error.FrameError.{FrameError}
use Rattle.cfi_expression.specs.declared.error.FrameError.TheVariants.{NoRow}
use Rattle.cfi_expression.specs.Frames.{Frame}
use Rattle.cfi_step.specs.declared.abi.Abi.{Abi}
use Rattle.cfi_step.specs.declared.step.Caller.{Caller}
use Rattle.cfi_step.specs.Steps.{IsStepBy, IsStepByParts}

module _ (frame : Frame) (bytes : Position) (abi : Abi) where
  abbrev pub IsStepByFrame :
      Result FrameParts Error → Result Caller FrameError → List (Option ℕ) → Type 0
  IsStepByFrame (Ok found) result caller =
      IsStepByParts frame bytes abi (λ n. n) found.return_address found.is_signal_trampoline
      found.parts result caller
  IsStepByFrame (Err e) result caller = result ≡ Err (NoRow e)

  -- over a storage with the limits of the table
  abbrev pub IsStepAsScanned :
      TableContents → ℕ → Result Caller FrameError → List (Option ℕ) → Type 0
  IsStepAsScanned table a result caller =
      (rule_limit stack_limit : Option ℕ) (copies_free : Bool) (section : Section) →
      IsCompiled rule_limit stack_limit section table →
      IsStepBy frame bytes abi (λ n. n) rule_limit stack_limit copies_free section a
      (chosen_fde section a) result caller
