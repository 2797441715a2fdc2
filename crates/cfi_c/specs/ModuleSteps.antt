-- Steps in the modules that C passes, by the FDE that the module's sections have for the address.
--     IsPassedFde size loaded a found      that FDE, or the error in its place
--     IsStepByPassedFde frame abi loaded a found step caller      a step by it; IsFunctionStep with
--         its function
--     IsStepInModule stack loaded s step caller      a step from a frame of a module's code
--     IsStepForC stack modules s step caller      a step from a frame, by the first module whose
--         code its address is in
use Rattle.std.specs.Prelude.{◌≡◌, ℕ, true, List, Option, Some, None, Result, IfOk}
use Rattle.cfi_read_core.specs.SliceReaders.{slice_over}
use Rattle.cfi_read_core.specs.declared.error.Error.{Error}
use Rattle.cfi_entry.specs.Fdes.{Covers, Fde}
use Rattle.cfi_unwind.specs.Scan.{chosen_fde}
use Rattle.gimli_cfi.specs.EhFrameHdr as headers
use Rattle.gimli_cfi.specs.RowsByHeader.{FoundByHeader}
use Rattle.cfi_expression.specs.declared.error.FrameError.{FrameError}
use Rattle.cfi_expression.specs.Frames.{Frame}
use Rattle.cfi_step.specs.declared.abi.Abi.{Abi}
use Rattle.cfi_step.specs.declared.function_steps.FunctionStep.{FunctionStep}
use Rattle.cfi_step.specs.declared.step.Caller.{Caller}
use Rattle.cfi_step.specs.declared.walk.End.{End}
use Rattle.cfi_step.specs.Functions.{function_in}
use Rattle.cfi_step.specs.Steps.{IsStepBy}
use Rattle.cfi_step.specs.Walks.{IsStepOf, State, address_of}
use Rattle.cfi_c.specs.declared.section.CfiBases.{CfiBases}
use Rattle.cfi_c.specs.declared.module.CfiModule.{CfiModule}
use Rattle.cfi_c.specs.declared.stack.CfiStack.{CfiStack}
use Rattle.cfi_c.specs.PassedModules.{passed_module_at, passed_section_in, sized}
use Rattle.cfi_c.specs.PassedSections.{eh_frame_of, header_in, passed_header, passed_section}
use Rattle.cfi_c.specs.PassedStacks.{stack_abi, passed_stack_memory}

-- the FDE by the header's table, without a header by a scan of the section
abbrev pub IsPassedFdeBy : CfiBases → List ℕ → Option (List ℕ) → ℕ → Result Fde Error → Type 0
IsPassedFdeBy bases bytes None a found = found ≡ chosen_fde (passed_section bases bytes) a
IsPassedFdeBy bases bytes (Some header) a found =
    FoundByHeader (eh_frame_of bases bytes) a (passed_header bases header)
    (headers.header_of (passed_header bases header)) found

-- the FDE that a module's sections have for an address of its code, where one has this size
abbrev pub IsPassedFde : ℕ → CfiModule → ℕ → Result Fde Error → Type 0
IsPassedFde size loaded a found =
    IsPassedFdeBy (sized size loaded.bases) loaded.section.now (header_in loaded.header.now) a found

abbrev pub IsStepByPassedFde :
    Frame → Abi → CfiModule → ℕ → Result Fde Error → Result Caller FrameError → List (Option ℕ) →
    Type 0
IsStepByPassedFde frame abi loaded a found step caller =
    IsPassedFde frame.size loaded a found
    × IfOk found (λ fde. Covers fde a)
    × IsStepBy frame (slice_over loaded.section.now loaded.bases.big_endian) abi
    (λ n. n) (Some 192) (Some 4) true (passed_section_in frame.size loaded) a found step caller

-- the same with the function that the FDE describes
abbrev pub IsFunctionStep :
    Frame → Abi → CfiModule → ℕ → FunctionStep → List (Option ℕ) → Type 0
IsFunctionStep frame abi loaded a step caller =
    (found : Result Fde Error) × IsStepByPassedFde frame abi loaded a found step.caller caller
    × (step.function ≡ function_in found)

module _ (stack : CfiStack) where
  abbrev pub stack_frame : State → Frame
  stack_frame s =
      record {
        registers = s.registers;
        memory = passed_stack_memory stack;
        size = stack.address_size;
      }

  abbrev pub IsStepInModule :
      CfiModule → State → Result Caller FrameError → List (Option ℕ) → Type 0
  IsStepInModule loaded s step caller =
      (found : Result Fde Error)
      × IsStepByPassedFde (stack_frame s) (stack_abi stack) loaded (address_of s) found step caller

  abbrev pub IsStepForC : List CfiModule → State → Result Caller End → List (Option ℕ) → Type 0
  IsStepForC modules s = IsStepOf IsStepInModule (passed_module_at modules (address_of s)) s
