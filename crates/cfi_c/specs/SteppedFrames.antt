-- The caller of one frame, as C gets it.
--     IsPassedStep module memory a registers step caller      the step from a frame with these
--         registers, by its address, and its function
--     IsHeldStep live .. old new step      the step with the values that C passes and gets, or why
--         there is none
--     IsStepped live .. function old_caller caller end      what C gets, with a context or none
use Rattle.std.specs.Prelude.{◌≡◌, ℕ, Bool, true, false, List, length, take, Option, Some, None}
use Rattle.std.specs.Prelude.{Result, Ok, Err, IfOk, OnErr}
use Rattle.cfi_read_core.specs.declared.error.Error.TheVariants.{UnsupportedAddressSize}
use Rattle.cfi_read_core.specs.Addresses.{IsAddressSize}
use Rattle.cfi_expression.specs.declared.error.FrameError.{FrameError}
use Rattle.cfi_expression.specs.Frames.{Frame}
use Rattle.cfi_step.specs.declared.function_steps.FunctionStep.{FunctionStep}
use Rattle.cfi_step.specs.declared.step.Caller.{Caller}
use Rattle.cfi_c.specs.declared.function.CfiFunction.{CfiFunction}
use Rattle.cfi_c.specs.declared.memory.CfiMemory.{CfiMemory}
use Rattle.cfi_c.specs.declared.end.CfiEnd.{CfiEnd}
use Rattle.cfi_c.specs.declared.module.CfiModule.{CfiModule}
use Rattle.cfi_c.specs.declared.register.CfiValue.{CfiValue}
use Rattle.cfi_c.specs.declared.step.CfiCaller.{CfiCaller}
use Rattle.cfi_c.specs.PassedMemories.{abi_in, number_in_memory}
use Rattle.cfi_c.specs.PassedRegisters.{AreValues, known_values}
use Rattle.cfi_c.specs.WrittenFunctions.{written_function}
use Rattle.cfi_c.specs.Ends.{end_by, no_context, refused_end}
use Rattle.cfi_c.specs.ModuleSteps.{IsFunctionStep}

-- ---- the caller

abbrev pub pc_or_zero : Option ℕ → ℕ
pc_or_zero (Some pc) = pc
pc_or_zero None = 0

-- what was there stays where no caller is found
abbrev pub caller_or : CfiCaller → Result Caller FrameError → CfiCaller
caller_or old (Ok c) = record {
  cfa = c.cfa;
  pc = pc_or_zero c.pc;
  args_size = c.args_size;
  is_interrupted = c.is_interrupted;
}
caller_or old (Err e) = old

-- ---- a step

abbrev pub frame_in : CfiMemory → List (Option ℕ) → Frame
frame_in memory registers = record {
  registers = registers;
  memory = number_in_memory memory;
  size = memory.address_size;
}

-- where no caller is found, nothing is written
abbrev pub IsPassedStep :
    CfiModule → CfiMemory → ℕ → List (Option ℕ) → FunctionStep → List (Option ℕ) → Type 0
IsPassedStep loaded memory a registers step caller =
    IsFunctionStep (frame_in memory registers) (abi_in memory) loaded a step caller

-- there is room for 256 registers
abbrev pub IsStepWith :
    CfiModule → CfiMemory → ℕ → List (Option ℕ) → FunctionStep → List CfiValue → Type 0
IsStepWith loaded memory a registers step new =
    (caller : List (Option ℕ)) × IsPassedStep loaded memory a registers step caller
    × (length caller ≡ length (take 256 new))
    × IfOk step.caller (λ c. AreValues caller new)

abbrev pub IsSizedStep :
    CfiModule → CfiMemory → ℕ → List CfiValue → List CfiValue → List CfiValue →
    Result FunctionStep CfiEnd → Type 0
IsSizedStep loaded memory a registers old new result =
    (step : FunctionStep) × (result ≡ Ok step)
    × IsStepWith loaded memory a (known_values registers) step new
    × OnErr step.caller (new ≡ old)

abbrev pub IsNotStepped :
    CfiEnd → List CfiValue → List CfiValue → Result FunctionStep CfiEnd → Type 0
IsNotStepped due old new result = (result ≡ Err due) × (new ≡ old)

abbrev pub IsHeldStep :
    Bool → CfiModule → CfiMemory → ℕ → List CfiValue → List CfiValue → List CfiValue →
    Result FunctionStep CfiEnd → Type 0
IsHeldStep false loaded memory a registers old new result = IsNotStepped no_context old new result
IsHeldStep true loaded memory a registers old new result =
    ((IsAddressSize memory.address_size → ⊥) →
    IsNotStepped (refused_end 16 (UnsupportedAddressSize memory.address_size)) old new result)
    × (IsAddressSize memory.address_size → IsSizedStep loaded memory a registers old new result)

-- ---- what C gets of it

abbrev pub function_after : Result FunctionStep CfiEnd → CfiFunction
function_after (Ok step) = written_function step.function
function_after (Err end) = written_function None

abbrev pub caller_after : CfiCaller → Result FunctionStep CfiEnd → CfiCaller
caller_after old (Ok step) = caller_or old step.caller
caller_after old (Err end) = old

abbrev pub end_after : Result FunctionStep CfiEnd → CfiEnd
end_after (Ok step) = end_by step.caller
end_after (Err end) = end

abbrev pub IsStepped :
    Bool → CfiModule → CfiMemory → ℕ → List CfiValue → List CfiValue → List CfiValue →
    CfiFunction → CfiCaller → CfiCaller → CfiEnd → Type 0
IsStepped live loaded memory a registers old new function old_caller caller end =
    (step : Result FunctionStep CfiEnd)
    × IsHeldStep live loaded memory a registers old new step
    × (function ≡ function_after step)
    × (caller ≡ caller_after old_caller step)
    × (end ≡ end_after step)
