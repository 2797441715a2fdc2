-- The function of a frame, as its FDE describes it (LSB Core, "The Common Information Entry Format"
-- and "The Frame Description Entry Format").
--     function_of fde      what the FDE and its CIE say beside the rows
--     function_in found      the same of the FDE that is found, if there is one
--     IsStepInFunction .. loaded a function result caller      a step by the FDE that the module
--         has for an address of the file, and its function
use Rattle.std.specs.Prelude.{◌≡◌, ℕ, Bool, List, Option, Some, None, Result, Ok, Err}
use Rattle.std.specs.Option.{option_map}
use Rattle.cfi_read_core.specs.declared.error.Error.{Error}
use Rattle.cfi_read_core.specs.ReadFunctions.{Position}
use Rattle.cfi_entry.specs.Augmentations.{is_trampoline, personality_of}
use Rattle.cfi_entry.specs.Fdes.{Fde, end_of}
use Rattle.cfi_expression.specs.declared.error.FrameError.{FrameError}
use Rattle.cfi_expression.specs.Frames.{Frame}
use Rattle.cfi_step.specs.declared.abi.Abi.{Abi}
use Rattle.cfi_step.specs.declared.function.Function.{Function}
use Rattle.cfi_step.specs.declared.module.LoadedModule.{LoadedModule}
use Rattle.cfi_step.specs.declared.step.Caller.{Caller}
use Rattle.cfi_step.specs.Modules.{IsStepByFde}

abbrev pub function_of : Fde → Function
function_of fde = record {
  start = fde.initial;
  end = end_of fde;
  lsda = fde.lsda;
  personality = option_map (λ p. p.1) (personality_of fde.cie.augmentation);
  return_address = fde.cie.return_address_register;
  is_signal_trampoline = is_trampoline fde.cie.augmentation;
  offset = fde.offset;
}

abbrev pub function_in : Result Fde Error → Option Function
function_in (Ok fde) = Some (function_of fde)
function_in (Err e) = None

module _ {R T : Type 0} (position : R → Position) (number : T → ℕ) (frame : Frame) (abi : Abi)
    (rule_limit stack_limit : Option ℕ) (copies_free : Bool) where
  abbrev pub IsStepInFunction :
      LoadedModule R → ℕ → Option Function → Result Caller FrameError → List (Option ℕ) → Type 0
  IsStepInFunction loaded a function result caller =
      (found : Result Fde Error)
      × IsStepByFde position number frame abi rule_limit stack_limit copies_free loaded a found
      result caller
      × (function ≡ function_in found)
