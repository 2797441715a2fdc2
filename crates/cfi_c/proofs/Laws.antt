-- The frames of cfi_unwind are those of cfi_step again and again: where the memory is one window, the bytes of the stack, a
-- step of cfi_step is one of the walk (IsStepInModule, of which IsWalkForC is made). A cache that is empty is right for all modules, and stays
-- right over steps whose modules have the call frames of the files whose numbers they have: each is the step of cfi_step (IsStepped).
use Rattle.std.proofs.Common.{◌≡◌, ◌∙◌, ℕ, Bool, List, [], ◌∷◌, Option, Some, None, refl, sym, ap, subst, true≢false}
use Rattle.cfi_expression.specs.Frames.{Frame}
use Rattle.cfi_step.specs.declared.abi.Abi.{Abi}
use Rattle.cfi_step.specs.declared.function_steps.FunctionStep.{FunctionStep}
use Rattle.cfi_step.specs.declared.packed_rows.PackedRow.{PackedRow}
use Rattle.cfi_step.specs.PackedRows.{AreVacant}
use Rattle.cfi_step.specs.Walks.{State, address_of}
use Rattle.cfi_c.specs.declared.memory.CfiMemory.{CfiMemory}
use Rattle.cfi_c.specs.declared.memory.CfiWindow.{CfiWindow}
use Rattle.cfi_c.specs.declared.module.CfiModule.{CfiModule}
use Rattle.cfi_c.specs.declared.stack.CfiStack.{CfiStack}
use Rattle.cfi_c.specs.CachedSteps.{HaveSameSections, IsCachedFor, StaysCachedFor}
use Rattle.std.specs.Option.{option_or}
use Rattle.cfi_c.specs.PassedMemories.{abi_in, number_in_memory, number_in_window, number_in_windows}
use Rattle.cfi_c.specs.PassedStacks.{stack_abi, passed_stack_memory}
use Rattle.cfi_c.specs.ModuleSteps.{IsStepInModule}
use Rattle.cfi_c.specs.ModuleSteps.{stack_frame}
use Rattle.cfi_c.specs.ModuleSteps.{IsStepByPassedFde}
use Rattle.cfi_c.specs.SteppedFrames.{IsPassedStep, frame_in}

abbrev pub window_of : CfiStack → CfiWindow
window_of stack = record { base = stack.base; bytes = stack.bytes }

-- the memory is the stack's bytes, under its ABI
abbrev pub IsOfStack : CfiMemory → CfiStack → Type 0
IsOfStack memory stack =
    (memory.windows.now ≡ window_of stack ∷ []) × (memory.big_endian ≡ stack.big_endian) × (memory.address_size ≡ stack.address_size) × (abi_in memory ≡ stack_abi stack)

first_alone : (o : Option ℕ) → option_or o None ≡ o
first_alone None = refl
first_alone (Some n) = refl

module _ (memory : CfiMemory) (stack : CfiStack) (is : IsOfStack memory stack) where
  same_number : (a size : ℕ) → number_in_memory memory a size ≡ passed_stack_memory stack a size
  same_number a size =
      ap (λ (b : Bool). number_in_windows b memory.windows.now a size) is.1
      ∙ (ap (λ (ws : List CfiWindow). number_in_windows stack.big_endian ws a size) is.0 ∙ first_alone (number_in_window stack.big_endian (window_of stack) a size))

  same_frame : (s : State) → frame_in memory s.registers ≡ stack_frame stack s
  same_frame s = λ i. record { registers = s.registers; memory = λ a size. same_number a size i; size = is.2 i }

  pub step_of_walk : (loaded : CfiModule) (s : State) (step : FunctionStep) (caller : List (Option ℕ))
      → IsPassedStep loaded memory (address_of s) s.registers step caller → IsStepInModule stack loaded s step.caller caller
  step_of_walk loaded s step caller made = (
    made.0,
    subst (λ (f : Frame). IsStepByPassedFde f (stack_abi stack) loaded (address_of s) made.0 step.caller caller) (same_frame s)
        (subst (λ (b : Abi). IsStepByPassedFde (frame_in memory s.registers) b loaded (address_of s) made.0 step.caller caller) is.3 made.1),
  )

-- ---- a cache of rows

pub empty_for_all : (size file : ℕ) (loaded : CfiModule) (rows : List PackedRow) → AreVacant rows → IsCachedFor size file loaded rows
empty_for_all size file loaded rows empty k d inside a holds = absurd (true≢false (sym holds.0 ∙ empty k d inside))

pub right_after_two : (size : ℕ) (one two other : ℕ) (first second another : CfiModule) (old next new : List PackedRow)
    → StaysCachedFor size one first old next → StaysCachedFor size two second next new → (one ≡ other → HaveSameSections size first another) → (two ≡ other → HaveSameSections size second another)
    → IsCachedFor size other another old → IsCachedFor size other another new
right_after_two size one two other first second another old next new keeps then alike alike_then right = then other another alike_then (keeps other another alike right)
