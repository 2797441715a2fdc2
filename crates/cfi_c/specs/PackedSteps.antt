-- The caller of one frame by a packed row, as C gets it. A packed row has no expressions, so it is
-- the caller for whatever bytes a section has.
--     IsCallerBy memory registers row caller      what a step returns by a row
--     AreOfCaller memory registers row cfa new      the registers of the caller
--     IsPackedStep memory registers row old new step      a step by a row, which writes registers
--     IsPlacedBy memory registers row old new old_caller caller end      what C gets of the caller
--     IsSteppedBy memory registers row old new function old_caller caller end      what C gets
--     IsSteppedByHeld .. file a rows ..      the same by one of these rows, that of an address of a
--         file
use Rattle.std.specs.Prelude.{◌≡◌, ℕ, ◌<◌, ◌^◌, Bool, List, length, map, Option, Some, None, Result}
use Rattle.std.specs.Prelude.{Ok, Err, IfOk, OnErr, bit_and}
use Rattle.std.specs.Int.{bit_not, w64}
use Rattle.std.specs.FinMap as map
use Rattle.std.specs.List.{Contains}
use Rattle.cfi_read_core.specs.declared.common.Register.{Register}
use Rattle.cfi_read_core.specs.ReadFunctions.{Position}
use Rattle.cfi_state.specs.Machine.{Parts}
use Rattle.cfi_state.specs.declared.table.rules.RegisterRule.{RegisterRule}
use Rattle.cfi_expression.specs.declared.error.FrameError.{FrameError}
use Rattle.cfi_expression.specs.declared.error.FrameError.TheVariants.{UnknownRegister}
use Rattle.cfi_expression.specs.Frames.{Frame}
use Rattle.cfi_read_core.specs.ReaderCalls.{map_ok}
use Rattle.cfi_step.specs.declared.packed_rows.PackedRow.{PackedRow}
use Rattle.cfi_step.specs.declared.step.Caller.{Caller}
use Rattle.cfi_step.specs.declared.packed_rules.SmallRule.{SmallRule}
use Rattle.cfi_step.specs.Callers.{AreRecovered, by_rule, found_value, is_signed, on_ok, pc_of}
use Rattle.cfi_step.specs.Callers.{return_address, return_by, saved_at, unsigned}
use Rattle.cfi_step.specs.Marks.{is_trampoline}
use Rattle.cfi_step.specs.PackedRows.{HoldsRow, function_packed, parts_packed}
use Rattle.cfi_step.specs.PackedRules.{register_numbered, rule_by}
use Rattle.cfi_step.specs.Steps.{caller_by}
use Rattle.cfi_c.specs.declared.function.CfiFunction.{CfiFunction}
use Rattle.cfi_c.specs.declared.memory.CfiMemory.{CfiMemory}
use Rattle.cfi_c.specs.declared.end.CfiEnd.{CfiEnd}
use Rattle.cfi_c.specs.declared.register.CfiValue.{CfiValue}
use Rattle.cfi_c.specs.declared.step.CfiCaller.{CfiCaller}
use Rattle.cfi_c.specs.PassedMemories.{abi_in}
use Rattle.cfi_c.specs.PassedRegisters.{AreValues, values_of}
use Rattle.cfi_c.specs.SteppedFrames.{caller_or, frame_in}
use Rattle.cfi_c.specs.WrittenFunctions.{written_function}
use Rattle.cfi_c.specs.Ends.{end_by}

-- ---- the frame

-- without these bits an address is as it is without its signature, where it has one
abbrev pub Clears : ℕ → Bool → ℕ → Type 0
Clears mask signed bits =
    (a : ℕ) → a < 2 ^ 64 → bit_and a (bit_not w64 bits) ≡ unsigned mask signed a

-- the pc that a register holds, if it is known, without its signature
abbrev pub IsPcOf : ℕ → Bool → Option ℕ → Register → Result (Option ℕ) FrameError → Type 0
IsPcOf mask signed (Some a) ra pc = pc ≡ Ok (Some (unsigned mask signed a))
IsPcOf mask signed None ra pc = pc ≡ Err (UnknownRegister ra)

module _ (memory : CfiMemory) (registers : List CfiValue) where
  -- the frame that C passes, with as many registers as it passes
  abbrev pub passed_frame : Frame
  passed_frame = frame_in memory (values_of registers)

  -- the pc by the rule of its register, where the row says with these bits that it is signed
  abbrev pub IsPcBy :
      ℕ → ℕ → ℕ → Option (RegisterRule ℕ) → Result (Option ℕ) FrameError → Type 0
  IsPcBy cfa ra bits given pc =
      (bytes : Position) (parts : Parts ℕ) →
      Clears memory.signature_mask (is_signed (map.get parts.rules 34)) bits → pc
      ≡ return_by passed_frame bytes (abi_in memory) (λ (n : ℕ). n) parts cfa
      (register_numbered ra) given

  module _ (row : PackedRow) where
    abbrev pub IsCallerBy : Result Caller FrameError → Type 0
    IsCallerBy caller =
        (bytes : Position) → caller
        ≡ caller_by passed_frame bytes (abi_in memory) (λ (n : ℕ). n)
        (register_numbered row.numbers.return_address) (is_trampoline row.numbers.marks)
        (parts_packed row)

    -- the same from the CFA on
    abbrev pub IsCallerFrom : ℕ → Result Caller FrameError → Type 0
    IsCallerFrom cfa caller =
        (bytes : Position) → caller
        ≡ map_ok
        (λ pc. record {
          cfa = cfa;
          pc = pc;
          is_interrupted = is_trampoline row.numbers.marks;
          args_size = (parts_packed row).args_size;
        })
        (return_address passed_frame bytes (abi_in memory) (λ (n : ℕ). n) (parts_packed row) cfa
        (register_numbered row.numbers.return_address))

    abbrev pub AreOfCaller : ℕ → List CfiValue → Type 0
    AreOfCaller cfa new =
        ((bytes : Position) → AreRecovered passed_frame bytes (abi_in memory) (λ (n : ℕ). n)
        (parts_packed row) cfa (length new) (values_of new))
        × AreValues (values_of new) new

    -- where no caller is found, nothing is written
    abbrev pub IsPackedStep :
        List CfiValue → List CfiValue → Result Caller FrameError → Type 0
    IsPackedStep old new step =
        IsCallerBy step × IfOk step (λ c. AreOfCaller c.cfa new) × OnErr step (new ≡ old)

    abbrev pub IsPlacedBy :
        List CfiValue → List CfiValue → CfiCaller → CfiCaller → CfiEnd → Type 0
    IsPlacedBy old new old_caller caller end =
        (step : Result Caller FrameError) × IsPackedStep old new step
        × (caller ≡ caller_or old_caller step)
        × (end ≡ end_by step)

    abbrev pub IsSteppedBy :
        List CfiValue → List CfiValue → CfiFunction → CfiCaller → CfiCaller → CfiEnd → Type 0
    IsSteppedBy old new function old_caller caller end =
        (step : Result Caller FrameError) × IsPackedStep old new step
        × (function ≡ written_function (Some (function_packed row)))
        × (caller ≡ caller_or old_caller step)
        × (end ≡ end_by step)

-- ---- what is read

module _ (memory : CfiMemory) where
  -- the pc that is saved at an address, without these bits
  abbrev pub IsSavedPc : ℕ → ℕ → Result (Option ℕ) FrameError → Type 0
  IsSavedPc a bits pc =
      (registers : List CfiValue) (bytes : Position) (signed : Bool) (ra : Register) →
      Clears memory.signature_mask signed bits → pc
      ≡ on_ok (pc_of (passed_frame memory registers) bytes (abi_in memory) (λ (n : ℕ). n) signed ra)
      (saved_at (passed_frame memory registers) a)

  -- the value that a register has in the caller, by its rule
  abbrev pub IsValueBy : ℕ → SmallRule → Option ℕ → Type 0
  IsValueBy cfa rule value =
      (registers : List CfiValue) (bytes : Position) (k : ℕ) → value
      ≡ found_value (by_rule (passed_frame memory registers) bytes (abi_in memory) (λ (n : ℕ). n)
      cfa k (rule_by rule))

-- ---- by a row that a cache holds

abbrev pub IsSteppedByHeld :
    CfiMemory → ℕ → ℕ → List PackedRow → List CfiValue → List CfiValue → List CfiValue →
    CfiFunction → CfiCaller → CfiCaller → CfiEnd → Type 0
IsSteppedByHeld memory file a rows registers old new function old_caller caller end =
    (row : PackedRow) × HoldsRow file a row × Contains rows row
    × IsSteppedBy memory registers row old new function old_caller caller end
