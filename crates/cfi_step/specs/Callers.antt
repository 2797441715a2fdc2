-- The registers of a frame's caller, by the rules of a row (DWARF 5 section 6.4.1).
--     cfa_of frame section rule      the canonical frame address
--     recovered frame section parts cfa k      the value that register k has in the caller; none
--         where it is lost or not known
--     return_address frame section parts cfa ra      the caller's pc, without the bits of its
--         signature; none in the outermost frame
--     AreRecovered frame section parts cfa count caller      the values of the registers below
--         `count`
use Rattle.std.specs.Prelude.{◌≡◌, ℕ, ◌<◌, ◌==◌, Bool, true, false, List, Option, Some, None}
use Rattle.std.specs.Prelude.{Result, Ok, Err, slice_index_or, bit_and, if◌then◌else◌}
use Rattle.std.specs.FinMap as map
use Rattle.std.specs.Int.{w64, bit_not}
use Rattle.cfi_read_core.specs.declared.common.Register.{Register}
use Rattle.cfi_read_core.specs.declared.error.Error.{Error}
use Rattle.cfi_read_core.specs.ReadFunctions.{Position, Extent}
use Rattle.cfi_read_core.specs.ReaderCalls.{read_at}
use Rattle.cfi_read_core.specs.declared.instruction.UnwindExpression.{UnwindExpression}
use Rattle.cfi_read_core.specs.ExpressionPlaces.{expression_bytes}
use Rattle.cfi_read_core.specs.MappedInstructions.{map_expression}
use Rattle.cfi_state.specs.declared.table.rules.CfaRule.{CfaRule}
use Rattle.cfi_state.specs.declared.table.rules.CfaRule.TheVariants as cfa
use Rattle.cfi_state.specs.declared.table.rules.RegisterRule.{RegisterRule}
use Rattle.cfi_state.specs.declared.table.rules.RegisterRule.TheVariants as rule
use Rattle.cfi_state.specs.Machine.{Parts}
use Rattle.cfi_expression.specs.declared.error.FrameError.{FrameError}
use Rattle.cfi_expression.specs.declared.error.FrameError.TheVariants.{Unreadable, UnknownRegister}
use Rattle.cfi_expression.specs.declared.error.FrameError.TheVariants.{ArchitecturalRule}
use Rattle.cfi_expression.specs.Arithmetic.{displaced}
use Rattle.cfi_expression.specs.Frames.{Frame, known, register_in, number_at}
use Rattle.cfi_expression.specs.Evaluation.{value_of}
use Rattle.cfi_read_core.specs.ReaderCalls.{map_ok}
use Rattle.cfi_step.specs.declared.abi.Abi.{Abi}

abbrev pub on_ok :
    {A B : Type 0} → (A → Result B FrameError) → Result A FrameError → Result B FrameError
on_ok next (Ok x) = next x
on_ok next (Err e) = Err e

-- none where it is lost or not known, and where what it is made of can't be read
abbrev pub found_value : Result (Option ℕ) FrameError → Option ℕ
found_value (Ok value) = value
found_value (Err e) = None

abbrev pub read_part : Position → Extent → Position
read_part section extent =
    record { source = record section.source { last = extent.last }; place = extent.first }

-- what is saved at an address
abbrev pub saved_at : Frame → ℕ → Result (Option ℕ) FrameError
saved_at frame a = map_ok Some (number_at frame a frame.size)

-- AArch64's pseudo-register 34, RA_SIGN_STATE, is 1 where the return address is signed
abbrev pub is_signed : {T : Type 0} → Option (RegisterRule T) → Bool
is_signed (Some (rule.Constant n)) = n == 1
is_signed _ = false

-- an address without the bits of its signature, where it has one
abbrev pub unsigned : ℕ → Bool → ℕ → ℕ
unsigned mask true a = bit_and a (bit_not w64 mask)
unsigned mask false a = a

module _ (frame : Frame) (section : Position) (abi : Abi) where
  -- ---- expressions

  abbrev pub value_at : Option ℕ → Result Extent Error → Result ℕ FrameError
  value_at initial (Ok extent) =
      value_of frame (read_part section extent) initial abi.max_iterations
  value_at initial (Err e) = Err (Unreadable e)

  -- the value of an expression whose bytes are in the section
  abbrev pub expression_value : UnwindExpression ℕ → Option ℕ → Result ℕ FrameError
  expression_value e initial = value_at initial (read_at section (expression_bytes e))

  module _ {T : Type 0} (number : T → ℕ) where
    -- ---- the CFA: a register plus an offset, or the value of an expression, which finds nothing
    --     on the stack (section 6.4.2.2)

    abbrev pub cfa_of : CfaRule T → Result ℕ FrameError
    cfa_of (cfa.RegisterAndOffset r offset) =
        on_ok (λ value. Ok (displaced frame.size value offset)) (register_in frame r)
    cfa_of (cfa.Expression e) = expression_value (map_expression number e) None

    -- ---- registers (sections 6.4.1 and 6.4.2.3): an expression finds the CFA on the stack

    abbrev pub by_rule : ℕ → ℕ → RegisterRule T → Result (Option ℕ) FrameError
    by_rule the_cfa k rule.Undefined = Ok None
    by_rule the_cfa k rule.SameValue = Ok (known frame.registers k)
    by_rule the_cfa k (rule.Offset n) = saved_at frame (displaced frame.size the_cfa n)
    by_rule the_cfa k (rule.ValOffset n) = Ok (Some (displaced frame.size the_cfa n))
    by_rule the_cfa k (rule.Register r) = Ok (known frame.registers r.0)
    by_rule the_cfa k (rule.Expression e) =
        on_ok (saved_at frame) (expression_value (map_expression number e) (Some the_cfa))
    by_rule the_cfa k (rule.ValExpression e) =
        map_ok Some (expression_value (map_expression number e) (Some the_cfa))
    by_rule the_cfa k rule.Architectural = Err ArchitecturalRule
    by_rule the_cfa k (rule.Constant n) = Ok (Some n)

    -- A register without a rule keeps its value, and the stack pointer of the caller is the CFA.
    -- The standard calls it undefined, if the ABI says nothing else (section 6.4.1): ABIs have
    -- calls preserve some registers, and debuggers show the others so too. A caller's value of a
    -- register that calls needn't preserve may then be an older one.
    abbrev pub without_rule : ℕ → ℕ → Result (Option ℕ) FrameError
    without_rule the_cfa k =
        if k == abi.stack_pointer.0 then Ok (Some the_cfa) else Ok (known frame.registers k)

    abbrev pub recovered_by : ℕ → ℕ → Option (RegisterRule T) → Result (Option ℕ) FrameError
    recovered_by the_cfa k None = without_rule the_cfa k
    recovered_by the_cfa k (Some r) = by_rule the_cfa k r

    abbrev pub recovered : Parts T → ℕ → ℕ → Result (Option ℕ) FrameError
    recovered parts the_cfa k = recovered_by the_cfa k (map.get parts.rules k)

    -- ---- the return address

    abbrev pub pc_of : Bool → Register → Option ℕ → Result (Option ℕ) FrameError
    pc_of signed ra (Some a) = Ok (Some (unsigned abi.signature_mask signed a))
    pc_of signed ra None = Err (UnknownRegister ra)

    -- an undefined return address is that of the outermost frame (section 6.4.4)
    abbrev pub return_by :
        Parts T → ℕ → Register → Option (RegisterRule T) → Result (Option ℕ) FrameError
    return_by parts the_cfa ra (Some rule.Undefined) = Ok None
    return_by parts the_cfa ra r =
        on_ok (pc_of (is_signed (map.get parts.rules 34)) ra) (recovered_by the_cfa ra.0 r)

    abbrev pub return_address : Parts T → ℕ → Register → Result (Option ℕ) FrameError
    return_address parts the_cfa ra = return_by parts the_cfa ra (map.get parts.rules ra.0)

    -- ---- all registers

    -- the registers below `count`
    pub record AreRecovered (parts : Parts T) (the_cfa count : ℕ) (caller : List (Option ℕ)) : Type
        0 where
      pub each :
          (k : ℕ) → k < count →
          slice_index_or caller k None ≡ found_value (recovered parts the_cfa k)
