-- The value of a DWARF expression in a frame (DWARF 5 section 2.5.1). The entries of the stack are
-- as wide as an address.
--     effect frame o      what an operation does to the stack
--     step frame expression place      what the operation at the place does, and the place after it
--     value_of frame expression initial count      the value, if at most `count` operations are
--         done
use Rattle.std.specs.Prelude.{ℕ, zero, suc, ◌+◌, ◌-◌, ℤ, Bool, true, false, nat_le, ◌==◌, List, []}
use Rattle.std.specs.Prelude.{◌∷◌, Option, Some, None, Result, Ok, Err, ok_or, if◌then◌else◌}
use Rattle.std.specs.Int.{is_negative}
use Rattle.std.specs.Int.RustNames.{unsigned_abs}
use Rattle.cfi_read_core.specs.declared.error.Error.{Error}
use Rattle.cfi_read_core.specs.ReadFunctions.{Position}
use Rattle.cfi_expression.specs.declared.error.FrameError.{FrameError}
use Rattle.cfi_expression.specs.declared.error.FrameError.TheVariants.{Unreadable}
use Rattle.cfi_expression.specs.declared.error.FrameError.TheVariants.{UnsupportedOperation}
use Rattle.cfi_expression.specs.declared.error.FrameError.TheVariants.{BadBranchTarget}
use Rattle.cfi_expression.specs.declared.error.FrameError.TheVariants.{TooManyIterations}
use Rattle.cfi_expression.specs.declared.operation.StackOperation.{StackOperation}
use Rattle.cfi_expression.specs.declared.operation.StackOperation.TheVariants.{Constant}
use Rattle.cfi_expression.specs.declared.operation.StackOperation.TheVariants.{RegisterOffset, Pick}
use Rattle.cfi_expression.specs.declared.operation.StackOperation.TheVariants.{Discard, Swap}
use Rattle.cfi_expression.specs.declared.operation.StackOperation.TheVariants.{Rotate, Dereference}
use Rattle.cfi_expression.specs.declared.operation.StackOperation.TheVariants.{Unary, Binary, Nop}
use Rattle.cfi_expression.specs.declared.operation.StackOperation.TheVariants.{Unsupported}
use Rattle.cfi_expression.specs.declared.operation.Operation.{Operation}
use Rattle.cfi_expression.specs.declared.operation.Operation.TheVariants.{Stack, Skip, Bra}
use Rattle.cfi_expression.specs.Frames.{Frame, number_at, register_in}
use Rattle.cfi_expression.specs.Operations.{operation}
use Rattle.cfi_expression.specs.Stacks.{Act, ◌>>=◌, ◌>>◌, of_result, push, pop, pick}
use Rattle.cfi_expression.specs.Arithmetic.{displaced, low, one_of, two_of}

-- ---- entries that change places (section 2.5.1.3)

abbrev pub swap : Act Unit
swap = pop >>= λ top. pop >>= λ second. push top >> push second

-- the top entry becomes the third
abbrev pub rotate : Act Unit
rotate = pop >>= λ top. pop >>= λ second. pop >>= λ third. push top >> push third >> push second

-- a place, where it is inside
abbrev pub some_if : Bool → ℕ → Option ℕ
some_if inside place = if inside then Some place else None

module _ (expression : Position) where
  -- ---- jumps (section 2.5.1.5): forward or backward from the end of the operation, within the
  --     expression or to its end

  abbrev pub place_moved : ℕ → Bool → ℕ → Option ℕ
  place_moved place true distance =
      some_if (nat_le (expression.place + distance) place) (place - distance)
  place_moved place false distance =
      some_if (nat_le distance (expression.source.last - place)) (place + distance)

  abbrev pub jump_target : ℕ → ℤ → Result ℕ FrameError
  jump_target place d =
      ok_or (place_moved place (is_negative d) (unsigned_abs d)) (BadBranchTarget d)

module _ (frame : Frame) where
  -- ---- operations on the stack (sections 2.5.1.1 to 2.5.1.4)

  -- a number is pushed with its low-order bits
  abbrev pub push_low : ℕ → Act Unit
  push_low n = push (low frame.size n)

  abbrev pub effect : StackOperation → Act Unit
  effect (Constant n) = push_low n
  effect (RegisterOffset r offset) =
      of_result (register_in frame r) >>= λ value. push (displaced frame.size value offset)
  effect (Pick index) = (λ stack. of_result (pick stack index) stack) >>= push
  effect Discard = pop >>= λ top. of_result (Ok tt)
  effect Swap = swap
  effect Rotate = rotate
  effect (Dereference size) = pop >>= λ a. of_result (number_at frame a size) >>= push_low
  effect (Unary o) = pop >>= λ top. push (one_of frame.size o top)
  effect (Binary o) =
      pop >>= λ top. pop >>= λ second. of_result (two_of frame.size o second top) >>= push
  effect Nop = of_result (Ok tt)
  effect (Unsupported opcode) = of_result (Err (UnsupportedOperation opcode))

  module _ (expression : Position) where
    -- ---- one operation, and the place after it

    abbrev pub obey : ℕ → Operation → Act ℕ
    obey place (Stack o) = effect o >> of_result (Ok place)
    obey place (Skip d) = of_result (jump_target expression place d)
    obey place (Bra d) =
        pop >>= λ top. of_result (if top == 0 then Ok place else jump_target expression place d)

    abbrev pub obey_read : ℕ → Result Operation Error → Act ℕ
    obey_read place (Ok o) = obey place o
    obey_read place (Err e) = of_result (Err (Unreadable e))

    abbrev pub step : ℕ → Act ℕ
    step place =
        let read = operation frame.size expression.source place in
        obey_read read.place read.value

    -- ---- the operations in order, up to the end of the expression

    abbrev pub is_end : ℕ → Bool
    is_end place = (expression.source.last - place) == 0

    -- the value is the entry on top at the end
    unfoldable pub run : ℕ → ℕ → Act ℕ
    run zero place = if is_end place then pop else of_result (Err TooManyIterations)
    run (suc count) place = if is_end place then pop else (step place >>= run count)

    -- the stack holds one number at the beginning, or nothing
    abbrev pub initial_stack : Option ℕ → List ℕ
    initial_stack None = []
    initial_stack (Some n) = low frame.size n ∷ []

    abbrev pub value_of : Option ℕ → ℕ → Result ℕ FrameError
    value_of initial count = (run count expression.place (initial_stack initial)).value
