-- Expressions worked out, by computation.
use Rattle.std.proofs.Common.{◌≡◌, ℕ, ◌-◌, ◌^◌, false, List, [], ◌∷◌, map, Option, Some, None, Result, Ok, Err, pos, negsuc, refl}
use Rattle.std.specs.Prelude.{◌==◌, if◌then◌else◌}
use Rattle.cfi_read_core.specs.declared.error.Error.TheVariants.{UnexpectedEof}
use Rattle.cfi_read_core.specs.ReaderCalls.{all_of}
use Rattle.cfi_read_core.specs.Numbers.{unsigned, signed, leb128_bytes, unsigned_leb128, signed_leb128, register_leb128}
use Rattle.cfi_read_core.specs.Addresses.{address}
use Rattle.cfi_expression.specs.declared.error.FrameError.{FrameError}
use Rattle.cfi_expression.specs.declared.error.FrameError.TheVariants.{Unreadable, UnsupportedOperation, UnsupportedSize, UnknownRegister, UnreadableMemory, NotEnoughStackItems, DivisionByZero, BadBranchTarget, TooManyIterations}
use Rattle.cfi_expression.specs.declared.operation.StackOperation.{StackOperation}
use Rattle.cfi_expression.specs.declared.operation.StackOperation.TheVariants.{Pick, Discard, Swap, Rotate}
use Rattle.cfi_expression.specs.Frames.{Frame}
use Rattle.cfi_expression.specs.Operations.{by_comparison, by_logic, by_arithmetic, by_stack, register_offset, by_long_constant, by_constant, stack_operation, operation}
use Rattle.cfi_expression.specs.Evaluation.{effect, run, value_of}

-- r7 is 1000 and r16 is 0x401b; at the address 1000 stands a number of one byte, or of eight
abbrev registers : List (Option ℕ)
registers = None ∷ None ∷ None ∷ None ∷ None ∷ None ∷ None ∷ Some 1000 ∷ None ∷ None ∷ None ∷ None ∷ None ∷ None ∷ None ∷ None ∷ Some 0x401b ∷ []

abbrev memory : ℕ → ℕ → Option ℕ
memory a size = if a == 1000 then (if size == 1 then Some 0x88 else if size == 8 then Some 0x1122334455667788 else None) else None

abbrev frame : ℕ → Frame
frame size = record { registers = registers; memory = memory; size = size }

-- the examples of section D.1.2: a stack of 17, 29 and 1000
abbrev after : StackOperation → List ℕ
after o = (effect (frame 8) o (17 ∷ 29 ∷ 1000 ∷ [])).stack

stack_operations : map after (Pick 0 ∷ Discard ∷ Pick 2 ∷ Pick 1 ∷ Swap ∷ Rotate ∷ [])
    ≡ (17 ∷ 17 ∷ 29 ∷ 1000 ∷ []) ∷ (29 ∷ 1000 ∷ []) ∷ (1000 ∷ 17 ∷ 29 ∷ 1000 ∷ []) ∷ (29 ∷ 17 ∷ 29 ∷ 1000 ∷ []) ∷ (29 ∷ 17 ∷ 1000 ∷ []) ∷ (29 ∷ 1000 ∷ 17 ∷ []) ∷ []
stack_operations = refl

-- ---- programs, with addresses of so many bytes, and at most forty operations

abbrev value : ℕ → List ℕ → Result ℕ FrameError
value size bytes = value_of (frame size) (all_of bytes false 0xffffffffffffffff) None 40

unfoldable computing : ℕ
unfolding unsigned signed leb128_bytes unsigned_leb128 signed_leb128 register_leb128 address by_comparison by_logic by_arithmetic by_stack register_offset by_long_constant by_constant stack_operation operation run
computing = 0

-- the CFA in a procedure linkage table: r7 + 8, and 8 more where r16 is at the 11th byte of 16 or later
linkage_table : value 8 (0x77 ∷ 0x08 ∷ 0x80 ∷ 0x00 ∷ 0x3f ∷ 0x1a ∷ 0x3b ∷ 0x2a ∷ 0x33 ∷ 0x24 ∷ 0x22 ∷ []) ≡ Ok 1016
unfolding computing
linkage_table = refl

-- const1s -1; const2u 0x1234 where an entry has a byte; addr; consts -2, constu 128; bregx 7, -8
constants : map (λ (p : ℕ × List ℕ). value p.0 p.1)
    ((8, 0x09 ∷ 0xff ∷ []) ∷ (4, 0x09 ∷ 0xff ∷ []) ∷ (1, 0x0a ∷ 0x34 ∷ 0x12 ∷ []) ∷ (2, 0x03 ∷ 0x34 ∷ 0x12 ∷ []) ∷ (8, 0x11 ∷ 0x7e ∷ []) ∷ (8, 0x10 ∷ 0x80 ∷ 0x01 ∷ []) ∷ (8, 0x92 ∷ 0x07 ∷ 0x78 ∷ []) ∷ [])
    ≡ Ok (2 ^ 64 - 1) ∷ Ok (2 ^ 32 - 1) ∷ Ok 0x34 ∷ Ok 0x1234 ∷ Ok (2 ^ 64 - 2) ∷ Ok 128 ∷ Ok 992 ∷ []
unfolding computing
constants = refl

-- deref, deref_size 1 of r7
memory_reads : map (value 8) ((0x77 ∷ 0x00 ∷ 0x06 ∷ []) ∷ (0x77 ∷ 0x00 ∷ 0x94 ∷ 0x01 ∷ []) ∷ (0x77 ∷ 0x00 ∷ 0x94 ∷ 0x03 ∷ []) ∷ (0x31 ∷ 0x06 ∷ []) ∷ [])
    ≡ Ok 0x1122334455667788 ∷ Ok 0x88 ∷ Err (UnsupportedSize 3) ∷ Err (UnreadableMemory 1) ∷ []
unfolding computing
memory_reads = refl

-- -7 and 2: div rounds towards zero, minus, mul, plus; abs, neg and not of -7
arithmetic : map (value 4)
    ((0x09 ∷ 0xf9 ∷ 0x32 ∷ 0x1b ∷ []) ∷ (0x09 ∷ 0xf9 ∷ 0x32 ∷ 0x1c ∷ []) ∷ (0x09 ∷ 0xf9 ∷ 0x32 ∷ 0x1e ∷ []) ∷ (0x09 ∷ 0xf9 ∷ 0x32 ∷ 0x22 ∷ [])
    ∷ (0x09 ∷ 0xf9 ∷ 0x19 ∷ []) ∷ (0x09 ∷ 0xf9 ∷ 0x1f ∷ []) ∷ (0x09 ∷ 0xf9 ∷ 0x20 ∷ []) ∷ [])
    ≡ Ok (2 ^ 32 - 3) ∷ Ok (2 ^ 32 - 9) ∷ Ok (2 ^ 32 - 14) ∷ Ok (2 ^ 32 - 5) ∷ Ok 7 ∷ Ok 7 ∷ Ok 6 ∷ []
unfolding computing
arithmetic = refl

-- -16 by 2: shl, shr and shra, and shra by 200; 7 mod 4; 3 or 5, 3 xor 5; plus_uconst 200 where an entry has a byte
shifts_and_logic : map (λ (p : ℕ × List ℕ). value p.0 p.1)
    ((2, 0x09 ∷ 0xf0 ∷ 0x32 ∷ 0x24 ∷ []) ∷ (2, 0x09 ∷ 0xf0 ∷ 0x32 ∷ 0x25 ∷ []) ∷ (2, 0x09 ∷ 0xf0 ∷ 0x32 ∷ 0x26 ∷ []) ∷ (2, 0x09 ∷ 0xf0 ∷ 0x08 ∷ 0xc8 ∷ 0x26 ∷ [])
    ∷ (8, 0x37 ∷ 0x34 ∷ 0x1d ∷ []) ∷ (8, 0x33 ∷ 0x35 ∷ 0x21 ∷ []) ∷ (8, 0x33 ∷ 0x35 ∷ 0x27 ∷ []) ∷ (1, 0x08 ∷ 0x64 ∷ 0x23 ∷ 0xc8 ∷ 0x01 ∷ []) ∷ [])
    ≡ Ok 0xffc0 ∷ Ok 0x3ffc ∷ Ok 0xfffc ∷ Ok 0xffff ∷ Ok 3 ∷ Ok 7 ∷ Ok 6 ∷ Ok 44 ∷ []
unfolding computing
shifts_and_logic = refl

-- eq, ge, gt, le, lt, ne of -1 and 1
comparisons : map (λ opcode. value 8 (0x09 ∷ 0xff ∷ 0x31 ∷ opcode ∷ [])) (0x29 ∷ 0x2a ∷ 0x2b ∷ 0x2c ∷ 0x2d ∷ 0x2e ∷ []) ≡ Ok 0 ∷ Ok 0 ∷ Ok 0 ∷ Ok 1 ∷ Ok 1 ∷ Ok 1 ∷ []
unfolding computing
comparisons = refl

-- skip over a lit2; skip to the end; down from 5 to 0 by bra; skip in place without end; skip out of the expression, both ways
jumps : map (value 8)
    ((0x31 ∷ 0x2f ∷ 0x01 ∷ 0x00 ∷ 0x32 ∷ []) ∷ (0x31 ∷ 0x2f ∷ 0x00 ∷ 0x00 ∷ []) ∷ (0x35 ∷ 0x31 ∷ 0x1c ∷ 0x12 ∷ 0x28 ∷ 0xfa ∷ 0xff ∷ []) ∷ (0x2f ∷ 0xfd ∷ 0xff ∷ [])
    ∷ (0x2f ∷ 0x01 ∷ 0x00 ∷ []) ∷ (0x2f ∷ 0xfc ∷ 0xff ∷ []) ∷ [])
    ≡ Ok 1 ∷ Ok 1 ∷ Ok 0 ∷ Err TooManyIterations ∷ Err (BadBranchTarget (pos 1)) ∷ Err (BadBranchTarget (negsuc 3)) ∷ []
unfolding computing
jumps = refl

-- an empty expression; a read that ends too early; fbreg; breg0, whose value isn't known; a division by zero
errors : map (value 8) ([] ∷ (0x0a ∷ 0x01 ∷ []) ∷ (0x91 ∷ []) ∷ (0x70 ∷ 0x00 ∷ []) ∷ (0x31 ∷ 0x30 ∷ 0x1b ∷ []) ∷ [])
    ≡ Err NotEnoughStackItems ∷ Err (Unreadable (UnexpectedEof (record { 0 = 1 }))) ∷ Err (UnsupportedOperation 0x91) ∷ Err (UnknownRegister (record { 0 = 0 })) ∷ Err DivisionByZero ∷ []
unfolding computing
errors = refl
