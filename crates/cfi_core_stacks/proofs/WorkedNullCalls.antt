-- A call of the address 0, worked out from the definitions alone.
use Rattle.std.proofs.Common.{◌≡◌, ◌==◌, ◌++◌, ℕ, true, false, List, [], ◌∷◌, map, Option, Some, None, Ok, Err, refl}
use Rattle.std.specs.Prelude.{if◌then◌else◌}
use Rattle.std.specs.List.{range_with_len}
use Rattle.cfi_expression.specs.declared.error.FrameError.TheVariants.{UnknownRegister, UnreadableMemory}
use Rattle.cfi_processes.specs.declared.registers.SampleMachine.TheVariants.{X86_64, AArch64}
use Rattle.cfi_core_stacks.specs.NullSteps.{caller_of, caller_registers, is_null_call}

-- the return address that a call of x86-64 pushed
abbrev memory : ℕ → ℕ → Option ℕ
memory a size = if a == 0x6ff8 then Some 0x4000c7 else None

-- those with the numbers of DWARF's: rsp is 7
abbrev of_x86_64 : List (Option ℕ)
of_x86_64 = map (λ k. Some k) (range_with_len 0 7) ++ Some 0x6ff8 ∷ Some 8 ∷ []

-- x30 and sp
abbrev of_aarch64 : List (Option ℕ)
of_aarch64 = map (λ k. Some k) (range_with_len 0 30) ++ Some 0x4000c8 ∷ Some 0x7000 ∷ []

innermost : is_null_call (record { pc = 0; is_interrupted = true; callee_cfa = None }) ≡ true
innermost = refl

elsewhere : is_null_call (record { pc = 1; is_interrupted = true; callee_cfa = None }) ≡ false
elsewhere = refl

called : is_null_call (record { pc = 0; is_interrupted = true; callee_cfa = Some 0x7000 }) ≡ false
called = refl

on_x86_64 : caller_of X86_64 memory of_x86_64 ≡ Ok (record { cfa = 0x7000; pc = Some 0x4000c7; is_interrupted = false; args_size = 0 })
on_x86_64 = refl

its_registers : caller_registers X86_64 of_x86_64 (caller_of X86_64 memory of_x86_64) 9 [] ≡ map (λ k. Some k) (range_with_len 0 7) ++ Some 0x7000 ∷ Some 8 ∷ []
its_registers = refl

on_aarch64 : caller_of AArch64 memory of_aarch64 ≡ Ok (record { cfa = 0x7000; pc = Some 0x4000c8; is_interrupted = false; args_size = 0 })
on_aarch64 = refl

not_there : caller_of X86_64 memory (map (λ k. Some k) (range_with_len 0 9)) ≡ Err (UnreadableMemory 7)
not_there = refl

unknown : caller_of AArch64 memory [] ≡ Err (UnknownRegister (record { 0 = 31 }))
unknown = refl
