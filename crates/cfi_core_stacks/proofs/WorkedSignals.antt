-- A signal handler of AArch64 that returns, worked out from the definitions alone: the places of registers are those of the kernel's struct rt_sigframe.
use Rattle.std.proofs.Common.{◌≡◌, ◌==◌, ◌+◌, ◌++◌, ℕ, true, false, List, [], ◌∷◌, map, Option, Some, None, Ok, Err, refl}
use Rattle.std.specs.Prelude.{if◌then◌else◌}
use Rattle.std.specs.List.{range_with_len}
use Rattle.cfi_expression.specs.declared.error.FrameError.TheVariants.{UnknownRegister, UnreadableMemory}
use Rattle.cfi_processes.specs.declared.registers.SampleMachine.TheVariants.{X86_64, AArch64}
use Rattle.cfi_core_stacks.specs.SignalSteps.{interrupted, is_signal_trampoline, saved_in}

-- the two instructions at 0xfff0, and a frame at 0x8000, where x0 is 7, the stack pointer 0x9000 and the pc 0x400148; x29, in which calls keep the frame pointer, is at 0x8000 + 544
abbrev memory : ℕ → ℕ → Option ℕ
memory a size =
    if a == 0xfff0 then Some 0xd4000001d2801168
    else if a == 0x8000 + 312 then Some 7
    else if a == 0x8000 + 544 then Some 0x9010
    else if a == 0x8000 + 560 then Some 0x9000
    else if a == 0x8000 + 568 then Some 0x400148
    else None

-- the stack pointer is register 31
abbrev registers : ℕ → List (Option ℕ)
registers sp = map (λ k. None) (range_with_len 0 31) ++ Some sp ∷ []

there : is_signal_trampoline AArch64 memory 0xfff0 ≡ true
there = refl

not_behind : is_signal_trampoline AArch64 memory 0xfff4 ≡ false
not_behind = refl

not_x86_64 : is_signal_trampoline X86_64 memory 0xfff0 ≡ false
not_x86_64 = refl

caller : interrupted memory (registers 0x8000) ≡ Ok (record { cfa = 0x8130; pc = Some 0x400148; is_interrupted = true; args_size = 0 })
caller = refl

x0 : saved_in memory 0x8130 0 ≡ Some 7
x0 = refl

x29 : saved_in memory 0x8130 29 ≡ Some 0x9010
x29 = refl

stack_pointer : saved_in memory 0x8130 31 ≡ Some 0x9000
stack_pointer = refl

no_other : saved_in memory 0x8130 33 ≡ None
no_other = refl

-- a frame that the memory doesn't have, and one whose place isn't known
cut : interrupted memory (registers 0x8008) ≡ Err (UnreadableMemory 0x8240)
cut = refl

unknown : interrupted memory [] ≡ Err (UnknownRegister (record { 0 = 31 }))
unknown = refl
