-- The registers of a thread in a core file: numbers of eight bytes in the order of the kernel's
-- structures (struct user_regs_struct of x86-64; struct user_pt_regs of AArch64).
--     registers_size machine      how many bytes they have
--     core_place machine k      the place among them of the register that has DWARF's number k
use Rattle.std.specs.Prelude.{ℕ, ◌*◌, List, [], ◌∷◌, length, codes, nat_lt, Option, Some, None}
use Rattle.std.specs.Prelude.{if◌then◌else◌}
use Rattle.std.specs.List.{slice_get}
use Rattle.std.specs.Option.{option_and_then}
use Rattle.cfi_processes.specs.declared.registers.SampleMachine.{SampleMachine}
use Rattle.cfi_processes.specs.declared.registers.SampleMachine.TheVariants.{X86_64, AArch64}
use Rattle.cfi_processes.specs.Registers.{place_of_name, x86_64_by_dwarf}

-- the registers of x86-64 in their order
abbrev pub x86_64_in_cores : List (List ℕ)
x86_64_in_cores =
    codes "R15" ∷ codes "R14" ∷ codes "R13" ∷ codes "R12" ∷ codes "BP" ∷ codes "BX" ∷ codes "R11"
    ∷ codes "R10" ∷ codes "R9" ∷ codes "R8" ∷ codes "AX" ∷ codes "CX" ∷ codes "DX" ∷ codes "SI"
    ∷ codes "DI" ∷ codes "ORIG_AX" ∷ codes "IP" ∷ codes "CS" ∷ codes "FLAGS" ∷ codes "SP"
    ∷ codes "SS" ∷ codes "FS_BASE" ∷ codes "GS_BASE" ∷ codes "DS" ∷ codes "ES" ∷ codes "FS"
    ∷ codes "GS" ∷ []

-- those of AArch64 are x0 to x30, the stack pointer, the pc and the state of the processor
abbrev pub registers_size : SampleMachine → ℕ
registers_size X86_64 = 8 * length x86_64_in_cores
registers_size AArch64 = 8 * 34

unfoldable pub core_place_x86_64 : ℕ → Option ℕ
core_place_x86_64 k = option_and_then (place_of_name x86_64_in_cores) (slice_get x86_64_by_dwarf k)

-- on AArch64 x0 to x30, the stack pointer and the pc have the numbers of their places
abbrev pub core_place : SampleMachine → ℕ → Option ℕ
core_place X86_64 k = core_place_x86_64 k
core_place AArch64 k = if nat_lt k 33 then Some k else None
