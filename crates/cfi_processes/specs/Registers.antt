-- The registers of samples, under the numbers of two documents: perf's (asm/perf_regs.h of each
-- machine) and DWARF's (System V psABI of x86-64, figure 3.36; DWARF for the Arm 64-bit
-- Architecture, "DWARF register names").
--     machine_named architecture      the machine of a name of `uname -m`
--     perf_number machine k      perf's number of the register that has DWARF's number k
--     register_count, pc_number machine      how many registers have one, and DWARF's number of the
--         pc
--     machine_abi machine      what the ABI says of its frames
use Rattle.std.specs.Prelude.{ℕ, List, [], ◌∷◌, codes, nat_eq, nat_lt, position, Option, Some, None}
use Rattle.std.specs.Prelude.{if◌then◌else◌}
use Rattle.std.specs.Cmp.Lexicographic.{pointwise}
use Rattle.std.specs.List.{slice_get}
use Rattle.std.specs.Option.{option_and_then}
use Rattle.cfi_step.specs.declared.abi.Abi.{Abi}
use Rattle.cfi_processes.specs.declared.registers.SampleMachine.{SampleMachine}
use Rattle.cfi_processes.specs.declared.registers.SampleMachine.TheVariants.{X86_64, AArch64}

abbrev pub machine_named : List ℕ → Option SampleMachine
machine_named name =
    if pointwise nat_eq name (codes "x86_64") then Some X86_64
    else if pointwise nat_eq name (codes "aarch64") then Some AArch64
    else None

-- ---- numbers

-- r8 to r15
abbrev pub eight_more : List (List ℕ) → List (List ℕ)
eight_more others =
    codes "R8" ∷ codes "R9" ∷ codes "R10" ∷ codes "R11" ∷ codes "R12" ∷ codes "R13" ∷ codes "R14"
    ∷ codes "R15" ∷ others

-- the registers of x86-64 in the order of perf's numbers, by perf's names
abbrev pub x86_64_by_perf : List (List ℕ)
x86_64_by_perf =
    codes "AX" ∷ codes "BX" ∷ codes "CX" ∷ codes "DX" ∷ codes "SI" ∷ codes "DI" ∷ codes "BP"
    ∷ codes "SP"
    ∷ codes "IP" ∷ codes "FLAGS" ∷ codes "CS" ∷ codes "SS" ∷ codes "DS" ∷ codes "ES" ∷ codes "FS"
    ∷ codes "GS" ∷ eight_more []

-- the same in the order of DWARF's numbers, where 16 is the return address
abbrev pub x86_64_by_dwarf : List (List ℕ)
x86_64_by_dwarf =
    codes "AX" ∷ codes "DX" ∷ codes "CX" ∷ codes "BX" ∷ codes "SI" ∷ codes "DI" ∷ codes "BP"
    ∷ codes "SP" ∷ eight_more (codes "IP" ∷ [])

-- the place of a name among names
abbrev pub place_of_name : List (List ℕ) → List ℕ → Option ℕ
place_of_name names name = position (pointwise nat_eq name) names

-- perf's number of the register of x86-64 with a number of DWARF's
unfoldable pub perf_number_x86_64 : ℕ → Option ℕ
perf_number_x86_64 k = option_and_then (place_of_name x86_64_by_perf) (slice_get x86_64_by_dwarf k)

-- on AArch64 x0 to x30, the stack pointer and the pc have the same numbers in both
abbrev pub perf_number : SampleMachine → ℕ → Option ℕ
perf_number X86_64 k = perf_number_x86_64 k
perf_number AArch64 k = if nat_lt k 33 then Some k else None

abbrev pub register_count : SampleMachine → ℕ
register_count X86_64 = 17
register_count AArch64 = 33

abbrev pub pc_number : SampleMachine → ℕ
pc_number X86_64 = 16
pc_number AArch64 = 32

-- ---- frames

-- The stack pointer is rsp or sp. The signature of a return address of AArch64 may be in all bits
-- above the 48 of an address but bit 55 (Arm Architecture Reference Manual, "Pointer
-- authentication").
abbrev pub machine_abi : SampleMachine → Abi
machine_abi X86_64 =
    record { stack_pointer = record { 0 = 7 }; signature_mask = 0; max_iterations = 1000 }
machine_abi AArch64 = record {
  stack_pointer = record { 0 = 31 };
  signature_mask = 0xff7f000000000000;
  max_iterations = 1000;
}
