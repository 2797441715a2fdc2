-- Numbers of registers, a module where it is mapped, and the innermost frames of samples, by computation.
use lib.Count.{ones}
use Rattle.std.proofs.Common.{◌≡◌, ℕ, [], ◌∷◌, ◌++◌, List, map, codes, false, Some, None, Result, Ok, Err, refl}
use Rattle.std.specs.Option.{option_map}
use Rattle.cfi_read_core.specs.declared.common.Vendor.TheVariants.{Default}
use Rattle.cfi_read_core.specs.declared.endianity.RunTimeEndian.TheVariants.{Little}
use Rattle.cfi_read_core.specs.Numbers.{unsigned}
use Rattle.cfi_elf.specs.Modular.{minus}
use Rattle.gimli_cfi.specs.SectionSources.{GivenSection, given_header, given_section}
use Rattle.gimli_cfi.specs.declared.source.SectionKind.TheVariants.{EhFrame}
use Rattle.cfi_object.specs.CallFrames.{bases_at}
use Rattle.cfi_step.specs.Modules.{address_in_file}
use Rattle.cfi_processes.specs.declared.registers.SampleMachine.TheVariants.{X86_64, AArch64}
use Rattle.cfi_processes.specs.declared.sample_stack.NoFrames.{NoFrames}
use Rattle.cfi_processes.specs.declared.sample_stack.NoFrames.TheVariants.{NoRegisters, OtherAbi, NoProgramCounter, NoStackPointer}
use Rattle.cfi_processes.specs.Modules.{FileModule, loaded_module}
use Rattle.cfi_processes.specs.Registers.{machine_named, perf_number, perf_number_x86_64}
use Rattle.cfi_processes.specs.SampleStacks.{Beginning, beginning_of}
use Rattle.cfi_perf.specs.Samples.{UserState}

-- ---- registers

-- rax, rdx, rcx and rbx; rbp and rsp; r8 and r15; the return address, and a number that has no register
of_x86_64 : map (perf_number X86_64) (0 ∷ 1 ∷ 2 ∷ 3 ∷ 6 ∷ 7 ∷ 8 ∷ 15 ∷ 16 ∷ 17 ∷ [])
    ≡ Some 0 ∷ Some 3 ∷ Some 2 ∷ Some 1 ∷ Some 6 ∷ Some 7 ∷ Some 16 ∷ Some 23 ∷ Some 8 ∷ None ∷ []
unfolding perf_number_x86_64
of_x86_64 = refl

-- x30, sp, pc, and a number that has no register
of_aarch64 : map (perf_number AArch64) (0 ∷ 30 ∷ 31 ∷ 32 ∷ 33 ∷ []) ≡ Some 0 ∷ Some 30 ∷ Some 31 ∷ Some 32 ∷ None ∷ []
of_aarch64 = refl

names : map machine_named (codes "x86_64" ∷ codes "aarch64" ∷ codes "aarch64_be" ∷ codes "i686" ∷ [] ∷ []) ≡ Some X86_64 ∷ Some AArch64 ∷ None ∷ None ∷ None ∷ []
names = refl

-- ---- modules

-- .eh_frame at 0x2040, its header at 0x2010 and .text at 0x1000
abbrev frames : GivenSection
frames = record {
  kind = EhFrame;
  endian = Little;
  address_size = 8;
  vendor = Default;
  bases = bases_at (Some 0x2040) (Some 0x1000) None (Some 0x2010);
  bytes = 1 ∷ 2 ∷ [];
  header = Some (3 ∷ []);
}

-- file 3 with these, mapped 0x7f0000000000 higher
abbrev mapped_higher : FileModule
mapped_higher =
    loaded_module 3 (given_section frames) (given_header frames) None None
    (record { start = 0x7f0000001000; end = 0x7f0000002000; offset = 0x1000; object = Some 3 }) 0x7f0000000000

its_bases : mapped_higher.section.bases ≡ record { section = Some 0x2040; text = Some 0x1000; data_base = None }
its_bases = refl

bases_of_its_header : option_map (λ header. header.bases) mapped_higher.header
    ≡ Some (record { section = Some 0x2010; text = Some 0x1000; data_base = Some 0x2010 })
bases_of_its_header = refl

its_code : (mapped_higher.start ≡ 0x7f0000001000) × (mapped_higher.end ≡ 0x7f0000002000)
its_code = (refl, refl)

-- an address of its code, and that which the file has for it
in_its_file : (mapped_higher.file ≡ 3) × (address_in_file mapped_higher.bias 0x7f0000001234 ≡ 0x1234)
in_its_file = (refl, refl)

-- mapped below the address that the file has
mapped_lower : address_in_file (minus 0x1000 0x401000) 0x1234 ≡ 0x401234
mapped_lower = refl

-- ---- the innermost frame

-- the numbers of bytes, the least significant first: 0x7ffe and 0x401136
abbrev stack_pointer : List ℕ
stack_pointer = 0xfe ∷ 0x7f ∷ 0 ∷ 0 ∷ 0 ∷ 0 ∷ 0 ∷ 0 ∷ []

abbrev pc : List ℕ
pc = 0x36 ∷ 0x11 ∷ 0x40 ∷ 0 ∷ 0 ∷ 0 ∷ 0 ∷ 0 ∷ []

-- SP is perf's register 7 of x86-64, and IP 8
abbrev sampled : ℕ → ℕ → List ℕ → UserState
sampled abi mask values = record { registers = Some (record { abi = abi; mask = mask; values = values; big_endian = false }); stack = [] }

abbrev begins : UserState → Result Beginning NoFrames
begins user = beginning_of X86_64 user

with_both : begins (sampled 2 0x180 (stack_pointer ++ pc)) ≡ Ok (record {
  innermost = record { pc = 0x401136; stack_pointer = 0x7ffe };
  registers = None ∷ None ∷ None ∷ None ∷ None ∷ None ∷ None ∷ Some 0x7ffe ∷ None ∷ None ∷ None ∷ None ∷ None ∷ None ∷ None ∷ None ∷ Some 0x401136 ∷ [];
})
unfolding unsigned perf_number_x86_64 ones
with_both = refl

of_32_bits : begins (sampled 1 0x180 (stack_pointer ++ pc)) ≡ Err (OtherAbi 1)
of_32_bits = refl

without_pc : begins (sampled 2 0x80 stack_pointer) ≡ Err NoProgramCounter
unfolding unsigned perf_number_x86_64
without_pc = refl

without_stack_pointer : begins (sampled 2 0x100 pc) ≡ Err NoStackPointer
unfolding unsigned perf_number_x86_64 ones
without_stack_pointer = refl

of_the_kernel : begins (record { registers = None; stack = [] }) ≡ Err NoRegisters
of_the_kernel = refl
