-- The names of registers in what is printed of a file.
use Rattle.std.specs.Prelude.{ℕ, Bool, true, false, ◌==◌, if◌then◌else◌}
use Rattle.cfi_elf.specs.ElfFiles.{File}
use Rattle.cfi_text.specs.declared.register_names.RegisterNames.{RegisterNames}
use Rattle.cfi_text.specs.declared.register_names.RegisterNames.TheVariants.{Numbers, X86_64}
use Rattle.cfi_text.specs.declared.register_names.RegisterNames.TheVariants.{I386, AArch64, Arm}
use Rattle.cfi_text.specs.declared.register_names.RegisterNames.TheVariants.{RiscV, S390x}
use Rattle.cfi_text.specs.declared.register_names.RegisterNames.TheVariants.{PowerPc64, Mips}
use Rattle.cfi_text.specs.declared.register_names.RegisterNames.TheVariants.{Sparc, M68k}

-- those of the machine: EM_SPARC is 2, EM_386 is 3, EM_68K is 4, EM_MIPS is 8, EM_SPARC32PLUS is
-- 18, EM_PPC64 is 21, EM_S390 is 22, EM_ARM is 40, EM_SPARCV9 is 43, EM_X86_64 is 62, EM_AARCH64 is
-- 183 and EM_RISCV is 243
abbrev pub register_names_of : ℕ → RegisterNames
register_names_of e_machine =
    if e_machine == 2 then Sparc
    else if e_machine == 3 then I386
    else if e_machine == 4 then M68k
    else if e_machine == 8 then Mips
    else if e_machine == 18 then Sparc
    else if e_machine == 21 then PowerPc64
    else if e_machine == 22 then S390x
    else if e_machine == 40 then Arm
    else if e_machine == 43 then Sparc
    else if e_machine == 62 then X86_64
    else if e_machine == 183 then AArch64
    else if e_machine == 243 then RiscV
    else Numbers

-- in a file: numbers where they are asked for
abbrev pub names_in : File → Bool → RegisterNames
names_in file true = Numbers
names_in file false = register_names_of file.header.kind.e_machine
