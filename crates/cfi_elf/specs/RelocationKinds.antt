-- What the types of relocations do that stand in sections of call frames, by machine.
--     kinds_of e_machine      the types of a machine: the number of each, and what it does
use Rattle.std.specs.Prelude.{ℕ, List, [], ◌∷◌, ◌==◌, if◌then◌else◌}
use Rattle.cfi_elf.specs.declared.relocation_kind.FieldWidth.{FieldWidth}
use Rattle.cfi_elf.specs.declared.relocation_kind.FieldWidth.TheVariants.{Byte, Half, Word, Xword}
use Rattle.cfi_elf.specs.declared.relocation_kind.Formula.{Formula}
use Rattle.cfi_elf.specs.declared.relocation_kind.Formula.TheVariants.{Unchanged, Absolute}
use Rattle.cfi_elf.specs.declared.relocation_kind.Formula.TheVariants.{Relative, Added, Subtracted}
use Rattle.cfi_elf.specs.declared.relocation_kind.Formula.TheVariants.{LowSix, LowSixSubtracted}
use Rattle.cfi_elf.specs.declared.relocation_kind.RelocationKind.{RelocationKind}

abbrev pub kind : ℕ → FieldWidth → Formula → ℕ × RelocationKind
kind number width formula = (number, record { width = width; formula = formula })

-- the Intel386 (System V psABI, "Relocation Types")
abbrev pub i386_kinds : List (ℕ × RelocationKind)
i386_kinds =
    kind 0 Byte Unchanged  -- R_386_NONE
    ∷ kind 1 Word Absolute  -- R_386_32
    ∷ kind 2 Word Relative  -- R_386_PC32
    ∷ []

-- x86-64 (System V psABI, "Relocation Types")
abbrev pub x86_64_kinds : List (ℕ × RelocationKind)
x86_64_kinds =
    kind 0 Byte Unchanged  -- R_X86_64_NONE
    ∷ kind 1 Xword Absolute  -- R_X86_64_64
    ∷ kind 2 Word Relative  -- R_X86_64_PC32
    ∷ kind 4 Word Relative  -- R_X86_64_PLT32
    ∷ kind 10 Word Absolute  -- R_X86_64_32
    ∷ kind 11 Word Absolute  -- R_X86_64_32S
    ∷ kind 24 Xword Relative  -- R_X86_64_PC64
    ∷ []

-- AArch64 (ELF for the Arm 64-bit architecture, "Static Data relocations")
abbrev pub aarch64_kinds : List (ℕ × RelocationKind)
aarch64_kinds =
    kind 0 Byte Unchanged  -- R_AARCH64_NONE
    ∷ kind 257 Xword Absolute  -- R_AARCH64_ABS64
    ∷ kind 258 Word Absolute  -- R_AARCH64_ABS32
    ∷ kind 260 Xword Relative  -- R_AARCH64_PREL64
    ∷ kind 261 Word Relative  -- R_AARCH64_PREL32
    ∷ []

-- Arm (ELF for the Arm architecture, "Relocation")
abbrev pub arm_kinds : List (ℕ × RelocationKind)
arm_kinds =
    kind 0 Byte Unchanged  -- R_ARM_NONE
    ∷ kind 2 Word Absolute  -- R_ARM_ABS32
    ∷ kind 3 Word Relative  -- R_ARM_REL32
    ∷ []

-- s390x_kinds (ELF ABI, "Relocation Types")
abbrev pub s390x_kinds : List (ℕ × RelocationKind)
s390x_kinds =
    kind 0 Byte Unchanged  -- R_390_NONE
    ∷ kind 4 Word Absolute  -- R_390_32
    ∷ kind 5 Word Relative  -- R_390_PC32
    ∷ kind 22 Xword Absolute  -- R_390_64
    ∷ kind 23 Xword Relative  -- R_390_PC64
    ∷ []

-- Power (64-bit ELF V2 ABI, "Relocation Types")
abbrev pub powerpc64_kinds : List (ℕ × RelocationKind)
powerpc64_kinds =
    kind 0 Byte Unchanged  -- R_PPC64_NONE
    ∷ kind 1 Word Absolute  -- R_PPC64_ADDR32
    ∷ kind 26 Word Relative  -- R_PPC64_REL32
    ∷ kind 38 Xword Absolute  -- R_PPC64_ADDR64
    ∷ kind 44 Xword Relative  -- R_PPC64_REL64
    ∷ []

-- RISC-V (ELF psABI, "Relocations")
abbrev pub riscv_kinds : List (ℕ × RelocationKind)
riscv_kinds =
    kind 0 Byte Unchanged  -- R_RISCV_NONE
    ∷ kind 1 Word Absolute  -- R_RISCV_32
    ∷ kind 2 Xword Absolute  -- R_RISCV_64
    ∷ kind 33 Byte Added  -- R_RISCV_ADD8
    ∷ kind 34 Half Added  -- R_RISCV_ADD16
    ∷ kind 35 Word Added  -- R_RISCV_ADD32
    ∷ kind 36 Xword Added  -- R_RISCV_ADD64
    ∷ kind 37 Byte Subtracted  -- R_RISCV_SUB8
    ∷ kind 38 Half Subtracted  -- R_RISCV_SUB16
    ∷ kind 39 Word Subtracted  -- R_RISCV_SUB32
    ∷ kind 40 Xword Subtracted  -- R_RISCV_SUB64
    ∷ kind 51 Byte Unchanged  -- R_RISCV_RELAX
    ∷ kind 52 Byte LowSixSubtracted  -- R_RISCV_SUB6
    ∷ kind 53 Byte LowSix  -- R_RISCV_SET6
    ∷ kind 54 Byte Absolute  -- R_RISCV_SET8
    ∷ kind 55 Half Absolute  -- R_RISCV_SET16
    ∷ kind 56 Word Absolute  -- R_RISCV_SET32
    ∷ kind 57 Word Relative  -- R_RISCV_32_PCREL
    ∷ []

-- EM_386 is 3, EM_PPC64 21, EM_S390 22, EM_ARM 40, EM_X86_64 62, EM_AARCH64 183, EM_RISCV 243
abbrev pub kinds_of : ℕ → List (ℕ × RelocationKind)
kinds_of e_machine =
    if e_machine == 3 then i386_kinds
    else if e_machine == 21 then powerpc64_kinds
    else if e_machine == 22 then s390x_kinds
    else if e_machine == 40 then arm_kinds
    else if e_machine == 62 then x86_64_kinds
    else if e_machine == 183 then aarch64_kinds
    else if e_machine == 243 then riscv_kinds
    else []
