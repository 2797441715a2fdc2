-- The names of registers, by the tables of DWARF register numbers in the ABIs of the machines: the
-- System V psABIs of x86-64 and of the Intel386, DWARF for the Arm 64-bit Architecture, DWARF for
-- the Arm Architecture, the RISC-V psABI, the s390x psABI, and the 64-bit ELF V2 ABI of Power; for
-- MIPS, SPARC and m68k by the numbers of their ABIs' registers, which GCC's and elfutils' tables
-- have.
--     register_text names number      the name of the register with a DWARF number; r and the
--         number where it has none
use Rattle.std.specs.Prelude.{ℕ, ◌+◌, ◌-◌, ◌&&◌, List, [], ◌∷◌, ◌++◌, get_or}
use Rattle.std.specs.Prelude.{nat_le, nat_lt, codes, if◌then◌else◌}
use Rattle.std.specs.Fmt.{decimal}
use Rattle.std.specs.Option.{option_map_or}
use Rattle.cfi_text.specs.declared.register_names.RegisterNames.{RegisterNames}
use Rattle.cfi_text.specs.declared.register_names.RegisterNames.TheVariants.{Numbers, X86_64}
use Rattle.cfi_text.specs.declared.register_names.RegisterNames.TheVariants.{I386, AArch64, Arm}
use Rattle.cfi_text.specs.declared.register_names.RegisterNames.TheVariants.{RiscV, S390x}
use Rattle.cfi_text.specs.declared.register_names.RegisterNames.TheVariants.{PowerPc64, Mips}
use Rattle.cfi_text.specs.declared.register_names.RegisterNames.TheVariants.{Sparc, M68k}
use Rattle.cfi_text.specs.declared.register_names.RegisterName.{RegisterName}

-- ---- blocks of a table, each before those that come after it

abbrev pub r_and_number : ℕ → List ℕ
r_and_number n = codes "r" ++ decimal n

-- the names of the registers from the first number on
abbrev pub from_list : ℕ → List (List ℕ) → (ℕ → List ℕ) → ℕ → List ℕ
from_list first names others n =
    if nat_le first n then get_or names (n - first) (others n) else others n

-- so many registers from the first number on, by a letter and their place
abbrev pub in_series : ℕ → ℕ → List ℕ → (ℕ → List ℕ) → ℕ → List ℕ
in_series first count letter others n =
    if nat_le first n && nat_lt n (first + count) then letter ++ decimal (n - first) else others n

-- ---- the tables

abbrev pub x86_64_name : ℕ → List ℕ
x86_64_name n =
    from_list 0
    (codes "rax" ∷ codes "rdx" ∷ codes "rcx" ∷ codes "rbx" ∷ codes "rsi" ∷ codes "rdi"
    ∷ codes "rbp" ∷ codes "rsp" ∷ [])
    (from_list 16 (codes "ra" ∷ []) (in_series 17 16 (codes "xmm") r_and_number)) n

abbrev pub i386_name : ℕ → List ℕ
i386_name n =
    from_list 0
    (codes "eax" ∷ codes "ecx" ∷ codes "edx" ∷ codes "ebx" ∷ codes "esp" ∷ codes "ebp"
    ∷ codes "esi" ∷ codes "edi" ∷ codes "ra" ∷ codes "eflags" ∷ [])
    r_and_number n

abbrev pub aarch64_name : ℕ → List ℕ
aarch64_name n =
    in_series 0 31 (codes "x")
    (from_list 31 (codes "sp" ∷ [])
    (from_list 34 (codes "ra_sign_state" ∷ []) (in_series 64 32 (codes "v") r_and_number)))
    n

abbrev pub arm_name : ℕ → List ℕ
arm_name n =
    from_list 13 (codes "sp" ∷ codes "lr" ∷ codes "pc" ∷ [])
    (in_series 256 32 (codes "d") r_and_number)
    n

abbrev pub riscv_name : ℕ → List ℕ
riscv_name n = in_series 0 32 (codes "x") (in_series 32 32 (codes "f") r_and_number) n

abbrev pub s390x_name : ℕ → List ℕ
s390x_name n =
    from_list 16
    (codes "f0" ∷ codes "f2" ∷ codes "f4" ∷ codes "f6"
    ∷ codes "f1" ∷ codes "f3" ∷ codes "f5" ∷ codes "f7"
    ∷ codes "f8" ∷ codes "f10" ∷ codes "f12" ∷ codes "f14" ∷ codes "f9" ∷ codes "f11" ∷ codes "f13"
    ∷ codes "f15" ∷ []) r_and_number n

abbrev pub powerpc64_name : ℕ → List ℕ
powerpc64_name n =
    in_series 32 32 (codes "f")
    (from_list 65 (codes "lr" ∷ codes "ctr" ∷ [])
    (in_series 68 8 (codes "cr") (in_series 77 32 (codes "v") r_and_number)))
    n

-- 8 to 15 have other names in each ABI: t0 to t7, or a4 to a7 and t0 to t3
abbrev pub mips_name : ℕ → List ℕ
mips_name n =
    from_list 0
    (codes "zero" ∷ codes "at" ∷ codes "v0" ∷ codes "v1" ∷ codes "a0" ∷ codes "a1" ∷ codes "a2"
    ∷ codes "a3" ∷ [])
    (in_series 16 8 (codes "s")
    (from_list 24
    (codes "t8" ∷ codes "t9" ∷ codes "k0" ∷ codes "k1" ∷ codes "gp" ∷ codes "sp" ∷ codes "s8"
    ∷ codes "ra" ∷ [])
    (in_series 32 32 (codes "f") (from_list 64 (codes "hi" ∷ codes "lo" ∷ []) r_and_number))))
    n

abbrev pub sparc_name : ℕ → List ℕ
sparc_name n =
    in_series 0 8 (codes "g")
    (in_series 8 8 (codes "o")
    (in_series 16 8 (codes "l")
    (in_series 24 8 (codes "i") (in_series 32 32 (codes "f") r_and_number))))
    n

abbrev pub m68k_name : ℕ → List ℕ
m68k_name n =
    in_series 0 8 (codes "d")
    (in_series 8 8 (codes "a")
    (in_series 16 8 (codes "fp") (from_list 24 (codes "pc" ∷ []) r_and_number)))
    n

abbrev pub register_text : RegisterNames → ℕ → List ℕ
register_text Numbers n = r_and_number n
register_text X86_64 n = x86_64_name n
register_text I386 n = i386_name n
register_text AArch64 n = aarch64_name n
register_text Arm n = arm_name n
register_text RiscV n = riscv_name n
register_text S390x n = s390x_name n
register_text PowerPc64 n = powerpc64_name n
register_text Mips n = mips_name n
register_text Sparc n = sparc_name n
register_text M68k n = m68k_name n

-- ---- what a name of the code is shown as: its text, and its number if it has one

abbrev pub shown_name : RegisterName → List ℕ
shown_name name = name.text.now ++ option_map_or decimal name.number []
