-- Names of registers, by computation: the first and the last of a block, and a number that has no name.
use Rattle.std.proofs.Common.{◌≡◌, [], ◌∷◌, map, refl, codes}
use Rattle.cfi_text.specs.RegisterNames.{register_text}
use Rattle.cfi_text.specs.declared.register_names.RegisterNames.TheVariants.{Numbers, X86_64, I386, AArch64, Arm, RiscV, S390x, PowerPc64, Mips, Sparc, M68k}
use Rattle.std.specs.Fmt.{digits}

by_number : map (register_text Numbers) (0 ∷ 16 ∷ 65535 ∷ []) ≡ codes "r0" ∷ codes "r16" ∷ codes "r65535" ∷ []
unfolding digits
by_number = refl

on_x86_64 : map (register_text X86_64) (0 ∷ 1 ∷ 7 ∷ 8 ∷ 15 ∷ 16 ∷ 17 ∷ 32 ∷ 33 ∷ [])
    ≡ codes "rax" ∷ codes "rdx" ∷ codes "rsp" ∷ codes "r8" ∷ codes "r15" ∷ codes "ra" ∷ codes "xmm0" ∷ codes "xmm15" ∷ codes "r33" ∷ []
unfolding digits
on_x86_64 = refl

on_i386 : map (register_text I386) (0 ∷ 4 ∷ 8 ∷ 9 ∷ 10 ∷ []) ≡ codes "eax" ∷ codes "esp" ∷ codes "ra" ∷ codes "eflags" ∷ codes "r10" ∷ []
unfolding digits
on_i386 = refl

on_aarch64 : map (register_text AArch64) (0 ∷ 30 ∷ 31 ∷ 32 ∷ 34 ∷ 64 ∷ 95 ∷ 96 ∷ [])
    ≡ codes "x0" ∷ codes "x30" ∷ codes "sp" ∷ codes "r32" ∷ codes "ra_sign_state" ∷ codes "v0" ∷ codes "v31" ∷ codes "r96" ∷ []
unfolding digits
on_aarch64 = refl

on_arm : map (register_text Arm) (0 ∷ 13 ∷ 14 ∷ 15 ∷ 16 ∷ 256 ∷ 287 ∷ 288 ∷ [])
    ≡ codes "r0" ∷ codes "sp" ∷ codes "lr" ∷ codes "pc" ∷ codes "r16" ∷ codes "d0" ∷ codes "d31" ∷ codes "r288" ∷ []
unfolding digits
on_arm = refl

on_riscv : map (register_text RiscV) (0 ∷ 31 ∷ 32 ∷ 63 ∷ 64 ∷ []) ≡ codes "x0" ∷ codes "x31" ∷ codes "f0" ∷ codes "f31" ∷ codes "r64" ∷ []
unfolding digits
on_riscv = refl

on_s390x : map (register_text S390x) (15 ∷ 16 ∷ 17 ∷ 20 ∷ 31 ∷ 32 ∷ []) ≡ codes "r15" ∷ codes "f0" ∷ codes "f2" ∷ codes "f1" ∷ codes "f15" ∷ codes "r32" ∷ []
unfolding digits
on_s390x = refl

on_powerpc64 : map (register_text PowerPc64) (31 ∷ 32 ∷ 63 ∷ 64 ∷ 65 ∷ 66 ∷ 67 ∷ 68 ∷ 75 ∷ 77 ∷ 108 ∷ 109 ∷ [])
    ≡ codes "r31" ∷ codes "f0" ∷ codes "f31" ∷ codes "r64" ∷ codes "lr" ∷ codes "ctr" ∷ codes "r67" ∷ codes "cr0" ∷ codes "cr7" ∷ codes "v0" ∷ codes "v31" ∷ codes "r109" ∷ []
unfolding digits
on_powerpc64 = refl

on_mips : map (register_text Mips) (0 ∷ 7 ∷ 8 ∷ 15 ∷ 16 ∷ 23 ∷ 24 ∷ 29 ∷ 31 ∷ 32 ∷ 63 ∷ 65 ∷ 66 ∷ [])
    ≡ codes "zero" ∷ codes "a3" ∷ codes "r8" ∷ codes "r15" ∷ codes "s0" ∷ codes "s7" ∷ codes "t8" ∷ codes "sp" ∷ codes "ra" ∷ codes "f0" ∷ codes "f31" ∷ codes "lo" ∷ codes "r66" ∷ []
unfolding digits
on_mips = refl

on_sparc : map (register_text Sparc) (0 ∷ 7 ∷ 8 ∷ 15 ∷ 16 ∷ 24 ∷ 31 ∷ 32 ∷ 63 ∷ 64 ∷ [])
    ≡ codes "g0" ∷ codes "g7" ∷ codes "o0" ∷ codes "o7" ∷ codes "l0" ∷ codes "i0" ∷ codes "i7" ∷ codes "f0" ∷ codes "f31" ∷ codes "r64" ∷ []
unfolding digits
on_sparc = refl

on_m68k : map (register_text M68k) (0 ∷ 7 ∷ 8 ∷ 15 ∷ 16 ∷ 23 ∷ 24 ∷ 25 ∷ [])
    ≡ codes "d0" ∷ codes "d7" ∷ codes "a0" ∷ codes "a7" ∷ codes "fp0" ∷ codes "fp7" ∷ codes "pc" ∷ codes "r25" ∷ []
unfolding digits
on_m68k = refl
