-- Relocations by computation: an entry of a real object file, its place, and the low six bits of RISC-V's.
use Rattle.std.proofs.Common.{◌≡◌, ◌+◌, [], ◌∷◌, false, true, Some, None, Ok, Err, refl}
use Rattle.std.specs.Int.{w32}
use Rattle.cfi_elf.specs.declared.error.ElfError.TheVariants.{RelocationOutOfBounds}
use Rattle.cfi_elf.specs.declared.file_header.Class.TheVariants.{Elf32, Elf64}
use Rattle.cfi_elf.specs.declared.relocation_kind.Formula.TheVariants.{LowSix, LowSixSubtracted, Relative}
use Rattle.cfi_elf.specs.declared.relocation_kind.FieldWidth.TheVariants.{Word}
use Rattle.cfi_elf.specs.RelocationKinds.{kinds_of}
use Rattle.cfi_elf.specs.RelocatedFiles.{relocated_number}
use Rattle.cfi_elf.specs.Relocations.{relocation}
use Rattle.cfi_elf.specs.RelocatedFields.{write_number}
use Rattle.cfi_elf.specs.Options.{meaning}

-- x86-64, by readelf -r: offset 4c, info 100000002, R_X86_64_PC32 of .text + 7
entry_of_object : relocation Elf64 true false (0x4c ∷ 0 ∷ 0 ∷ 0 ∷ 0 ∷ 0 ∷ 0 ∷ 0 ∷ 2 ∷ 0 ∷ 0 ∷ 0 ∷ 1 ∷ 0 ∷ 0 ∷ 0 ∷ 7 ∷ 0 ∷ 0 ∷ 0 ∷ 0 ∷ 0 ∷ 0 ∷ 0 ∷ []) ≡ record {
  r_offset = 0x4c;
  symbol = 1;
  kind = 2;
  r_addend = Some 7;
}
entry_of_object = refl

kind_of_object : meaning (kinds_of 62) 2 ≡ Some (record { width = Word; formula = Relative })
kind_of_object = refl

-- i386, without an addend
entry_without_addend : relocation Elf32 false false (0x20 ∷ 0 ∷ 0 ∷ 0 ∷ 2 ∷ 5 ∷ 0 ∷ 0 ∷ []) ≡ record {
  r_offset = 0x20;
  symbol = 5;
  kind = 2;
  r_addend = None;
}
entry_without_addend = refl

-- .text is at 0x40 and .eh_frame at 0x60: 0x47 - 0xac
place_of_object : write_number false w32 1 (relocated_number Relative (0x40 + 7) 0 (0x60 + 0x4c)) (1 ∷ 2 ∷ 3 ∷ 4 ∷ 5 ∷ 6 ∷ []) ≡ Ok (1 ∷ 0x9b ∷ 0xff ∷ 0xff ∷ 0xff ∷ 6 ∷ [])
place_of_object = refl

place_cut : write_number false w32 3 0 (1 ∷ 2 ∷ 3 ∷ 4 ∷ 5 ∷ 6 ∷ []) ≡ Err RelocationOutOfBounds
place_cut = refl

-- R_RISCV_SET6 and R_RISCV_SUB6 keep the high two bits: an advance by 0x12, and then by 0x12 less 0x10
six_set : relocated_number LowSix 0x12 0x40 0 ≡ 0x52
six_set = refl

six_subtracted : relocated_number LowSixSubtracted 0x10 0x52 0 ≡ 0x42
six_subtracted = refl
