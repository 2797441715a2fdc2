-- Entries of procedure linkage tables of real programs, by computation: what objdump prints of them.
use Rattle.std.proofs.Common.{◌≡◌, ℕ, ◌+◌, ◌-◌, ◌*◌, List, [], ◌∷◌, codes, Option, Some, None, refl}
use Rattle.std.specs.Prelude.{nat_lt, if◌then◌else◌}
use Rattle.cfi_read_core.specs.declared.endianity.RunTimeEndian.TheVariants.{Little}
use Rattle.cfi_elf.specs.declared.file_header.Class.TheVariants.{Elf64}
use Rattle.cfi_elf.specs.ElfFiles.{File}
use Rattle.cfi_elf.specs.Images.{whole}
use Rattle.cfi_elf.specs.PltSections.{PltParts}
use Rattle.cfi_elf.specs.PltAddresses.{entries_to}
use Rattle.cfi_elf.specs.PltJumps.{jump_slot}
use Rattle.cfi_elf.specs.Sections.{Section}
use Rattle.cfi_elf.specs.StringTables.{name_at}

-- the bytes of hexadecimal text, whose letters are small
abbrev digit_of : ℕ → ℕ
digit_of c = if nat_lt c 58 then c - 48 else c - 87

abbrev bytes_behind : Option ℕ → List ℕ → List ℕ
bytes_behind high [] = []
bytes_behind None (c ∷ cs) = bytes_behind (Some (digit_of c)) cs
bytes_behind (Some high) (c ∷ cs) = (16 * high + digit_of c) ∷ bytes_behind None cs

abbrev hex : List ℕ → List ℕ
hex text = bytes_behind None text

-- ---- jumps of x86-64: by the opcode alone, with f2, with endbr64, and with both

by_the_opcode : jump_slot 62 0x200 (hex (codes "ff25021200006800000000e9e0ffffff")) ≡ Some 0x1408
by_the_opcode = refl

with_bnd : jump_slot 62 0x1090 (hex (codes "f2ff253d2f00000f1f440000")) ≡ Some 0x3fd4
with_bnd = refl

with_endbr64 : jump_slot 62 0x1050 (hex (codes "f30f1efaff259e2f0000660f1f440000")) ≡ Some 0x3ff8
with_endbr64 = refl

with_both : jump_slot 62 0x1050 (hex (codes "f30f1efaf2ff259d2f00000f1f440000")) ≡ Some 0x3ff8
with_both = refl

-- to a table before the code
before_it : jump_slot 62 0x1000 (hex (codes "ff25f6ffffff")) ≡ Some 0xffc
before_it = refl

-- push, and a call in the place of the jump; a jump without its last byte
no_jump : jump_slot 62 0x1f0 (hex (codes "ff3502120000ff2504120000")) ≡ None
no_jump = refl

a_call : jump_slot 62 0x200 (hex (codes "ff1502120000")) ≡ None
a_call = refl

cut : jump_slot 62 0x200 (hex (codes "ff25021200")) ≡ None
cut = refl

-- ---- jumps of AArch64

by_two_instructions : jump_slot 183 0x2d0 (hex (codes "100000b0114a42f91042129120021fd6")) ≡ Some 0x1490
by_two_instructions = refl

behind_bti : jump_slot 183 0x4002d0 (hex (codes "5f2403d5100000b0114642f91022129120021fd6")) ≡ Some 0x401488
behind_bti = refl

-- adrp x16, .-4096 and ldr x17, [x16, 4088]
page_before : jump_slot 183 0x2010 (hex (codes "f0fffff011fe47f9")) ≡ Some 0x1ff8
page_before = refl

-- the address is not added to that of the page of the second instruction
at_the_end_of_a_page : jump_slot 183 0x1ffc (hex (codes "100000b0114a42f9")) ≡ Some 0x2490
at_the_end_of_a_page = refl

-- of another register
other_register : jump_slot 183 0x2d0 (hex (codes "110000b0114a42f9")) ≡ None
other_register = refl

on_another_machine : jump_slot 3 0x200 (hex (codes "ff2502120000")) ≡ None
on_another_machine = refl

-- ---- a library of x86-64, with an entry in .plt and one in .plt.got

abbrev file_of : ℕ → File
file_of e_machine = record {
  image = whole [];
  identification = record { class = Elf64; «data» = Little };
  header = record {
    kind = record { e_type = 3; e_machine = e_machine; e_version = 1 };
    offsets = record { e_phoff = 64; e_shoff = 0x480 };
    sizes = record { e_phentsize = 56; e_phnum = 3; e_shentsize = 64; e_shnum = 15; e_shstrndx = 14 };
  };
}

abbrev section_at : ℕ → List ℕ → Section
section_at address bytes = record { address = address; bytes = bytes }

abbrev library : PltParts
library = record {
  got = record {
    dynsym = hex (codes "0000000000000000000000000000000000000000000000000600000010000000000000000000000000000000000000000d0000001000000000000000000000000000000000000000010000001200080018020000000000001a00000000000000");
    dynstr = hex (codes "00776f726b0068656c706572006f7468657200");
    rela_plt = hex (codes "081400000000000007000000010000000000000000000000");
    rela_dyn = hex (codes "e81300000000000006000000020000000000000000000000");
  };
  plt = record {
    plt = section_at 0x1f0 (hex (codes "ff3502120000ff25041200000f1f4000ff25021200006800000000e9e0ffffff"));
    plt_sec = section_at 0 [];
    plt_got = section_at 0x210 (hex (codes "ff25d21100006690"));
  };
}

helper_in_plt : entries_to (file_of 62) (codes "helper") library ≡ 0x200 ∷ []
unfolding name_at
helper_in_plt = refl

other_in_plt_got : entries_to (file_of 62) (codes "other") library ≡ 0x210 ∷ []
unfolding name_at
other_in_plt_got = refl

-- defined in the library itself
no_entry : entries_to (file_of 62) (codes "work") library ≡ []
unfolding name_at
no_entry = refl

no_beginning_of_a_name : entries_to (file_of 62) (codes "help") library ≡ []
unfolding name_at
no_beginning_of_a_name = refl

-- ---- a program of AArch64, whose entry begins with bti c, at 32 bytes after the first

abbrev program : PltParts
program = record {
  got = record {
    dynsym = hex (codes "000000000000000000000000000000000000000000000000010000001200000000000000000000000000000000000000");
    dynstr = hex (codes "0068656c706572006c6962682e736f00");
    rela_plt = hex (codes "881440000000000002040000010000000000000000000000");
    rela_dyn = [];
  };
  plt = record {
    plt = section_at 0x4002b0 (hex (codes "5f2403d5f07bbfa9100000b0114242f91002129120021fd61f2003d51f2003d55f2403d5100000b0114642f91022129120021fd61f2003d5"));
    plt_sec = section_at 0 [];
    plt_got = section_at 0 [];
  };
}

helper_behind_bti : entries_to (file_of 183) (codes "helper") program ≡ 0x4002d0 ∷ []
unfolding name_at
helper_behind_bti = refl
