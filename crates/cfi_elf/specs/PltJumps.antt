-- The jump of an entry of the procedure linkage table: it goes to the address that is stored in an
-- entry of the global offset table (System V psABI for x86-64, "Procedure Linkage Table"; Intel 64
-- and IA-32 Architectures Software Developer's Manual, "JMP", "ENDBR64"; Arm Architecture Reference
-- Manual for A-profile, "ADRP", "LDR (immediate)", "BTI").
--     jump_slot e_machine address bytes      the address of the entry, the slot, that is read by
--         the jump with which these bytes at an address begin
use Rattle.std.specs.Prelude.{ℕ, ◌+◌, ◌-◌, ◌*◌, ◌/◌, ◌%◌, ◌^◌, Bool, false, ◌&&◌, List, [], ◌∷◌}
use Rattle.std.specs.Prelude.{length, drop, find, nat_eq, nat_lt, option_and_then, option_map}
use Rattle.std.specs.Prelude.{Option, Some, None, ◌==◌, if◌then◌else◌}
use Rattle.std.specs.Int.{w32}
use Rattle.std.specs.List.{starts_with}
use Rattle.cfi_elf.specs.Fields.{number_at, part}
use Rattle.cfi_elf.specs.Relocations.{sign_extended}
use Rattle.cfi_elf.specs.Modular.{minus, plus}

-- ---- x86-64

-- JMP r/m64 is ff /4; with the byte 25 its operand is at a distance of 32 bits from the end of the
-- instruction. Before it may stand the prefix f2 (BND), and before that ENDBR64, f3 0f 1e fa
abbrev pub indirect_jumps : List (List ℕ)
indirect_jumps =
    (0xff ∷ 0x25 ∷ [])
    ∷ (0xf2 ∷ 0xff ∷ 0x25 ∷ [])
    ∷ (0xf3 ∷ 0x0f ∷ 0x1e ∷ 0xfa ∷ 0xff ∷ 0x25 ∷ [])
    ∷ (0xf3 ∷ 0x0f ∷ 0x1e ∷ 0xfa ∷ 0xf2 ∷ 0xff ∷ 0x25 ∷ [])
    ∷ []

-- by how many bytes are before the distance
abbrev pub slot_after : ℕ → List ℕ → ℕ → Option ℕ
slot_after address bytes size =
    option_map
    (λ distance. plus (plus address (size + 4)) (sign_extended (number_at false distance 0 w32)))
    (part bytes size 4)

abbrev pub x86_64_slot : ℕ → List ℕ → Option ℕ
x86_64_slot address bytes =
    option_and_then (λ jump. slot_after address bytes (length jump))
    (find (λ jump. starts_with nat_eq bytes jump) indirect_jumps)

-- ---- AArch64

-- ADRP x16 and LDR x17, [x16, n], before which BTI c may stand. Instructions have 32 bits, with the
-- least significant byte first

-- ADRP: bit 31 is 1, bits 28 to 24 are 10000, and bits 4 to 0 the register
abbrev pub is_adrp_x16 : ℕ → Bool
is_adrp_x16 w = (w / 2 ^ 31 == 1) && ((w / 2 ^ 24 % 32 == 16) && (w % 32 == 16))

-- immhi in bits 23 to 5 and immlo in bits 30 and 29: the number of pages of 4,096 bytes, 21 bits in
-- two's complement
abbrev pub pages : ℕ → ℕ
pages w = w / 2 ^ 5 % 2 ^ 19 * 4 + w / 2 ^ 29 % 4

abbrev pub page_distance : ℕ → ℕ
page_distance n = if nat_lt n (2 ^ 20) then n * 4096 else minus (n * 4096) (2 ^ 33)

-- LDR of 64 bits: bits 31 to 22 are 1111100101, bits 9 to 5 the register of the address and bits 4
-- to 0 the one that is loaded
abbrev pub is_ldr_x17 : ℕ → Bool
is_ldr_x17 w = (w / 2 ^ 22 == 0x3e5) && ((w / 2 ^ 5 % 32 == 16) && (w % 32 == 17))

-- imm12 in bits 21 to 10, a number of doublewords
abbrev pub byte_offset : ℕ → ℕ
byte_offset w = w / 2 ^ 10 % 2 ^ 12 * 8

-- of two instructions, of which the first is at an address
abbrev pub loaded_from : ℕ → ℕ → ℕ → Option ℕ
loaded_from address adrp ldr =
    if is_adrp_x16 adrp && is_ldr_x17 ldr
    then Some
    (plus (plus (address - address % 4096) (page_distance (pages adrp))) (byte_offset ldr))
    else None

abbrev pub pair_slot : ℕ → List ℕ → Option ℕ
pair_slot address bytes =
    option_and_then
    (λ pair. loaded_from address (number_at false pair 0 w32) (number_at false pair 4 w32))
    (part bytes 0 8)

-- BTI c is d503245f
abbrev pub bti_c : List ℕ
bti_c = 0x5f ∷ 0x24 ∷ 0x03 ∷ 0xd5 ∷ []

abbrev pub aarch64_slot : ℕ → List ℕ → Option ℕ
aarch64_slot address bytes =
    if starts_with nat_eq bytes bti_c
    then pair_slot (plus address 4) (drop 4 bytes)
    else pair_slot address bytes

-- ---- by machine: EM_X86_64 is 62, EM_AARCH64 is 183

abbrev pub jump_slot : ℕ → ℕ → List ℕ → Option ℕ
jump_slot e_machine address bytes =
    if e_machine == 62 then x86_64_slot address bytes
    else if e_machine == 183 then aarch64_slot address bytes
    else None
