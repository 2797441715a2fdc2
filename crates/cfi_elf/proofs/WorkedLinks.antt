-- A checksum and links to debug files, worked out from the definitions alone.
use Rattle.std.proofs.Common.{◌≡◌, true, false, ℕ, List, [], ◌∷◌, ◌++◌, Some, None, codes, refl}
use Rattle.cfi_elf.specs.Checksums.{crc32}
use Rattle.cfi_elf.specs.DebugLinks.{link_in}

-- the check value of this CRC-32
check_value : crc32 (codes "123456789") ≡ 0xcbf43926
unfolding crc32
check_value = refl

of_nothing : crc32 [] ≡ 0
unfolding crc32
of_nothing = refl

-- ---- a section .gnu_debuglink

abbrev checksum : List ℕ
checksum = 0xa9 ∷ 0xa9 ∷ 0x96 ∷ 0x5e ∷ []

-- of a name of ten bytes, with two zeros
of_ten : link_in false (codes "bare.debug" ++ 0 ∷ 0 ∷ checksum) ≡ Some (record { name = codes "bare.debug"; checksum = 0x5e96a9a9 })
unfolding link_in
of_ten = refl

big_endian : link_in true (codes "bare.debug" ++ 0 ∷ 0 ∷ checksum) ≡ Some (record { name = codes "bare.debug"; checksum = 0xa9a9965e })
unfolding link_in
big_endian = refl

-- of four bytes: the zero needs four more
of_four : link_in false (codes "name" ++ 0 ∷ 0 ∷ 0 ∷ 0 ∷ checksum) ≡ Some (record { name = codes "name"; checksum = 0x5e96a9a9 })
unfolding link_in
of_four = refl

of_three : link_in false (codes "own" ++ 0 ∷ checksum) ≡ Some (record { name = codes "own"; checksum = 0x5e96a9a9 })
unfolding link_in
of_three = refl

cut : link_in false (codes "name" ++ 0 ∷ 0 ∷ 0 ∷ 0 ∷ 1 ∷ 2 ∷ 3 ∷ []) ≡ None
unfolding link_in
cut = refl

without_zero : link_in false (codes "name") ≡ None
unfolding link_in
without_zero = refl

nameless : link_in false (0 ∷ 0 ∷ 0 ∷ 0 ∷ checksum) ≡ None
unfolding link_in
nameless = refl

in_another_folder : link_in false (codes "../name" ++ 0 ∷ checksum) ≡ None
unfolding link_in
in_another_folder = refl
