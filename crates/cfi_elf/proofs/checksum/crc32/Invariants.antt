use Rattle.std.proofs.Common.{◌≡◌, drop}
use Rattle.cfi_elf.specs.Checksums.{remainder_after}
use Rattle.cfi_elf.proofs.checksum.crc32.Given as goal

-- the bytes that are left give what all give
abbrev pub invariant-loop-byte : goal.invariant-loop-byte
invariant-loop-byte l = remainder_after l.remainder (drop l.byte-index l.bytes) ≡ remainder_after 0xffffffff l.bytes
