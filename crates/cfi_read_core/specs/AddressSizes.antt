-- The size of an address.
use Rattle.std.specs.Prelude.{ℕ}
use Rattle.cfi_read_core.specs.Addresses.{IsAddressSize, sized_by}
use Rattle.cfi_read_core.specs.declared.address.AddressSize.{AddressSize}

-- how many bytes an address of the size takes
abbrev pub size_in_bytes : AddressSize → ℕ
size_in_bytes size = size.bytes

-- which are 1, 2, 4 or 8
pub has_address_size : (size : AddressSize) → IsAddressSize (size_in_bytes size)
has_address_size size = sized_by size.bytes size.sized
