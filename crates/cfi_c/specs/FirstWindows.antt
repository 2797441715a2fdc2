-- The window of memory from which most is read.
--     HasAt first a n      the window has eight bytes at the address, which are this number
--     IsFirstWindow memory first      the eight bytes at a place of the window are what is read
--         there of the memory, whose addresses have eight bytes
use Rattle.std.specs.Prelude.{◌≡◌, ℕ, ◌+◌, ◌<◌, false, Some, slice_range}
use Rattle.std.specs.Int.{w64}
use Rattle.cfi_read_core.specs.Numbers.{number_of}
use Rattle.cfi_c.specs.declared.first_window.FirstWindow.{FirstWindow}
use Rattle.cfi_c.specs.declared.memory.CfiMemory.{CfiMemory}
use Rattle.cfi_c.specs.PassedMemories.{number_in_memory}

-- the eight bytes at an address, as a number
abbrev pub HasAt : FirstWindow → ℕ → ℕ → Type 0
HasAt first a n =
    (k : ℕ) × (k < first.places) × (a ≡ first.base + k)
    × (n ≡ number_of w64 false (slice_range first.bytes.now k (k + 8)))

abbrev pub IsFirstWindow : CfiMemory → FirstWindow → Type 0
IsFirstWindow memory first =
    (k : ℕ) → k < first.places → (memory.address_size ≡ 8)
    × (number_in_memory memory (first.base + k) 8
    ≡ Some (number_of w64 false (slice_range first.bytes.now k (k + 8))))
