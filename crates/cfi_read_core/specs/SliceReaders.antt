-- Readers over a slice.
--     EndianSlice      the type of a reader with offsets of eight bytes
--     slice_position      its position, or that of one with offsets of four bytes
--     slice_over, narrow_over      the positions at the start of all bytes
use Rattle.std.specs.Prelude.{ℕ, Bool, List, length, nat_eq, nat_lt, if◌then◌else◌, Some, Result}
use Rattle.std.specs.Prelude.{Ok, Err}
use Rattle.std.specs.Fmt.{decimal}
use Rattle.std.specs.Ordering.{nat_cmp}
use Rattle.cfi_read_core.specs.ReadFunctions.{Position}
use Rattle.cfi_read_core.specs.ReaderCalls.{all_of}
use Rattle.cfi_read_core.specs.declared.error.Error.{Error}
use Rattle.cfi_read_core.specs.declared.error.Error.TheVariants.{UnsupportedOffset}
use Rattle.cfi_read_core.specs.declared.offset.ReaderOffset as ReaderOffset
use Rattle.cfi_read_core.specs.declared.endian_slice.SliceReader.{SliceReader}

-- what the traits say of its offsets, `usize`: their numbers, how they are compared, and their text
abbrev pub EndianSlice : Type 0 → Type 0
EndianSlice E = SliceReader E ℕ (record { number = λ n. n; GREATEST = 18446744073709551615 })
    (record { eq = nat_eq }) (record { cmp = nat_cmp })
    (record { partial_cmp = λ x y. Some (nat_cmp x y) })
    (record { debug_output = λ n. Some (decimal n) })

-- the position of a reader over a slice, by the test of its byte order
abbrev pub slice_position :
    {E O : Type 0} {offset : ReaderOffset.Ghosts O} {b : _} {c : _} {d : _} {e : _} → (E → Bool) →
    SliceReader E O offset b c d e → Position
slice_position {offset = offset} is_big r =
    record {
      source = record {
        whole = r.whole.now;
        last = r.last;
        big_endian = is_big r.endian;
        greatest = offset.GREATEST;
      };
      place = r.first;
    }

-- a reader over all of the bytes, with offsets of eight bytes
abbrev pub slice_over : List ℕ → Bool → Position
slice_over bytes big = all_of bytes big 18446744073709551615

-- a reader over all of the bytes, if its places are offsets of four bytes
abbrev pub narrow_over : List ℕ → Bool → Result Position Error
narrow_over bytes big =
    if nat_lt 4294967295 (length bytes)
    then Err UnsupportedOffset
    else Ok (all_of bytes big 4294967295)
