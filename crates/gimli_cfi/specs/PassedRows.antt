-- Skipping rows of a table whose format can be searched (LSB Core, "The .eh_frame_hdr section").
use Rattle.std.specs.Prelude.{◌≡◌, ℕ, ◌-◌, Option, Some, None, Result, Ok, Err, nat_le}
use Rattle.std.specs.Prelude.{if◌then◌else◌}
use Rattle.cfi_read_core.specs.declared.error.Error.{Error}
use Rattle.cfi_read_core.specs.declared.error.Error.TheVariants.{UnsupportedPointerEncoding}
use Rattle.cfi_read_core.specs.ReadFunctions.{Outcome}
use Rattle.cfi_read_core.specs.ReaderCalls.{map_ok}
use Rattle.cfi_parts.specs.declared.pointer.Pointer.{Pointer}
use Rattle.gimli_cfi.specs.EhFrameHdr.{rows_passed, value_size}
use Rattle.gimli_cfi.specs.HeaderRows.{Walk, ReadsNextRow, IsStep}

-- n rows fewer, at the place after them
abbrev pub walk_by : Walk → ℕ → Outcome Unit → Result Walk Error
walk_by walk n passed =
    map_ok
    (λ _.
    record walk {
      count = walk.count - n;
      position = record walk.position { place = passed.place };
    })
    passed.value

abbrev pub walk_past_by : Walk → ℕ → Option ℕ → Result Walk Error
walk_past_by walk n None = Err (UnsupportedPointerEncoding (record { 0 = walk.encoding }))
walk_past_by walk n (Some size) =
    if nat_le walk.count n
    then Ok (record walk { count = 0 })
    else walk_by walk n (rows_passed size n walk.position.source walk.position.place)

-- After n rows; after all of them where there are no more than n.
unfoldable pub walk_past : Walk → ℕ → Result Walk Error
walk_past walk n = walk_past_by walk n (value_size walk.encoding)

-- What reading the row after n rows returns: an error in skipping them leaves the walk unchanged.
abbrev pub MeetsAfter :
    Result Walk Error → Walk → Result (Option (Pointer × Pointer)) Error → Walk → Type 0
MeetsAfter (Err e) before found after = (found ≡ Err e) × (after ≡ before)
MeetsAfter (Ok from) before found after =
    ReadsNextRow from found after × IsStep from after
