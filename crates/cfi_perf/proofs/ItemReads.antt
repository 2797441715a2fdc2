-- The bytes of items that were split off.
use Rattle.std.proofs.Common.{◌≡◌, ◌*◌, ℕ, List, Bool, true, Ok, Err, sym, ap, ◌∙◌}
use Rattle.std.specs.Prelude.{nat_le, slice_range, if◌then◌else◌}
use Rattle.cfi_read_core.specs.declared.error.Error.{Error}
use Rattle.cfi_read_core.specs.declared.error.Error.TheVariants.{UnsupportedOffset}
use Rattle.cfi_read_core.specs.ReadFunctions.{Read, Source, Position, Extent, Outcome, carry_on, bytes, bytes_of, give, offset, refuse, split}
use Rattle.cfi_read_core.specs.ReaderCalls.{IsPartOf, bytes_left, extent_of}
use Rattle.cfi_perf.specs.ByteReads.{item_bytes}

-- the bytes of a part are those of its extent
part_bytes : (old part : Position) → IsPartOf part old → bytes_of old.source (extent_of part) ≡ bytes_left part
part_bytes old part is =
    let whole : part.source.whole ≡ old.source.whole = ap (λ (s : Source). s.whole) is in
    ap (λ (bs : List ℕ). slice_range bs part.place part.source.last) (sym whole)

-- a total that a place can count
pub counted : {A : Type 0} (total : ℕ) (next : ℕ → Read A) (source : Source) (place : ℕ) → nat_le total source.greatest ≡ true →
    carry_on next source (offset total source place).value (offset total source place).place ≡ next total source place
counted {A = A} total next source place fits =
    ap (λ (b : Bool). let o = (if b then give total else refuse UnsupportedOffset) source place in carry_on next source o.value o.place) fits

pub items_read : (count size : ℕ) (old new part : Position) → nat_le (count * size) old.source.greatest ≡ true →
    split (count * size) old.source old.place ≡ record { value = Ok (extent_of part); place = new.place } → IsPartOf part old →
    item_bytes count size old.source old.place ≡ record { value = Ok (bytes_left part); place = new.place }
unfolding item_bytes
items_read count size old new part fits gives is =
    counted (count * size) bytes old.source old.place fits
    ∙ (ap (λ (o : Outcome Extent). carry_on (λ extent source. give (bytes_of source extent) source) old.source o.value o.place) gives
    ∙ ap (λ (bs : List ℕ). let o : Outcome (List ℕ) = record { value = Ok bs; place = new.place } in o) (part_bytes old part is))

pub items_refused : (count size : ℕ) (old : Position) (e : Error) (place : ℕ) → nat_le (count * size) old.source.greatest ≡ true →
    split (count * size) old.source old.place ≡ record { value = Err e; place = place } →
    item_bytes count size old.source old.place ≡ record { value = Err e; place = place }
unfolding item_bytes
items_refused count size old e place fits gives =
    counted (count * size) bytes old.source old.place fits
    ∙ ap (λ (o : Outcome Extent). carry_on (λ extent source. give (bytes_of source extent) source) old.source o.value o.place) gives
