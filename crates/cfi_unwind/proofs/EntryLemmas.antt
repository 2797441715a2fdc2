-- An entry that is met when the section is gone through is the entry at its offset.
use Rattle.std.proofs.Common.{◌≡◌, ◌≤◌, ◌<◌, ◌+◌, ◌-◌, ℕ, zero, suc, Bool, true, false, List, [], ◌∷◌, map, Option, Some, None, Result, Ok, Err, refl, sym, ap, ◌∙◌, arith, ⊎_elim}
use Rattle.std.specs.Prelude.{nat_le, nat_lt, ◌==◌, IfSome, if◌then◌else◌}
use Rattle.std.specs.List.{AllByRecursion}
use borrow.Author.Tests.{leb-false, le-ltb, le-leb}
use Rattle.cfi_read_core.specs.declared.error.Error.{Error}
use Rattle.std.specs.Int.{w32, w64}
use Rattle.cfi_read_core.specs.declared.common.Format.{Format}
use Rattle.cfi_read_core.specs.declared.common.Format.TheVariants.{Dwarf32, Dwarf64}
use Rattle.cfi_read_core.specs.ReaderCalls.{map_ok}
use Rattle.cfi_read_core.specs.ReadFunctions.{Read, Source, Extent, Readings, ◌>>=◌, give, refuse, offset, here, split, remainder, within, no_values, readings_with}
use Rattle.cfi_read_core.specs.Numbers.{InitialLength, initial_length, length_in, unsigned}
use Rattle.cfi_read_core.proofs.Given.{Gives, gives_give, gives_if, gives_bind, gives_bind_from, gives_within}
use Rattle.cfi_read_core.proofs.Onward.{IsOnward, onward_give, onward_refuse, onward_if, onward_bind, onward_here, onward_within, onward_split, onward_unsigned, onward_offset, onward_initial_length}
use Rattle.cfi_read_core.proofs.Repeating.{Advances, advances_bind, advances_unsigned}
use Rattle.cfi_entry.specs.Sections.{Section, offset_in, id_width, cie_offset_of}
use Rattle.cfi_entry.specs.Prefixes.{Prefix, prefix, fields_after_length, of_length}
use Rattle.cfi_entry.specs.Cies.{Cie, cie_of}
use Rattle.cfi_entry.specs.Fdes.{PartialFde, Fde, fde_fields, addresses, address_encoding_of, lsda}
use Rattle.cfi_unwind.specs.Scan.{partial_fdes, read_fde, fde_readings, IsAmong}
use Rattle.cfi_entry.specs.Entries.{Entry, CieEntry, FdeEntry, entry_of, entries_with, entries_from, entries_left, entries, prefix_at, partial_fde_at, partial_fde_of, is_cie, cie_at, fde_with, fde_by, fde_at}

-- ---- prefixes

onward_of_length : (section : Section) (offset : ℕ) (field : InitialLength) → IsOnward (of_length section offset field)
onward_of_length section offset field =
    let inside : Extent → Read Prefix = λ extent. within extent (fields_after_length section offset field.length field.format) in
    onward_if (field.length == 0) (give None) _ (onward_give None)
    (onward_bind (split field.length) (λ extent. inside extent >>= λ found. give (Some found)) (onward_split field.length) (λ extent.
    onward_bind (inside extent) (λ found. give (Some found)) (onward_within extent (fields_after_length section offset field.length field.format)) (λ found. onward_give (Some found))))

pub onward_prefix : (section : Section) → IsOnward (prefix section)
unfolding prefix
onward_prefix section =
    onward_bind here (λ start. initial_length >>= of_length section (offset_in section start)) onward_here (λ start.
    onward_bind initial_length (of_length section (offset_in section start)) onward_initial_length (onward_of_length section (offset_in section start)))

abbrev HasOffset : ℕ → Prefix → Type 0
HasOffset offset found = found.offset ≡ offset

abbrev MayHaveOffset : ℕ → Option Prefix → Type 0
MayHaveOffset offset o = IfSome o (HasOffset offset)

identified_offset : (section : Section) (offset length : ℕ) (format : Format) → Gives (HasOffset offset) (fields_after_length section offset length format)
identified_offset section offset length format =
    gives_bind (HasOffset offset) here _ (λ place.
    gives_bind (HasOffset offset) (unsigned (id_width section.kind format)) _ (λ id.
    gives_bind (HasOffset offset) remainder _ (λ rest. gives_give (HasOffset offset) (record { offset = offset; length = length; format = format; id = id; id_offset = offset_in section place; rest = rest }) refl)))

of_length_offset : (section : Section) (offset : ℕ) (field : InitialLength) → Gives (MayHaveOffset offset) (of_length section offset field)
of_length_offset section offset field =
    let inside : Extent → Read Prefix = λ extent. within extent (fields_after_length section offset field.length field.format) in
    gives_if (MayHaveOffset offset) (field.length == 0) (give None) _ (gives_give (MayHaveOffset offset) None tt)
    (gives_bind (MayHaveOffset offset) (split field.length) (λ extent. inside extent >>= λ found. give (Some found)) (λ extent.
    gives_bind_from (HasOffset offset) (MayHaveOffset offset) (inside extent) (λ found. give (Some found))
    (gives_within (HasOffset offset) extent (fields_after_length section offset field.length field.format) (identified_offset section offset field.length field.format))
    (λ found h. gives_give (MayHaveOffset offset) (Some found) h)))

-- a prefix keeps the offset at which it was read
pub prefix_offset : (section : Section) (source : Source) (place : ℕ) (found : Prefix) → (prefix section source place).value ≡ Ok (Some found) → HasOffset (offset_in section place) found
unfolding prefix
prefix_offset section source place found e =
    (gives_bind (MayHaveOffset (offset_in section place)) initial_length (of_length section (offset_in section place)) (of_length_offset section (offset_in section place))).given source place (Some found) e

-- the prefix at a place inside the section is the one at its offset
pub prefix_there : (section : Section) (place : ℕ) (found : Prefix) → section.first ≤ place → place < section.source.last →
    (prefix section section.source place).value ≡ Ok (Some found) → prefix_at section found.offset ≡ Ok found
prefix_there section place found from before e =
    let offset : found.offset ≡ place - section.first = prefix_offset section section.source place found e in
    let inside : nat_lt (section.source.last - section.first) found.offset ≡ false = le-ltb _ _ (omega arith) in
    let there : section.first + found.offset ≡ place = omega arith in
    rw (inside, there, e) refl

-- ---- entries

pub record IsAtItsOffset (section : Section) (partial : PartialFde) : Type 0 where
  pub at_offset : partial_fde_at section partial.prefix.offset ≡ Ok partial
  pub inside : partial.prefix.offset ≤ section.source.last - section.first

abbrev AreAtTheirOffsets : Section → List Entry → Type 0
AreAtTheirOffsets section es = AllByRecursion (IsAtItsOffset section) (partial_fdes es)

fde_of_entry : (b : Bool) (cie : Result Cie Error) (fde : Result PartialFde Error) (partial : PartialFde) →
    (if b then map_ok CieEntry cie else map_ok FdeEntry fde) ≡ Ok (FdeEntry partial) → (b ≡ false) × (fde ≡ Ok partial)
fde_of_entry true (Ok cie) fde partial e = absurd (cc)
fde_of_entry true (Err r) fde partial e = absurd (cc)
fde_of_entry false cie (Ok fde) partial e = (refl, cc)
fde_of_entry false cie (Err r) partial e = absurd (cc)

pub found_kept : (found : Prefix) (offset : Result ℕ Error) (partial : PartialFde) → map_ok (λ n. record { prefix = found; cie_offset = n }) offset ≡ Ok partial → partial.prefix ≡ found
found_kept found (Ok n) partial e = let same : record { prefix = found; cie_offset = n } ≡ partial = cc in sym (ap (λ (p : PartialFde). p.prefix) same)
found_kept found (Err r) partial e = absurd (cc)

fde_there : (section : Section) (place : ℕ) (found : Prefix) (partial : PartialFde) → section.first ≤ place → place < section.source.last →
    (prefix section section.source place).value ≡ Ok (Some found) → entry_of section found ≡ Ok (FdeEntry partial) → IsAtItsOffset section partial
unfolding entry_of partial_fde_at
fde_there section place found partial from before e is =
    let parts = fde_of_entry (is_cie section found) (cie_of section found) (partial_fde_of section found) partial is in
    let kept : partial.prefix ≡ found = found_kept found (cie_offset_of section found.id_offset found.id) partial parts.1 in
    let offset : found.offset ≡ place - section.first = prefix_offset section section.source place found e in
    let there : prefix_at section found.offset ≡ Ok found = prefix_there section place found from before e in
    let read : partial_fde_at section found.offset ≡ Ok partial = rw (there, parts.0) parts.1 in
    record {
      at_offset = ap (λ (f : Prefix). partial_fde_at section f.offset) kept ∙ read;
      inside = rw kept (omega arith);
    }

listed_there : (section : Section) (r : Result Entry Error) (others : Readings Entry) → ((partial : PartialFde) → r ≡ Ok (FdeEntry partial) → IsAtItsOffset section partial) →
    AreAtTheirOffsets section others.values → AreAtTheirOffsets section (readings_with false r others).values
listed_there section (Err e) others each behind = tt
listed_there section (Ok (CieEntry cie)) others each behind = behind
listed_there section (Ok (FdeEntry partial)) others each behind = (each partial refl, behind)

gap_there : (section : Section) (b : Bool) (others : Readings Entry) → AreAtTheirOffsets section others.values → AreAtTheirOffsets section (if b then no_values None else others).values
gap_there section true others behind = tt
gap_there section false others behind = behind

entries_there : (section : Section) (place : ℕ) (b : Bool) (r : Result (Option Prefix) Error) (others : Readings Entry) → section.first ≤ place →
    nat_le section.source.last place ≡ b → (prefix section section.source place).value ≡ r →
    AreAtTheirOffsets section others.values → AreAtTheirOffsets section (entries_with section b r others).values
entries_there section place true r others from end is behind = tt
entries_there section place false (Err e) others from end is behind = tt
entries_there section place false (Ok None) others from end is behind = gap_there section _ others behind
entries_there section place false (Ok (Some found)) others from end is behind =
    listed_there section (entry_of section found) others (λ partial e. fde_there section place found partial from (leb-false _ _ end) is e) behind

from_there : (n : ℕ) (section : Section) (place : ℕ) → section.first ≤ place → AreAtTheirOffsets section (entries_from n section place).values
unfolding entries_from
from_there zero section place from = tt
from_there (suc n) section place from =
    let first = prefix section section.source place in
    let onward : place ≤ first.place = (onward_prefix section).after section.source place in
    entries_there section place (nat_le section.source.last place) first.value (entries_from n section first.place) from refl refl
    (from_there n section first.place (omega arith))

-- ---- FDEs

pub record IsFdeAtItsOffset (section : Section) (fde : Fde) : Type 0 where
  pub at_offset : fde_at section fde.offset ≡ Ok fde
  pub inside : fde.offset ≤ section.source.last - section.first

fields_offset : (section : Section) (found : Prefix) (cie : Cie) → Gives (λ fde. fde.offset ≡ found.offset) (fde_fields section found cie)
unfolding fde_fields
fields_offset section found cie =
    let P : Fde → Type 0 = λ fde. fde.offset ≡ found.offset in
    gives_bind P (addresses section cie.address_size (address_encoding_of cie.augmentation)) _ (λ range.
    gives_bind P (lsda section cie.address_size range.0 cie.augmentation) _ (λ lsda.
    gives_bind P remainder _ (λ instructions.
    gives_give P (record { offset = found.offset; length = found.length; cie = cie; initial = range.0; range = range.1; lsda = lsda; instructions = instructions }) refl)))

pub fde_offset : (section : Section) (partial : PartialFde) (given : Result Cie Error) (fde : Fde) → fde_with section partial given ≡ Ok fde → fde.offset ≡ partial.prefix.offset
fde_offset section partial (Err e) fde is = absurd (cc)
fde_offset section partial (Ok cie) fde is =
    (gives_within (λ (f : Fde). f.offset ≡ partial.prefix.offset) partial.prefix.rest (fde_fields section partial.prefix cie) (fields_offset section partial.prefix cie)).given section.source partial.prefix.rest.first fde is

read_there : (section : Section) (partial : PartialFde) (fde : Fde) → IsAtItsOffset section partial → read_fde section partial ≡ Ok fde → IsFdeAtItsOffset section fde
read_there section partial fde there is =
    let offset : fde.offset ≡ partial.prefix.offset = fde_offset section partial (cie_at section partial.cie_offset) fde is in
    record {
      at_offset = ap (fde_at section) offset ∙ (ap (fde_by section) there.at_offset ∙ is);
      inside = rw offset there.inside;
    }

among_there : (section : Section) (partials : List PartialFde) (fde : Fde) → AllByRecursion (IsAtItsOffset section) partials → IsAmong (map (read_fde section) partials) fde → IsFdeAtItsOffset section fde
among_there section [] fde there among = absurd among
among_there section (partial ∷ partials) fde there among =
    ⊎_elim (λ is. read_there section partial fde there.0 is) (λ behind. among_there section partials fde there.1 behind) among

-- an FDE of the section is the one at its offset
pub fde_at_its_offset : (section : Section) (fde : Fde) → IsAmong (fde_readings section) fde → IsFdeAtItsOffset section fde
fde_at_its_offset section fde among =
    among_there section (partial_fdes (entries section).values) fde (from_there (section.source.last - section.first) section section.first (omega arith)) among

-- ---- enough turns

onward_length : (format : Format) (n : ℕ) → IsOnward (length_in format n)
onward_length format n = onward_bind (offset n) _ (onward_offset n) (λ m. onward_give _)

advances_length : Advances initial_length
unfolding initial_length
advances_length =
    advances_bind (unsigned w32) _ (advances_unsigned w32 (omega arith)) (λ n.
    onward_if (nat_lt n 0xfffffff0) (length_in Dwarf32 n) _ (onward_length Dwarf32 n)
    (onward_if (n == 0xffffffff) _ (refuse _) (onward_bind (unsigned w64) (length_in Dwarf64) (onward_unsigned w64) (onward_length Dwarf64)) (onward_refuse _)))

-- a prefix that is read takes a byte at least
pub advances_prefix : (section : Section) → Advances (prefix section)
unfolding prefix
advances_prefix section = record {
  taken = λ source place x e.
      let offset = offset_in section place in
      (advances_bind initial_length (of_length section offset) advances_length (onward_of_length section offset)).taken source place x e;
}

gap_same : (b : Bool) (xs ys : Readings Entry) → xs ≡ ys → (if b then no_values None else xs) ≡ (if b then no_values None else ys)
gap_same true xs ys same = refl
gap_same false xs ys same = same

entries_same : (section : Section) (b : Bool) (r : Result (Option Prefix) Error) (xs ys : Readings Entry) → ((o : Option Prefix) → b ≡ false → r ≡ Ok o → xs ≡ ys) →
    entries_with section b r xs ≡ entries_with section b r ys
entries_same section true r xs ys same = refl
entries_same section false (Err e) xs ys same = refl
entries_same section false (Ok None) xs ys same = gap_same _ xs ys (same None refl refl)
entries_same section false (Ok (Some found)) xs ys same = ap (readings_with false (entry_of section found)) (same (Some found) refl refl)

pub enough_entries : (section : Section) (m n place : ℕ) → section.source.last - place ≤ m → section.source.last - place ≤ n → entries_from m section place ≡ entries_from n section place
unfolding entries_from
enough_entries section zero zero place h k = refl
enough_entries section zero (suc n) place h k =
    let ended : nat_le section.source.last place ≡ true = le-leb _ _ (omega arith) in
    sym (ap (λ b. entries_with section b (prefix section section.source place).value (entries_from n section (prefix section section.source place).place)) ended)
enough_entries section (suc m) zero place h k =
    let ended : nat_le section.source.last place ≡ true = le-leb _ _ (omega arith) in
    ap (λ b. entries_with section b (prefix section section.source place).value (entries_from m section (prefix section section.source place).place)) ended
enough_entries section (suc m) (suc n) place h k =
    let first = prefix section section.source place in
    entries_same section (nat_le section.source.last place) first.value (entries_from m section first.place) (entries_from n section first.place) (λ o inside e.
    let more : place < first.place = (advances_prefix section).taken section.source place o e in
    let left : place < section.source.last = leb-false _ _ inside in
    enough_entries section m n first.place (omega arith) (omega arith))

-- one turn of the entries that are left at a place
pub one_entry : (section : Section) (place : ℕ) →
    let first = prefix section section.source place in
    entries_left section place ≡ entries_with section (nat_le section.source.last place) first.value (entries_left section first.place)
unfolding entries_from
one_entry section place =
    let first = prefix section section.source place in
    enough_entries section (section.source.last - place) (suc (section.source.last - place)) place (omega arith) (omega arith)
    ∙ entries_same section (nat_le section.source.last place) first.value (entries_from (section.source.last - place) section first.place) (entries_left section first.place) (λ o inside e.
    let more : place < first.place = (advances_prefix section).taken section.source place o e in
    enough_entries section (section.source.last - place) (section.source.last - first.place) first.place (omega arith) (omega arith))
