-- The FDEs of a section stand in order.
use Rattle.std.proofs.Common.{◌≡◌, ◌≤◌, ◌<◌, ◌+◌, ◌-◌, ℕ, zero, suc, Bool, true, false, List, [], ◌∷◌, map, Option, Some, None, Result, Ok, Err, refl, ap, ◌∙◌, arith}
use Rattle.std.specs.Prelude.{⊤, nat_le, if◌then◌else◌}
use Rattle.cfi_read_core.specs.declared.error.Error.{Error}
use Rattle.cfi_read_core.specs.ReadFunctions.{Readings, no_values, readings_with}
use Rattle.cfi_entry.specs.Sections.{Section, cie_offset_of}
use Rattle.cfi_entry.specs.Prefixes.{Prefix, prefix}
use Rattle.cfi_entry.specs.Cies.{Cie, cie_of}
use Rattle.cfi_entry.specs.Fdes.{PartialFde, Fde}
use Rattle.cfi_unwind.specs.Scan.{partial_fdes, read_fde, fde_readings}
use Rattle.cfi_read_core.specs.ReaderCalls.{map_ok}
use Rattle.cfi_entry.specs.Entries.{Entry, CieEntry, FdeEntry, entry_of, entries_with, entries_from, entries, partial_fde_of, is_cie, cie_at}
use Rattle.cfi_unwind.proofs.EntryLemmas.{advances_prefix, fde_offset, found_kept, onward_prefix, prefix_offset}

-- each stands at or after the offset and after those before it
abbrev pub RisePartial : ℕ → List PartialFde → Type 0
RisePartial low [] = ⊤
RisePartial low (p ∷ ps) = (low ≤ p.prefix.offset) × RisePartial (p.prefix.offset + 1) ps

abbrev pub Rise : ℕ → List (Result Fde Error) → Type 0
Rise low [] = ⊤
Rise low (Err e ∷ rs) = Rise low rs
Rise low (Ok fde ∷ rs) = (low ≤ fde.offset) × Rise (fde.offset + 1) rs

lower : (m n : ℕ) (ps : List PartialFde) → m ≤ n → RisePartial n ps → RisePartial m ps
lower m n [] h rise = tt
lower m n (p ∷ ps) h rise = (omega (arith, rise.0), rise.1)

fde_of_entry : (b : Bool) (cie : Result Cie Error) (fde : Result PartialFde Error) (partial : PartialFde) →
    (if b then map_ok CieEntry cie else map_ok FdeEntry fde) ≡ Ok (FdeEntry partial) → fde ≡ Ok partial
fde_of_entry true (Ok cie) fde partial e = absurd (cc)
fde_of_entry true (Err r) fde partial e = absurd (cc)
fde_of_entry false cie (Ok fde) partial e = cc
fde_of_entry false cie (Err r) partial e = absurd (cc)

kept : (section : Section) (found : Prefix) (partial : PartialFde) → entry_of section found ≡ Ok (FdeEntry partial) → partial.prefix ≡ found
unfolding entry_of
kept section found partial is =
    found_kept found (cie_offset_of section found.id_offset found.id) partial (fde_of_entry (is_cie section found) (cie_of section found) (partial_fde_of section found) partial is)

listed_rise : (section : Section) (low high : ℕ) (r : Result Entry Error) (others : Readings Entry) → low < high → ((partial : PartialFde) → r ≡ Ok (FdeEntry partial) → partial.prefix.offset ≡ low) →
    RisePartial high (partial_fdes others.values) → RisePartial low (partial_fdes (readings_with false r others).values)
listed_rise section low high (Err e) others h each behind = tt
listed_rise section low high (Ok (CieEntry cie)) others h each behind = lower low high (partial_fdes others.values) (omega arith) behind
listed_rise section low high (Ok (FdeEntry partial)) others h each behind =
    let at : partial.prefix.offset ≡ low = each partial refl in
    (omega arith, lower (partial.prefix.offset + 1) high (partial_fdes others.values) (omega arith) behind)

gap_rise : (low high : ℕ) (b : Bool) (others : Readings Entry) → low ≤ high → RisePartial high (partial_fdes others.values) → RisePartial low (partial_fdes (if b then no_values None else others).values)
gap_rise low high true others h behind = tt
gap_rise low high false others h behind = lower low high (partial_fdes others.values) h behind

with_rise : (section : Section) (place after : ℕ) (b : Bool) (r : Result (Option Prefix) Error) (others : Readings Entry) → section.first ≤ place → place ≤ after →
    (prefix section section.source place).value ≡ r → ((o : Option Prefix) → r ≡ Ok o → place < after) →
    RisePartial (after - section.first) (partial_fdes others.values) → RisePartial (place - section.first) (partial_fdes (entries_with section b r others).values)
with_rise section place after true r others from onward is more behind = tt
with_rise section place after false (Err e) others from onward is more behind = tt
with_rise section place after false (Ok None) others from onward is more behind =
    gap_rise (place - section.first) (after - section.first) _ others (omega arith) behind
with_rise section place after false (Ok (Some found)) others from onward is more behind =
    let further : place < after = more (Some found) refl in
    let at : found.offset ≡ place - section.first = prefix_offset section section.source place found is in
    listed_rise section (place - section.first) (after - section.first) (entry_of section found) others (omega arith)
    (λ partial e. ap (λ (p : Prefix). p.offset) (kept section found partial e) ∙ at) behind

from_rise : (n : ℕ) (section : Section) (place : ℕ) → section.first ≤ place → RisePartial (place - section.first) (partial_fdes (entries_from n section place).values)
unfolding entries_from
from_rise zero section place from = tt
from_rise (suc n) section place from =
    let first = prefix section section.source place in
    let onward : place ≤ first.place = (onward_prefix section).after section.source place in
    with_rise section place first.place (nat_le section.source.last place) first.value (entries_from n section first.place) from onward refl
    (λ o e. (advances_prefix section).taken section.source place o e)
    (from_rise n section first.place (omega arith))

-- ---- FDEs

read_rise : (section : Section) (low : ℕ) (partial : PartialFde) (r : Result Fde Error) (ps : List PartialFde) → read_fde section partial ≡ r → low ≤ partial.prefix.offset →
    ((m : ℕ) → m ≤ partial.prefix.offset + 1 → Rise m (map (read_fde section) ps)) → Rise low (r ∷ map (read_fde section) ps)
read_rise section low partial (Err e) ps is h behind = behind low (omega arith)
read_rise section low partial (Ok fde) ps is h behind =
    let at : fde.offset ≡ partial.prefix.offset = fde_offset section partial (cie_at section partial.cie_offset) fde is in
    (omega arith, behind (fde.offset + 1) (omega arith))

readings_rise : (section : Section) (low : ℕ) (ps : List PartialFde) → RisePartial low ps → Rise low (map (read_fde section) ps)
readings_rise section low [] rise = tt
readings_rise section low (p ∷ ps) rise =
    read_rise section low p (read_fde section p) ps refl rise.0 (λ m h. readings_rise section m ps (lower m (p.prefix.offset + 1) ps h rise.1))

pub fdes_rise : (section : Section) → Rise 0 (fde_readings section)
fdes_rise section =
    readings_rise section 0 (partial_fdes (entries section).values)
    (lower 0 (section.first - section.first) (partial_fdes (entries section).values) (omega arith) (from_rise (section.source.last - section.first) section section.first (omega arith)))
