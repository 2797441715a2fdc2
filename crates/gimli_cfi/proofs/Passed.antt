-- Going through the entries of a section beside the rows of a table.
use Rattle.std.proofs.Common.{◌≡◌, ◌≢◌, ◌≤◌, ◌+◌, ◌-◌, ℕ, suc, List, [], ◌∷◌, map, length, Some, None, Result, Ok, Err, refl, sym, subst, inl, inr, arith}
use Rattle.std.specs.List.{AllByRecursion}
use Rattle.cfi_read_core.specs.declared.error.Error.{Error}
use Rattle.cfi_read_core.specs.ReadFunctions.{Readings, no_values, with_first}
use Rattle.cfi_entry.specs.Sections.{Section}
use Rattle.cfi_entry.specs.Cies.{Cie}
use Rattle.cfi_entry.specs.Fdes.{PartialFde, Fde}
use Rattle.cfi_entry.specs.Entries.{Entry, CieEntry, FdeEntry, entries}
use Rattle.cfi_unwind.specs.Scan.{partial_fdes, read_fde, fde_readings, IsAmong}
use Rattle.gimli_cfi.specs.declared.hdr.unfaithful.Unfaithful.{Unfaithful}
use Rattle.gimli_cfi.specs.declared.hdr.unfaithful.Unfaithful.TheVariants as reasons
use Rattle.gimli_cfi.specs.TableCheck.{HasRow, IsListed, AreListed, AreFewer, IsRefusedAt, IsReasonOfFde, IsReasonOfFdes}
use Rattle.gimli_cfi.specs.EhFrameHdr.{HeaderSection, Table}
use Rattle.gimli_cfi.proofs.Faithful.{at_most_rows}
use Rattle.gimli_cfi.proofs.OffsetsRise.{Rise, fdes_rise}

abbrev pub readings_in : Section → Readings Entry → List (Result Fde Error)
readings_in section readings = map (read_fde section) (partial_fdes readings.values)

-- The FDEs before those that are left have rows, which are no longer left; the others stand at or above an offset.
pub record Passed (header : HeaderSection) (table : Table) (eh_frame : ℕ) (section : Section) (rows_left : ℕ) (all left : Readings Entry) : Type 0 where
  pub refusal : left.refusal ≡ all.refusal
  pub fewer : rows_left ≤ table.count
  pub number : length (readings_in section all) + rows_left ≡ table.count + length (readings_in section left)
  pub listed : AllByRecursion (IsListed header table eh_frame) (readings_in section left) → AllByRecursion (IsListed header table eh_frame) (readings_in section all)
  pub among : (fde : Fde) → IsAmong (readings_in section left) fde → IsAmong (readings_in section all) fde
  pub refused : (o : ℕ) (e : Error) → IsRefusedAt section (partial_fdes left.values) o e → IsRefusedAt section (partial_fdes all.values) o e
  pub from : ℕ
  pub rise : Rise from (readings_in section left)
  -- so many more FDEs at most can have rows
  pub room : (rs : List (Result Fde Error)) → AllByRecursion (IsListed header table eh_frame) rs → Rise from rs → length rs ≤ rows_left

module _ (header : HeaderSection) (table : Table) (eh_frame : ℕ) (section : Section) where
  pub passed_none : Passed header table eh_frame section table.count (entries section) (entries section)
  passed_none = record {
    refusal = refl;
    fewer = omega arith;
    number = omega arith;
    listed = λ h. h;
    among = λ fde h. h;
    refused = λ o e h. h;
    from = 0;
    rise = fdes_rise section;
    room = at_most_rows header table eh_frame;
  }

  pub passed_cie : {rows_left : ℕ} {all left others : Readings Entry} (cie : Cie) → Passed header table eh_frame section rows_left all left → left ≡ with_first (CieEntry cie) others →
      Passed header table eh_frame section rows_left all others
  passed_cie {rows_left = rows_left} {all = all} cie passed is =
      let here : Passed header table eh_frame section rows_left all (with_first (CieEntry cie) _) = subst (λ (x : Readings Entry). Passed header table eh_frame section rows_left all x) is passed in
      record {
        refusal = here.refusal;
        fewer = here.fewer;
        number = here.number;
        listed = here.listed;
        among = here.among;
        refused = here.refused;
        from = here.from;
        rise = here.rise;
        room = here.room;
      }

  module _ {rows_left : ℕ} {all left others : Readings Entry} (partial : PartialFde) (passed : Passed header table eh_frame section rows_left all left) (is : left ≡ with_first (FdeEntry partial) others) where
    here : Passed header table eh_frame section rows_left all (with_first (FdeEntry partial) others)
    here = subst (λ (x : Readings Entry). Passed header table eh_frame section rows_left all x) is passed

    pub refused_fde : (e : Error) → read_fde section partial ≡ Err e → IsRefusedAt section (partial_fdes all.values) partial.prefix.offset e
    refused_fde e read = here.refused partial.prefix.offset e (inl (refl, read))

    module _ (fde : Fde) (read : read_fde section partial ≡ Ok fde) where
      pub is_among : IsAmong (readings_in section all) fde
      is_among = here.among fde (inl read)

      rises : Rise here.from (Ok fde ∷ readings_in section others)
      rises = subst (λ (r : Result Fde Error). Rise here.from (r ∷ readings_in section others)) read here.rise

      -- an FDE with a row has one of those that are left
      pub row_left : HasRow header table eh_frame fde → 1 ≤ rows_left
      row_left row = here.room (Ok fde ∷ []) (row, tt) (rises.0, tt)

      pub passed_fde : HasRow header table eh_frame fde → Passed header table eh_frame section (rows_left - 1) all others
      passed_fde row =
          let some : 1 ≤ rows_left = row_left row in
          record {
            refusal = here.refusal;
            fewer = omega (arith, here.fewer);
            number = omega (arith, here.number, some);
            listed = λ h. here.listed (subst (λ (r : Result Fde Error). IsListed header table eh_frame r) (sym read) row, h);
            among = λ other h. here.among other (inr h);
            refused = λ o e h. here.refused o e (inr h);
            from = fde.offset + 1;
            rise = rises.1;
            room = λ rs listed rise.
                let one_more : suc (length rs) ≤ rows_left = here.room (Ok fde ∷ rs) (row, listed) (rises.0, rise) in omega (arith, one_more);
          }

-- ---- at the end

module _ (header : HeaderSection) (table : Table) (eh_frame : ℕ) (section : Section) {rows_left : ℕ} {left : Readings Entry} (passed : Passed header table eh_frame section rows_left (entries section) left) where
  pub all_listed : left ≡ no_values None → rows_left ≡ 0 → AreListed header table eh_frame section
  all_listed is none =
      let here : Passed header table eh_frame section rows_left (entries section) (no_values None) = subst (λ (x : Readings Entry). Passed header table eh_frame section rows_left (entries section) x) is passed in
      record { entries_end = sym here.refusal; listed = here.listed tt; many = omega (arith, here.number, none) }

  pub fewer_fdes : left ≡ no_values None → rows_left ≢ 0 → AreFewer table section table.count (table.count - rows_left)
  fewer_fdes is some =
      let here : Passed header table eh_frame section rows_left (entries section) (no_values None) = subst (λ (x : Readings Entry). Passed header table eh_frame section rows_left (entries section) x) is passed in
      (refl, omega (arith, here.number, here.fewer), omega (arith, here.fewer, some))

  pub entry_refused : (e : Error) → left ≡ no_values (Some e) → (entries section).refusal ≡ Some e
  entry_refused e is =
      let here : Passed header table eh_frame section rows_left (entries section) (no_values (Some e)) = subst (λ (x : Readings Entry). Passed header table eh_frame section rows_left (entries section) x) is passed in
      sym here.refusal

-- the reason of an FDE is one of them all
pub reason_of_fde : (header : HeaderSection) (table : Table) (eh_frame : ℕ) (section : Section) (fde : Fde) (reason : Unfaithful) → IsAmong (fde_readings section) fde →
    IsReasonOfFde header table eh_frame fde reason → IsReasonOfFdes header table eh_frame section reason
reason_of_fde header table eh_frame section fde (reasons.Header e) among why = absurd why
reason_of_fde header table eh_frame section fde (reasons.Row k e) among why = why
reason_of_fde header table eh_frame section fde (reasons.Order k s t) among why = absurd why
reason_of_fde header table eh_frame section fde (reasons.Entry o e) among why = absurd why
reason_of_fde header table eh_frame section fde (reasons.Fde o e) among why = absurd why
reason_of_fde header table eh_frame section fde (reasons.NoRow o a) among why = (fde, among, why.0, why.1, why.2)
reason_of_fde header table eh_frame section fde (reasons.Overlap o end next) among why = (fde, among, why.0, why.1)
reason_of_fde header table eh_frame section fde (reasons.Count rows fdes) among why = absurd why
