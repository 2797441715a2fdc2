-- Where a reason against it holds, a table isn't faithful; and how a reason is found.
use Rattle.std.proofs.Common.{◌≡◌, ◌≢◌, ◌≤◌, ◌<◌, ◌+◌, ℕ, List, [], ◌∷◌, map, Option, Some, None, Result, Ok, Err, refl, sym, ap, subst, inl, inr, arith, ⊎_elim}
use Rattle.std.specs.Prelude.{IsSome, IsOk, IfErr, ok_or}
use Rattle.std.specs.List.{AllByRecursion}
use Rattle.std.proofs.lemmas.Bool.{cases_lt}
use Rattle.cfi_read_core.specs.declared.error.Error.{Error}
use Rattle.cfi_read_core.specs.declared.error.Error.TheVariants.{UnsupportedPointerEncoding}
use Rattle.cfi_parts.specs.declared.pointer.Pointer.{Pointer}
use Rattle.cfi_parts.specs.declared.pointer.Pointer.TheVariants.{Direct, Indirect}
use Rattle.cfi_parts.specs.Pointers.{direct}
use Rattle.cfi_entry.specs.Sections.{Section}
use Rattle.cfi_entry.specs.Fdes.{Fde, PartialFde}
use Rattle.cfi_entry.specs.Entries.{entries}
use Rattle.cfi_unwind.specs.Scan.{partial_fdes, read_fde}
use Rattle.gimli_cfi.specs.declared.hdr.unfaithful.Unfaithful.{Unfaithful}
use Rattle.gimli_cfi.specs.declared.hdr.unfaithful.Unfaithful.TheVariants as reasons
use Rattle.gimli_cfi.specs.BoundaryRows.{IsBoundaryRow, IsRefusalOfRow, AreRising}
use Rattle.gimli_cfi.specs.TableCheck.{Listing, ListsFaithfully, IsHeaderRefusal, IsRefusalIn, IsRefusedAt, IsRowRefusal, HasNoRow, Overlaps, IsReason, IsReasonOfStarts, IsReasonOfFde, IsReasonOfFdes}
use Rattle.gimli_cfi.specs.EhFrameHdr.{HeaderSection, Table, value_size, start_of, target_of}
use Rattle.gimli_cfi.specs.FaithfulTables.{IsFaithful, IsFdeIn}
use Rattle.gimli_cfi.proofs.Faithful.{count_of}
use Rattle.gimli_cfi.proofs.Rising.{boundary_below, above_boundary, ok_same}

none_refused : (section : Section) (partials : List PartialFde) (o : ℕ) (e : Error) → AllByRecursion IsOk (map (read_fde section) partials) → IsRefusedAt section partials o e → ⊥
none_refused section [] o e ok refused = refused
none_refused section (partial ∷ partials) o e ok refused =
    ⊎_elim (λ here. let is : read_fde section partial ≡ Err e = here.1 in let read = rw is at ok.0 in absurd (cc)) (λ further. none_refused section partials o e ok.1 further) refused

module _ (header : HeaderSection) (table : Table) (eh_frame : ℕ) (section : Section) (is : IsFaithful header table eh_frame section) where
  no_row_refusal : (k : ℕ) (e : Error) → IsRowRefusal header table k e → ⊥
  no_row_refusal k e (within, refused) =
      let row = is.only_fdes k within in
      let given = row.2.start in
      let named = row.2.target in
      ⊎_elim (λ (no_start : start_of header table k ≡ Err e). absurd (cc)) (λ (no_target : target_of header table k ≡ Err e). absurd (cc)) refused

  searchable_size : (size : Option ℕ) (refusal e : Error) → IsSome size → ok_or size refusal ≡ Err e → ⊥
  searchable_size None refusal e some refused = absurd (cc)
  searchable_size (Some n) refusal e some refused = absurd (cc)

  no_header_refusal : (pointer : Pointer) (e : Error) → pointer ≡ Direct eh_frame → IsHeaderRefusal table pointer e → ⊥
  no_header_refusal pointer e at why =
      ⊎_elim
      (λ (refused : ok_or (value_size table.encoding) (UnsupportedPointerEncoding (record { 0 = table.encoding })) ≡ Err e). searchable_size (value_size table.encoding) _ e is.searchable refused)
      (λ (refused : direct pointer ≡ Err e). let given : Ok eh_frame ≡ Err e = rw at at refused in absurd (cc))
      why

  no_overlap : (fde : Fde) (end next : ℕ) → IsFdeIn section fde → Overlaps header table fde end next → ⊥
  no_overlap fde end next is_fde over =
      let after = is.only_fdes (over.k + 1) over.inside in
      let same : after.0.initial ≡ next = ok_same after.0.initial next (start_of header table (over.k + 1)) after.2.start over.next_start in
      let above : fde.initial < next = is.starts_increase over.k (over.k + 1) fde.initial next (omega arith) over.inside over.start over.next_start in
      let covered = over.covered in
      let ends = over.ends in
      let differ : fde ≢ after.0 = λ equal. let initials : fde.initial ≡ after.0.initial = ap (λ (f : Fde). f.initial) equal in absurd (omega arith) in
      is.no_overlap fde after.0 is_fde after.1 differ (omega arith, omega arith)

no_reason : (l : Listing) (eh_frame : ℕ) (is : IsFaithful l.header l.table eh_frame l.section) (reason : Unfaithful) → l.eh_frame ≡ Direct eh_frame → IsReason l reason → ⊥
no_reason l eh_frame is (reasons.Header e) at why = no_header_refusal l.header l.table eh_frame l.section is l.eh_frame e at why
no_reason l eh_frame is (reasons.Row k e) at why = no_row_refusal l.header l.table eh_frame l.section is k e why
no_reason l eh_frame is (reasons.Order k s t) at why =
    let above : s < t = is.starts_increase why.before k s t (omega (arith, why.follows)) why.inside why.start_before why.start_of_row in
    absurd (omega (arith, above, why.not_above))
no_reason l eh_frame is (reasons.Entry o e) at why = let ended = is.entries_end in let refused : (entries l.section).refusal ≡ Some e = why.1 in absurd (cc)
no_reason l eh_frame is (reasons.Fde o e) at why = none_refused l.section (partial_fdes (entries l.section).values) o e is.fdes_read why
no_reason l eh_frame is (reasons.NoRow o a) at why = let row = is.all_fdes why.0 why.1 in why.4 eh_frame at row.0 row.1 row.2
no_reason l eh_frame is (reasons.Overlap o end next) at why = no_overlap l.header l.table eh_frame l.section is why.0 end next why.1 why.3
no_reason l eh_frame is (reasons.Count rows fdes) at why =
    let many = count_of l.header l.table eh_frame l.section is in
    absurd (omega (arith, many, why.0, why.1, why.2))

pub not_faithful : (l : Listing) (reason : Unfaithful) → IsReason l reason → ListsFaithfully l → ⊥
not_faithful l reason why faithful = no_reason l faithful.0 faithful.2 reason faithful.1 why

-- ---- a row by a search

-- where the boundary row doesn't start at an FDE's first address, no row does
pub no_row_by_start : (header : HeaderSection) (table : Table) (eh_frame k s : ℕ) (fde : Fde) → AreRising (start_of header table) table.count → IsBoundaryRow (start_of header table) table.count fde.initial k →
    start_of header table k ≡ Ok s → s ≢ fde.initial → HasNoRow header table eh_frame fde
no_row_by_start header table eh_frame k s fde rising boundary is differ j within row =
    ⊎_elim
    (λ (before : j < k).
    let below : s ≤ fde.initial = boundary_below (start_of header table) table.count fde.initial k s boundary is (omega arith) in
    let above : fde.initial < s = rising.rise j k fde.initial s before boundary.inside row.start is in absurd (omega arith))
    (λ (from : k ≤ j).
    ⊎_elim
    (λ (behind : k < j).
    let above : fde.initial < fde.initial = above_boundary (start_of header table) table.count fde.initial k j s fde.initial rising boundary behind within is row.start in absurd (omega arith))
    (λ (upto : j ≤ k).
    let here : j ≡ k = omega arith in
    let own : start_of header table k ≡ Ok fde.initial = subst (λ (i : ℕ). start_of header table i ≡ Ok fde.initial) here row.start in
    differ (ok_same s fde.initial (start_of header table k) is own))
    (cases_lt k j))
    (cases_lt j k)

-- where the row that starts there names something else, no row names the FDE
pub no_row_by_target : (header : HeaderSection) (table : Table) (eh_frame k : ℕ) (target : Pointer) (fde : Fde) → AreRising (start_of header table) table.count → k < table.count →
    start_of header table k ≡ Ok fde.initial → target_of header table k ≡ Ok target → target ≢ Direct (eh_frame + fde.offset) → HasNoRow header table eh_frame fde
no_row_by_target header table eh_frame k target fde rising inside is names differ j within row =
    ⊎_elim
    (λ (before : j < k). let clash : fde.initial < fde.initial = rising.rise j k fde.initial fde.initial before inside row.start is in absurd (omega arith))
    (λ (from : k ≤ j).
    ⊎_elim
    (λ (behind : k < j). let clash : fde.initial < fde.initial = rising.rise k j fde.initial fde.initial behind within is row.start in absurd (omega arith))
    (λ (upto : j ≤ k).
    let here : j ≡ k = omega arith in
    let own : target_of header table k ≡ Ok (Direct (eh_frame + fde.offset)) = subst (λ (i : ℕ). target_of header table i ≡ Ok (Direct (eh_frame + fde.offset))) here row.target in
    differ (cc))
    (cases_lt k j))
    (cases_lt j k)

-- ---- where a part is refused

pub reason_in_start : (start : ℕ → Result ℕ Error) (count k : ℕ) (reason : Unfaithful) → k < count → IsRefusalIn (start k) k reason → IsReasonOfStarts start count reason
reason_in_start start count k reason within refused =
    subst (λ (x : Unfaithful). IsReasonOfStarts start count x) (sym refused.2) (within, refused.1)

pub start_for_fde : (header : HeaderSection) (table : Table) (eh_frame k : ℕ) (fde : Fde) (reason : Unfaithful) → k < table.count → IsRefusalIn (start_of header table k) k reason →
    IsReasonOfFde header table eh_frame fde reason
start_for_fde header table eh_frame k fde reason within refused =
    subst (λ (x : Unfaithful). IsReasonOfFde header table eh_frame fde x) (sym refused.2) (within, inl refused.1)

pub target_for_fde : (header : HeaderSection) (table : Table) (eh_frame k : ℕ) (fde : Fde) (reason : Unfaithful) → k < table.count → IsRefusalIn (target_of header table k) k reason →
    IsReasonOfFde header table eh_frame fde reason
target_for_fde header table eh_frame k fde reason within refused =
    subst (λ (x : Unfaithful). IsReasonOfFde header table eh_frame fde x) (sym refused.2) (within, inr refused.1)

-- rising starts aren't refused
pub never_refused : {A : Type 0} (start : ℕ → Result ℕ Error) (count : ℕ) (e : Error) → AreRising start count → IsRefusalOfRow start count e → A
never_refused start count e rising (k, within, refused) = let given = rising.given k within in let is = given.1 in absurd (cc)

-- ---- the reasons of a part

pub reason_of_starts : (l : Listing) (reason : Unfaithful) → IsReasonOfStarts (start_of l.header l.table) l.table.count reason → IsReason l reason
reason_of_starts l (reasons.Header e) why = absurd why
reason_of_starts l (reasons.Row k e) why = (why.0, inl why.1)
reason_of_starts l (reasons.Order k s t) why = why
reason_of_starts l (reasons.Entry o e) why = absurd why
reason_of_starts l (reasons.Fde o e) why = absurd why
reason_of_starts l (reasons.NoRow o a) why = absurd why
reason_of_starts l (reasons.Overlap o end next) why = absurd why
reason_of_starts l (reasons.Count rows fdes) why = absurd why

pub reason_of_fdes : (l : Listing) (eh_frame : ℕ) (reason : Unfaithful) → l.eh_frame ≡ Direct eh_frame → IsReasonOfFdes l.header l.table eh_frame l.section reason → IsReason l reason
reason_of_fdes l eh_frame (reasons.Header e) at why = absurd why
reason_of_fdes l eh_frame (reasons.Row k e) at why = why
reason_of_fdes l eh_frame (reasons.Order k s t) at why = absurd why
reason_of_fdes l eh_frame (reasons.Entry o e) at why = why
reason_of_fdes l eh_frame (reasons.Fde o e) at why = why
reason_of_fdes l eh_frame (reasons.NoRow o a) at why = (
  why.0,
  why.1,
  why.2,
  why.3,
  λ other at_other.
      let same : eh_frame ≡ other = cc in subst (λ (n : ℕ). HasNoRow l.header l.table n why.0) same why.4,
)
reason_of_fdes l eh_frame (reasons.Overlap o end next) at why = why
reason_of_fdes l eh_frame (reasons.Count rows fdes) at why = why

-- ---- small facts

pub direct_at : (pointer : Pointer) (eh_frame : ℕ) → Ok eh_frame ≡ direct pointer → pointer ≡ Direct eh_frame
direct_at (Direct a) eh_frame is = let same : eh_frame ≡ a = cc in ap Direct (sym same)
direct_at (Indirect a) eh_frame is = absurd (cc)

pub some_of : (size : Option ℕ) (n : ℕ) (e : Error) → Ok n ≡ ok_or size e → IsSome size
some_of None n e is = absurd (cc)
some_of (Some m) n e is = refl

pub if_err : {A E : Type 0} {P Q : E → Type 0} (r : Result A E) → ((x : E) → P x → Q x) → IfErr r P → IfErr r Q
if_err (Ok x) each is = tt
if_err (Err e) each is = each e is
