-- What a check finds makes a table faithful, and what it names instead doesn't.
use Rattle.std.proofs.Common.{◌≡◌, ◌≢◌, ◌≤◌, ◌<◌, ◌+◌, ℕ, suc, true, false, List, [], ◌∷◌, length, Result, Ok, Err, refl, sym, ap, ◌∙◌, subst, inl, inr, arith, ⊎_elim}
use Rattle.std.specs.Prelude.{◌==◌, IsSome, IsOk, IsOkAnd}
use Rattle.std.specs.List.{AllByRecursion, IsDistinct, list_any}
use Rattle.std.proofs.lemmas.Bool.{cases_Bool, cases_lt, eqb-true, eq-eqb}
use Rattle.std.proofs.lemmas.Map.Steps.{le-length_from_below}
use Rattle.cfi_read_core.specs.declared.error.Error.{Error}
use Rattle.cfi_parts.specs.declared.pointer.Pointer.{Pointer}
use Rattle.cfi_parts.specs.declared.pointer.Pointer.TheVariants.{Direct}
use Rattle.cfi_entry.specs.Sections.{Section}
use Rattle.cfi_entry.specs.Fdes.{Fde, Covers, end_of}
use Rattle.cfi_entry.specs.Entries.{fde_at}
use Rattle.cfi_unwind.specs.Scan.{fde_readings, IsAmong}
use Rattle.cfi_unwind.proofs.EntryLemmas.{fde_at_its_offset}
use Rattle.gimli_cfi.specs.BoundaryRows.{AreRising}
use Rattle.gimli_cfi.specs.TableCheck.{HasRow, IsListed, AreListed}
use Rattle.gimli_cfi.specs.EhFrameHdr.{HeaderSection, Table, value_size, start_of, target_of}
use Rattle.gimli_cfi.specs.FaithfulTables.{IsFaithful, IsRowOf, IsFdeIn}
use Rattle.gimli_cfi.proofs.Counting.{at_most_count, all_of_count}
use Rattle.gimli_cfi.proofs.OffsetsRise.{Rise, fdes_rise}
use Rattle.gimli_cfi.proofs.Rising.{value_of, ok_same}

-- an FDE of the section is known by its offset
pub same_fde : (section : Section) (fde other : Fde) → IsFdeIn section fde → IsFdeIn section other → other.offset ≡ fde.offset → other ≡ fde
same_fde section fde other is_fde is_other same =
    let there = (fde_at_its_offset section fde is_fde).at_offset in
    let other_there = (fde_at_its_offset section other is_other).at_offset in
    let equal : fde_at section other.offset ≡ fde_at section fde.offset = ap (fde_at section) same in
    cc

same_offset : (eh_frame m n : ℕ) (r : Result Pointer Error) → r ≡ Ok (Direct (eh_frame + m)) → r ≡ Ok (Direct (eh_frame + n)) → m ≡ n
same_offset eh_frame m n r e f = let sums : eh_frame + m ≡ eh_frame + n = cc in omega arith

module _ (header : HeaderSection) (table : Table) (eh_frame : ℕ) where
  abbrev start : ℕ → Result ℕ Error
  start = start_of header table

  abbrev RowOf : ℕ → Fde → Type 0
  RowOf k fde = IsRowOf header table eh_frame k fde

  abbrev Listed : List (Result Fde Error) → Type 0
  Listed rs = AllByRecursion (IsListed header table eh_frame) rs

  -- ---- the row of each FDE

  abbrev rows_of : (rs : List (Result Fde Error)) → Listed rs → List ℕ
  rows_of [] listed = []
  rows_of (Ok fde ∷ rs) listed = listed.0.k ∷ rows_of rs listed.1
  rows_of (Err e ∷ rs) listed = []

  many : (rs : List (Result Fde Error)) (listed : Listed rs) → length (rows_of rs listed) ≡ length rs
  many [] listed = refl
  many (Ok fde ∷ rs) listed = ap suc (many rs listed.1)
  many (Err e ∷ rs) listed = absurd listed.0

  inside : (rs : List (Result Fde Error)) (listed : Listed rs) → AllByRecursion (λ r. r < table.count) (rows_of rs listed)
  inside [] listed = tt
  inside (Ok fde ∷ rs) listed = (listed.0.inside, inside rs listed.1)
  inside (Err e ∷ rs) listed = absurd listed.0

  differs : (j k o : ℕ) (low : ℕ) (fde : Fde) → target_of header table j ≡ Ok (Direct (eh_frame + o)) → o < low → low ≤ fde.offset → RowOf k fde → (j == k) ≡ false
  differs j k o low fde at before from row =
      ⊎_elim
      (λ (equal : (j == k) ≡ true).
      let same : j ≡ k = eqb-true _ _ equal in
      let here : target_of header table k ≡ Ok (Direct (eh_frame + o)) = subst (λ (i : ℕ). target_of header table i ≡ Ok (Direct (eh_frame + o))) same at in
      let offsets : o ≡ fde.offset = same_offset eh_frame o fde.offset (target_of header table k) here row.target in absurd (omega arith))
      (λ (other : (j == k) ≡ false). other)
      (cases_Bool (j == k))

  apart_from : (j o low : ℕ) (rs : List (Result Fde Error)) (listed : Listed rs) → target_of header table j ≡ Ok (Direct (eh_frame + o)) → o < low → Rise low rs →
      AllByRecursion (λ r. (j == r) ≡ false) (rows_of rs listed)
  apart_from j o low [] listed at before rise = tt
  apart_from j o low (Ok fde ∷ rs) listed at before rise =
      (differs j listed.0.k o low fde at before rise.0 listed.0.row, apart_from j o (fde.offset + 1) rs listed.1 at (omega (arith, rise.0)) rise.1)
  apart_from j o low (Err e ∷ rs) listed at before rise = absurd listed.0

  distinct : (low : ℕ) (rs : List (Result Fde Error)) (listed : Listed rs) → Rise low rs → IsDistinct (λ a b. a == b) (rows_of rs listed)
  unfolding IsDistinct
  distinct low [] listed rise = tt
  distinct low (Ok fde ∷ rs) listed rise =
      (apart_from listed.0.k fde.offset (fde.offset + 1) rs listed.1 listed.0.row.target (omega arith) rise.1, distinct (fde.offset + 1) rs listed.1 rise.1)
  distinct low (Err e ∷ rs) listed rise = absurd listed.0

  -- FDEs that rise and have rows are no more than the rows
  pub at_most_rows : (rs : List (Result Fde Error)) → Listed rs → Rise 0 rs → length rs ≤ table.count
  at_most_rows rs listed rise =
      let number : length (rows_of rs listed) ≡ length rs = many rs listed in
      let low : length (rows_of rs listed) ≤ table.count = at_most_count (rows_of rs listed) table.count (distinct 0 rs listed rise) (inside rs listed) in
      omega (arith, number, low)

  -- whose row it is
  owner : (k : ℕ) (rs : List (Result Fde Error)) (listed : Listed rs) → list_any (λ r. k == r) (rows_of rs listed) ≡ true → (fde : Fde) × IsAmong rs fde × RowOf k fde
  owner k [] listed there = absurd (cc)
  owner k (Ok fde ∷ rs) listed there =
      ⊎_elim
      (λ (here : (k == listed.0.k) ≡ true). (fde, inl refl, subst (λ (i : ℕ). RowOf i fde) (sym (eqb-true _ _ here)) listed.0.row))
      (λ (elsewhere : (k == listed.0.k) ≡ false). let behind = owner k rs listed.1 (rw elsewhere at there) in (behind.0, inr behind.1, behind.2))
      (cases_Bool (k == listed.0.k))
  owner k (Err e ∷ rs) listed there = absurd listed.0

  row_of : (fde : Fde) (rs : List (Result Fde Error)) → Listed rs → IsAmong rs fde → HasRow header table eh_frame fde
  row_of fde [] listed among = absurd among
  row_of fde (Ok first ∷ rs) listed among =
      ⊎_elim
      (λ (here : Ok first ≡ Ok fde). let same : first ≡ fde = cc in subst (λ (f : Fde). HasRow header table eh_frame f) same listed.0)
      (λ behind. row_of fde rs listed.1 behind)
      among
  row_of fde (Err e ∷ rs) listed among = absurd listed.0

  read : (rs : List (Result Fde Error)) → Listed rs → AllByRecursion IsOk rs
  read [] listed = tt
  read (Ok fde ∷ rs) listed = (refl, read rs listed.1)
  read (Err e ∷ rs) listed = absurd listed.0

  -- ---- soundness

  module _ (section : Section) (rising : AreRising start table.count) (listed : AreListed header table eh_frame section) where
    no_cover : (fde other : Fde) (j k : ℕ) → IsFdeIn section fde → IsFdeIn section other → fde ≢ other → (first : HasRow header table eh_frame fde) → RowOf k other → k < table.count →
        first.k ≡ j → Covers fde other.initial → ⊥
    no_cover fde other j k is_fde is_other differ first row within is covered =
        let own : RowOf j fde = subst (λ (i : ℕ). RowOf i fde) is first.row in
        let own_inside : j < table.count = omega (arith, first.inside, is) in
        ⊎_elim
        (λ (before : j < k).
        let next = rising.given (j + 1) (omega arith) in
        let clear : IsOkAnd (start (j + 1)) (λ s. end_of fde ≤ s) = subst (λ (i : ℕ). IsOkAnd (start (i + 1)) (λ s. end_of fde ≤ s)) is (first.clear (omega (arith, is, before, within))) in
        let ends : end_of fde ≤ next.0 = value_of (start (j + 1)) next.0 (λ s. end_of fde ≤ s) next.1 clear in
        let up : next.0 ≤ other.initial =
        ⊎_elim
        (λ (further : j + 1 < k). let more : next.0 < other.initial = rising.rise (j + 1) k next.0 other.initial further within next.1 row.start in omega arith)
        (λ (upto : k ≤ j + 1).
        let here : j + 1 ≡ k = omega arith in
        let same : next.0 ≡ other.initial = ok_same next.0 other.initial (start k) (subst (λ (i : ℕ). start i ≡ Ok next.0) here next.1) row.start in omega arith)
        (cases_lt (j + 1) k) in
        let covers_end = covered.1 in
        absurd (omega arith))
        (λ (from : k ≤ j).
        ⊎_elim
        (λ (behind : k < j).
        let above : other.initial < fde.initial = rising.rise k j other.initial fde.initial behind own_inside row.start own.start in
        let covers_from = covered.0 in
        absurd (omega arith))
        (λ (upto : j ≤ k).
        let here : j ≡ k = omega arith in
        let at : target_of header table k ≡ Ok (Direct (eh_frame + fde.offset)) = subst (λ (i : ℕ). target_of header table i ≡ Ok (Direct (eh_frame + fde.offset))) here own.target in
        let offsets : fde.offset ≡ other.offset = same_offset eh_frame fde.offset other.offset (target_of header table k) at row.target in
        differ (same_fde section other fde is_other is_fde offsets))
        (cases_lt k j))
        (cases_lt j k)

    pub faithful : IsSome (value_size table.encoding) → IsFaithful header table eh_frame section
    faithful searchable = record {
      searchable = searchable;
      only_fdes = λ k within.
          let rs = fde_readings section in
          let rows = rows_of rs listed.listed in
          let number : length rows ≡ table.count = many rs listed.listed ∙ listed.many in
          owner k rs listed.listed (all_of_count rows table.count k (distinct 0 rs listed.listed (fdes_rise section)) (inside rs listed.listed) number within);
      starts_increase = rising.rise;
      entries_end = listed.entries_end;
      fdes_read = read (fde_readings section) listed.listed;
      all_fdes = λ fde is_fde. let own = row_of fde (fde_readings section) listed.listed is_fde in (own.k, own.inside, own.row);
      no_overlap = λ fde other is_fde is_other differ covered.
          let first = row_of fde (fde_readings section) listed.listed is_fde in
          let second = row_of other (fde_readings section) listed.listed is_other in
          no_cover fde other first.k second.k is_fde is_other differ first second.row second.inside refl covered;
    }

  -- ---- completeness

  module _ (section : Section) (is : IsFaithful header table eh_frame section) where
    pub rising_of : AreRising start table.count
    rising_of = record {
      given = λ k within. let row = is.only_fdes k within in (row.0.initial, row.2.start);
      rise = is.starts_increase;
    }

    clear_of : (fde : Fde) (k : ℕ) → IsFdeIn section fde → RowOf k fde → k + 1 < table.count → IsOkAnd (start (k + 1)) (λ s. end_of fde ≤ s)
    clear_of fde k is_fde row within =
        let next = is.only_fdes (k + 1) within in
        let above : fde.initial < next.0.initial = is.starts_increase k (k + 1) fde.initial next.0.initial (omega arith) within row.start next.2.start in
        let ends : end_of fde ≤ next.0.initial =
        ⊎_elim
        (λ (over : next.0.initial < end_of fde).
        let differ : fde ≢ next.0 = λ same. let equal : fde.initial ≡ next.0.initial = ap (λ (f : Fde). f.initial) same in absurd (omega arith) in
        absurd (is.no_overlap fde next.0 is_fde next.1 differ (omega arith, over)))
        (λ (within : end_of fde ≤ next.0.initial). within)
        (cases_lt next.0.initial (end_of fde)) in
        subst (λ (r : Result ℕ Error). IsOkAnd r (λ s. end_of fde ≤ s)) (sym next.2.start) ends

    listed_by : (rs : List (Result Fde Error)) → AllByRecursion IsOk rs → ((fde : Fde) → IsAmong rs fde → IsFdeIn section fde) → Listed rs
    listed_by [] ok each = tt
    listed_by (Ok fde ∷ rs) ok each =
        let is_fde = each fde (inl refl) in
        let found = is.all_fdes fde is_fde in
        (record { k = found.0; inside = found.1; row = found.2; clear = λ within. clear_of fde found.0 is_fde found.2 within }, listed_by rs ok.1 (λ other there. each other (inr there)))
    listed_by (Err e ∷ rs) ok each = let no = ok.0 in absurd (cc)

    pub listed_of : Listed (fde_readings section)
    listed_of = listed_by (fde_readings section) is.fdes_read (λ fde there. there)

    same_row : (j k : ℕ) (fde : Fde) → RowOf j fde → RowOf k fde → j < table.count → k < table.count → (j == k) ≡ true
    same_row j k fde row_j row_k within_j within_k =
        ⊎_elim
        (λ (before : j < k). let clash : fde.initial < fde.initial = is.starts_increase j k fde.initial fde.initial before within_k row_j.start row_k.start in absurd (omega arith))
        (λ (from : k ≤ j).
        ⊎_elim
        (λ (behind : k < j). let clash : fde.initial < fde.initial = is.starts_increase k j fde.initial fde.initial behind within_j row_k.start row_j.start in absurd (omega arith))
        (λ (upto : j ≤ k). eq-eqb _ _ (omega arith))
        (cases_lt k j))
        (cases_lt j k)

    owned : (q : ℕ) (fde : Fde) (rs : List (Result Fde Error)) (listed : Listed rs) → q < table.count → RowOf q fde → IsAmong rs fde → list_any (λ r. q == r) (rows_of rs listed) ≡ true
    owned q fde [] listed within row among = absurd among
    owned q fde (Ok first ∷ rs) listed within row among =
        ⊎_elim
        (λ (here : Ok first ≡ Ok fde).
        let same : first ≡ fde = cc in
        let own : RowOf listed.0.k fde = subst (λ (f : Fde). RowOf listed.0.k f) same listed.0.row in
        let equal : (q == listed.0.k) ≡ true = same_row q listed.0.k fde row own within listed.0.inside in rw equal refl)
        (λ behind.
        let there : list_any (λ r. q == r) (rows_of rs listed.1) ≡ true = owned q fde rs listed.1 within row behind in
        ⊎_elim (λ (here : (q == listed.0.k) ≡ true). rw here refl) (λ (elsewhere : (q == listed.0.k) ≡ false). rw elsewhere there) (cases_Bool (q == listed.0.k)))
        among
    owned q fde (Err e ∷ rs) listed within row among = absurd listed.0

    -- there are as many FDEs as rows
    pub count_of : length (fde_readings section) ≡ table.count
    count_of =
        let rs = fde_readings section in
        let rows = rows_of rs listed_of in
        let number : length rows ≡ length rs = many rs listed_of in
        let low : length rows ≤ table.count = at_most_count rows table.count (distinct 0 rs listed_of (fdes_rise section)) (inside rs listed_of) in
        let high : table.count ≤ length rows = le-length_from_below rows table.count (λ q within. let row = is.only_fdes q within in owned q row.0 rs listed_of within row.2 row.1) in
        omega (arith, number, low, high)
