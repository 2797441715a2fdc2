-- The records of a profile, read one after the other.
use Rattle.std.proofs.Common.{◌≡◌, ◌∙◌, List, [], ◌∷◌, ◌++◌, Option, Some, None, Result, Ok, Err, map, refl, sym, ap, ap₂, append_assoc, append-nil}
use Rattle.cfi_perf.specs.declared.error.PerfError.{PerfError}
use Rattle.cfi_perf.specs.Events.{Record}
use Rattle.cfi_perf.specs.Records.{Records, error_item, record_items, no_records, with_record}

-- records before the others
abbrev pub behind_these : List Record → Records → Records
behind_these first others = record { records = first ++ others.records; error = others.error }

abbrev all_of : List Record → Option PerfError → Records
all_of rs e = record { records = rs; error = e }

abbrev items_of : List Record → Option PerfError → List (Result Record PerfError)
items_of rs e = map Ok rs ++ error_item e

-- the items are those of one list and one error
one_list : (rs ss : List Record) (x y : Option PerfError) → items_of rs x ≡ items_of ss y → all_of rs x ≡ all_of ss y
one_list [] [] None None e = refl
one_list [] [] None (Some y) e = absurd cc
one_list [] [] (Some x) None e = absurd cc
one_list [] [] (Some x) (Some y) e = let is : x ≡ y = cc in ap (λ (error : PerfError). all_of [] (Some error)) is
one_list [] (s ∷ ss) None y e = absurd cc
one_list [] (s ∷ ss) (Some x) y e = absurd cc
one_list (r ∷ rs) [] x None e = absurd cc
one_list (r ∷ rs) [] x (Some y) e = absurd cc
one_list (r ∷ rs) (s ∷ ss) x y e =
    let first : r ≡ s = cc in
    let rest : items_of rs x ≡ items_of ss y = cc in
    ap₂ with_record first (one_list rs ss x y rest)

-- a record comes first
first_is : (old new : Records) (r : Record) → record_items old ≡ Ok r ∷ record_items new → old ≡ with_record r new
first_is old new r e = one_list old.records (r ∷ new.records) old.error new.error e

-- or the error, which ends them
error_is : (old new : Records) (error : PerfError) → record_items old ≡ Err error ∷ record_items new → old ≡ no_records (Some error)
error_is old new error e = by old.records old.error e
  where
    by : (rs : List Record) (x : Option PerfError) → items_of rs x ≡ Err error ∷ record_items new → all_of rs x ≡ no_records (Some error)
    by [] None e = absurd cc
    by [] (Some x) e = let is : x ≡ error = cc in ap (λ (error : PerfError). no_records (Some error)) is
    by (r ∷ rs) x e = absurd cc

none_are : (old : Records) → record_items old ≡ [] → old ≡ no_records None
none_are old e = one_list old.records [] old.error None e

pub one_read : (first next : List Record) (old new whole : Records) (r : Record) → next ≡ first ++ r ∷ [] → behind_these first old ≡ whole → record_items old ≡ Ok r ∷ record_items new → behind_these next new ≡ whole
one_read first next old new whole r is before e =
    ap (λ (front : List Record). behind_these front new) is
    ∙ (ap (λ (records : List Record). all_of records new.error) (append_assoc first (r ∷ []) new.records)
    ∙ (ap (behind_these first) (sym (first_is old new r e)) ∙ before))

pub error_read : (first : List Record) (old new whole : Records) (error : PerfError) → behind_these first old ≡ whole → record_items old ≡ Err error ∷ record_items new
    → all_of first (Some error) ≡ whole
error_read first old new whole error before e =
    ap (λ (records : List Record). all_of records (Some error)) (sym (append-nil first)) ∙ (ap (behind_these first) (sym (error_is old new error e)) ∙ before)

pub all_read : (first : List Record) (old whole : Records) → behind_these first old ≡ whole → record_items old ≡ [] → all_of first None ≡ whole
all_read first old whole before e =
    ap (λ (records : List Record). all_of records None) (sym (append-nil first)) ∙ (ap (behind_these first) (sym (none_are old e)) ∙ before)
