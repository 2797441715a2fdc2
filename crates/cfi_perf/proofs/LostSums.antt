-- What was lost, record by record, and whether there are samples.
use Rattle.std.proofs.Common.{◌≡◌, ◌∙◌, ◌<◌, ◌≤◌, ◌+◌, ◌-◌, ◌^◌, ℕ, Bool, List, [], ◌∷◌, length, get_or, drop, map, refl, sym, ap, ap₂, arith}
use Rattle.std.specs.Prelude.{min, ◌||◌}
use Rattle.std.specs.List.{list_any, sum_by}
use Rattle.std.proofs.lemmas.List.{drop_all, get_or-map, length-map}
use Rattle.std.proofs.lemmas.List.Sums.{sum_by-drop_more}
use Rattle.cfi_perf.specs.declared.record.Lost.{Lost}
use Rattle.cfi_perf.specs.declared.record.Record.{Record as RecordOfCode}
use Rattle.cfi_perf.specs.Events.{Record, record_view}
use Rattle.cfi_perf.specs.Recordings.{lost_of, total}

abbrev pub count_in : (Lost → ℕ) → Record → ℕ
count_in count r = count (lost_of r.event)

-- what was found and what those from a place on say is the total of all
abbrev pub IsTotal : (Lost → ℕ) → List Record → ℕ → ℕ → Type 0
IsTotal count all i found = min (found + sum_by (count_in count) (drop i all)) (2 ^ 64 - 1) ≡ total count all

add_first : (found more rest most : ℕ) → min (min (found + more) most + rest) most ≡ min (found + (more + rest)) most
add_first found more rest most = omega arith

module _ (count : Lost → ℕ) (list : List RecordOfCode) (i : ℕ) where
  pub one_more : (r : RecordOfCode) (found next : ℕ) → r ≡ get_or list i r → i < length list → next ≡ min (found + count (lost_of (record_view r).event)) (2 ^ 64 - 1)
      → IsTotal count (map record_view list) i found → IsTotal count (map record_view list) (i + 1) next
  one_more r found next is inside more before =
      let all = map record_view list in
      let rest = sum_by (count_in count) (drop (i + 1) all) in
      let first : sum_by (count_in count) (drop i all) ≡ count_in count (get_or all i (record_view r)) + rest = sum_by-drop_more (count_in count) all i (record_view r) (rw (length-map list record_view) inside) in
      let here : get_or all i (record_view r) ≡ record_view r = get_or-map record_view list i r (record_view r) inside ∙ ap record_view (sym is) in
      ap (λ (n : ℕ). min (n + rest) (2 ^ 64 - 1)) more
      ∙ (add_first found (count_in count (record_view r)) rest (2 ^ 64 - 1)
      ∙ (ap (λ (x : Record). min (found + (count_in count x + rest)) (2 ^ 64 - 1)) (sym here)
      ∙ (ap (λ (n : ℕ). min (found + n) (2 ^ 64 - 1)) (sym first) ∙ before)))

  pub none_left : (found : ℕ) → length list ≤ i → found < 2 ^ 64 → IsTotal count (map record_view list) i found → found ≡ total count (map record_view list)
  none_left found passed small before =
      let all = map record_view list in
      let none : drop i all ≡ [] = drop_all i all (rw (length-map list record_view) passed) in
      let same : min (found + 0) (2 ^ 64 - 1) ≡ found = omega (arith, small) in
      sym same ∙ (sym (ap (λ (left : List Record). min (found + sum_by (count_in count) left) (2 ^ 64 - 1)) none) ∙ before)

pub any_viewed : (p : Record → Bool) (xs : List RecordOfCode) → list_any (λ x. p (record_view x)) xs ≡ list_any p (map record_view xs)
any_viewed p [] = refl
any_viewed p (x ∷ xs) = ap (λ (b : Bool). p (record_view x) || b) (any_viewed p xs)

abbrev made : ℕ → ℕ → Lost
made n m = record { records = n; samples = m }

pub both_are : (n m x y : ℕ) → n ≡ x → m ≡ y → ◌≡◌ {A = Lost} (record { records = n; samples = m }) (record { records = x; samples = y })
both_are n m x y e f = ap₂ made e f

-- what is added without going past 64 bits has them
pub below : (sum total : ℕ) → sum ≡ min total (2 ^ 64 - 1) → sum < 2 ^ 64
below sum total is = omega (arith, is)
