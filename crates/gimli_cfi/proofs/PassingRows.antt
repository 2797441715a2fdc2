-- Passing rows of a table at once: each way in which it ends.
use Rattle.std.proofs.Common.{◌≡◌, ◌≤◌, ◌<◌, ◌-◌, ℕ, Option, Some, None, Result, Ok, Err, refl, sym, ap, ◌∙◌, subst}
use Rattle.std.specs.Prelude.{ok_or}
use borrow.Author.Tests.{lt-leb, le-leb}
use Rattle.cfi_read_core.specs.declared.error.Error.{Error}
use Rattle.cfi_read_core.specs.ReadFunctions.{Position, Source}
use Rattle.cfi_parts.specs.declared.pointer.Pointer.{Pointer}
use Rattle.gimli_cfi.specs.EhFrameHdr.{rows_passed, value_size}
use Rattle.gimli_cfi.specs.HeaderRows.{Walk, next_row}
use Rattle.gimli_cfi.specs.PassedRows.{walk_by, walk_past_by, walk_past, MeetsAfter}

module _ (walk : Walk) (n : ℕ) where
  unsearchable_by : (size : Option ℕ) (x e : Error) → walk_past_by walk n None ≡ Err x → ok_or size x ≡ Err e → walk_past_by walk n size ≡ Err e
  unsearchable_by None x e own is = let same : x ≡ e = cc in own ∙ ap Err same
  unsearchable_by (Some size) x e own is = absurd (cc)

  pub past_unsearchable : (x e : Error) → walk_past_by walk n None ≡ Err x → ok_or (value_size walk.encoding) x ≡ Err e → walk_past walk n ≡ Err e
  unfolding walk_past
  past_unsearchable x e own is = unsearchable_by (value_size walk.encoding) x e own is

  size_is : (size : Option ℕ) (x : Error) (m : ℕ) → ok_or size x ≡ Ok m → size ≡ Some m
  size_is None x m is = absurd (cc)
  size_is (Some size) x m is = let same : size ≡ m = cc in ap Some same

  module _ (x : Error) (m : ℕ) (searchable : ok_or (value_size walk.encoding) x ≡ Ok m) where
    by_size : walk_past walk n ≡ walk_past_by walk n (Some m)
    unfolding walk_past
    by_size = ap (walk_past_by walk n) (size_is (value_size walk.encoding) x m searchable)

    pub past_all : walk.count ≤ n → walk_past walk n ≡ Ok (record walk { count = 0 })
    past_all few = by_size ∙ rw (le-leb _ _ few) refl

    by_rows : n < walk.count → walk_past walk n ≡ walk_by walk n (rows_passed m n walk.position.source walk.position.place)
    by_rows more = by_size ∙ rw (lt-leb _ _ more) refl

    pub past_refused : (e : Error) (place : ℕ) → n < walk.count → rows_passed m n walk.position.source walk.position.place ≡ record { value = Err e; place = place } → walk_past walk n ≡ Err e
    past_refused e place more passed = by_rows more ∙ ap (walk_by walk n) passed

    pub past_given : (u : Unit) (s : Position) → n < walk.count → rows_passed m n walk.position.source walk.position.place ≡ record { value = Ok u; place = s.place } →
        s.source ≡ walk.position.source → walk_past walk n ≡ Ok (record walk { count = walk.count - n; position = s })
    past_given u s more passed same =
        by_rows more ∙ (ap (walk_by walk n) passed
        ∙ ap (λ (t : Source). Ok (record walk { count = walk.count - n; position = record { source = t; place = s.place } })) (sym same))

-- ---- what is met after them

pub meets_by : (past from : Result Walk Error) (before after : Walk) (found : Result (Option (Pointer × Pointer)) Error) → past ≡ from → MeetsAfter from before found after → MeetsAfter past before found after
meets_by past from before after found same meets = subst (λ (r : Result Walk Error). MeetsAfter r before found after) (sym same) meets

pub not_refused : {P : Type 0} (past : Result Walk Error) (from : Walk) (e : Error) → past ≡ Ok from → past ≡ Err e → P
not_refused past from e given refused = absurd (cc)

pub none_read : (walk : Walk) (source : Source) (place : ℕ) → walk.count ≡ 0 → next_row walk source place ≡ record { value = Ok None; place = place }
unfolding next_row
none_read walk source place e = rw e refl
