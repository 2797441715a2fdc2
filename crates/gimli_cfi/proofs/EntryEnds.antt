-- Going through the entries of a section: where the last one ends.
use Rattle.std.proofs.Common.{◌≡◌, ℕ, Option, Some, None, refl, sym, ap, subst, ◌∙◌}
use Rattle.std.specs.List.{last_or}
use Rattle.cfi_read_core.specs.declared.error.Error.{Error}
use Rattle.cfi_read_core.specs.ReadFunctions.{Readings, no_values, with_first}
use Rattle.cfi_entry.specs.Sections.{Section}
use Rattle.cfi_entry.specs.Entries.{Entry, end_of_entry, entries}
use Rattle.cfi_unwind.proofs.EntryEnds.{AllInside, EndsInside, entries_inside}
use Rattle.gimli_cfi.specs.TableCheck.{end_of_last, IsEntryRefusal}

-- The last entry that has passed ends at the offset; those that are left end inside the section.
pub record StandsAt (section : Section) (o : ℕ) (left : Readings Entry) : Type 0 where
  pub last : Option Entry
  pub at : o ≡ end_of_last last
  pub among : last_or None (entries section).values ≡ last_or last left.values
  pub inside : AllInside section left.values

module _ (section : Section) where
  pub stands_first : StandsAt section 0 (entries section)
  stands_first = record {
    last = None;
    at = refl;
    among = refl;
    inside = entries_inside section;
  }

  module _ {o : ℕ} {left others : Readings Entry} (entry : Entry) (stands : StandsAt section o left) (is : left ≡ with_first entry others) where
    here_first : StandsAt section o (with_first entry others)
    here_first = subst (λ (x : Readings Entry). StandsAt section o x) is stands

    pub ends_inside : EndsInside section entry
    ends_inside = here_first.inside.0

    pub stands_after : StandsAt section (end_of_entry entry) others
    stands_after = record {
      last = Some entry;
      at = refl;
      among = here_first.among;
      inside = here_first.inside.1;
    }

  pub stands_refused : {o : ℕ} {left : Readings Entry} (e : Error) → StandsAt section o left → left ≡ no_values (Some e) → (entries section).refusal ≡ Some e → IsEntryRefusal section o e
  stands_refused {o = o} e stands is refused =
      let none : StandsAt section o (no_values (Some e)) = subst (λ (x : Readings Entry). StandsAt section o x) is stands in
      (none.at ∙ ap end_of_last (sym none.among), refused)
