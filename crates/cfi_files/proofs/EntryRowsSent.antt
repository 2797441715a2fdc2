-- The entries of a section, one after the other.
use Rattle.std.proofs.Common.{◌≡◌, ◌∙◌, ℕ, Bool, true, false, List, [], ◌∷◌, ◌++◌, Option, Result, Ok, Err, IfOk, ap, subst, sym}
use Rattle.std.specs.Prelude.{flat_map, if◌then◌else◌}
use Rattle.cfi_read_core.specs.declared.error.Error.{Error}
use Rattle.cfi_read_core.specs.CallFrameSections.{SectionView}
use Rattle.cfi_parts.specs.InstructionReaders.{items}
use Rattle.cfi_parts.specs.declared.pointer.BaseAddresses.{BaseAddresses}
use Rattle.cfi_entry.specs.Entries.{Entry, entries_left}
use Rattle.cfi_entry.specs.Sections.{Section, section_of}
use Rattle.cfi_unwind.specs.WalkViews.{OfEither}
use Rattle.cfi_unwind.specs.declared.entry.entries.EntryFields.{EntryFields}
use Rattle.cfi_unwind.specs.declared.entry.entries.EntryFields.TheVariants as code
use Rattle.cfi_text.specs.declared.text.Text.{Text}
use Rattle.cfi_text.specs.Texts.{Puts}
use Rattle.cfi_text.specs.declared.style.Format.{Format}
use Rattle.cfi_row_text.specs.declared.style.Style.{Style}
use Rattle.cfi_entry.specs.Fdes.{Fde, PartialFde, end_of}
use Rattle.cfi_unwind.specs.Scan.{read_fde}
use Rattle.cfi_files.specs.declared.dump.printed.AskedRows.{AskedRows}
use Rattle.cfi_files.specs.DumpRowTexts.{line_in, line_of_fde, read_rows}
use Rattle.cfi_files.specs.Sending.{IsSent, Sends}
use Rattle.cfi_files.proofs.SendingLemmas.{IsLeft, Passes, left_none, passes_nothing}

-- an entry is of the same section by another name for it
pub of_section : {C F S : Type 0} (P : S → C → Type 0) (section_of_fde : F → S) (bases_of_fde : F → BaseAddresses) (s t : S) (a b : BaseAddresses) (item : Result (EntryFields C F) Error) → s ≡ t → a ≡ b
    → IfOk item (OfEither (P s) (λ f. (section_of_fde f ≡ s) × (bases_of_fde f ≡ a))) → IfOk item (OfEither (P t) (λ f. (section_of_fde f ≡ t) × (bases_of_fde f ≡ b)))
of_section P section_of_fde bases_of_fde s t a b (Ok (code.Cie cie)) same based h = subst (λ x. P x cie) same h
of_section P section_of_fde bases_of_fde s t a b (Ok (code.Fde partial)) same based h = (h.0 ∙ same, h.1 ∙ based)
of_section P section_of_fde bases_of_fde s t a b (Err e) same based h = tt

-- an iterator over the section, at s and then at t
module _ {S : Type 0} (view : S → SectionView) (section : S) (bases : BaseAddresses) (by : Result Entry Error → List ℕ) (first now : Option (List ℕ)) (waiting : Text) (all : List ℕ) where
  abbrev from : Section
  from = section_of (view section) bases

  pub all_sent : (s : S) (at : BaseAddresses) (place : ℕ) → s ≡ section → at ≡ bases → items (entries_left (section_of (view s) at) place) ≡ []
      → IsLeft first now waiting (flat_map by (items (entries_left from place))) all → IsSent first now waiting all
  all_sent s at place same based is left = left_none first now waiting _ all left (ap (flat_map by) (rw (same, based) at is))

  pub to_send : (s t : S) (s_bases t_bases : BaseAddresses) (place next : ℕ) (item : Result Entry Error) → s ≡ section → s_bases ≡ bases → t ≡ s → t_bases ≡ s_bases
      → items (entries_left (section_of (view s) s_bases) place) ≡ item ∷ items (entries_left (section_of (view t) t_bases) next)
      → IsLeft first now waiting (flat_map by (items (entries_left from place))) all → IsLeft first now waiting (by item ++ flat_map by (items (entries_left from next))) all
  to_send s t s_bases t_bases place next item same based kept kept_bases is left =
      let here : items (entries_left from place) ≡ item ∷ items (entries_left from next) = rw (kept, kept_bases, same, based) at is in
      subst (λ (xs : List ℕ). IsLeft first now waiting xs all) (ap (flat_map by) here) left

-- ---- one FDE

module _ {T E : Type 0} (x y : Text) (a b : Option (List ℕ)) (r : Result T E) where
  -- by what reading it gave
  pub as_read : (style : Style) (asked : AskedRows) (section : Section) (found : PartialFde) (reading : Result Fde Error) → reading ≡ read_fde section found
      → Sends x y a b r (read_rows style asked section reading) → Sends x y a b r (read_rows style asked section (read_fde section found))
  as_read style asked section found reading is sent = subst (λ (read : Result Fde Error). Sends x y a b r (read_rows style asked section read)) is sent

  pub if_asked_for : (is_asked : Bool) (rows : List ℕ) → is_asked ≡ true → Sends x y a b r rows → Sends x y a b r (if is_asked then rows else [])
  if_asked_for true rows is sent = sent
  if_asked_for false rows is sent = cc is

pub if_not : (x : Text) (a : Option (List ℕ)) (is_asked : Bool) (rows : List ℕ) → is_asked ≡ false → Passes x x a a (if is_asked then rows else [])
if_not x a true rows is = cc is
if_not x a false rows is = passes_nothing x a

-- ---- the line of its addresses

module _ (x y : Text) (format : Format) (function : ℕ → Option (List ℕ)) (fde : Fde) (start end : ℕ) (starts : start ≡ fde.initial) (ends : end ≡ end_of fde) where
  at_start : Puts (line_in format start end (function start)) x y → Puts (line_of_fde format function fde) x y
  at_start put =
      subst (λ (b : ℕ). Puts (line_in format fde.initial b (function fde.initial)) x y) ends
      (subst (λ (a : ℕ). Puts (line_in format a end (function a)) x y) starts put)

  pub line_put : (found : Option (List ℕ)) → found ≡ function start → Puts (line_in format start end found) x y → Puts (line_of_fde format function fde) x y
  line_put found is put = at_start (subst (λ (name : Option (List ℕ)). Puts (line_in format start end name) x y) is put)
