-- The notes of some bytes, when the first of them is read.
use Rattle.std.proofs.Common.{◌≡◌, ◌<◌, ◌≤◌, ℕ, zero, suc, Bool, true, false, List, [], ◌∷◌, ◌++◌, Option, Some, None, Result, Ok, Err, map, refl, sym, ap, ap₂, ◌∙◌, length, drop, arith, option_map}
use Rattle.std.specs.Prelude.{find, ◌==◌, if◌then◌else◌, nat_lt}
use Rattle.std.specs.Option.{option_and_then}
use Rattle.std.proofs.lemmas.Bool.{ltb-false}
use Rattle.std.proofs.lemmas.List.{length-drop}
use Rattle.cfi_elf.specs.declared.error.ElfError.{ElfError}
use Rattle.cfi_elf.specs.declared.notes.NoteHeader.{NoteHeader}
use Rattle.cfi_elf.specs.Fields.{first_bytes, until_zero}
use Rattle.cfi_elf.specs.Notes.{FirstNote, Note, Notes, cut_item, first_note, note_items, no_notes, note_by, note_header, notes_of, notes_up_to, notes_with, padded, with_first_note}
use Rattle.cfi_elf.specs.BuildIds.{is_build_id}

-- ---- a note takes a byte at least

not_none : {A : Type 0} (b : Bool) (o : Option A) (x : A) → (if b then None else o) ≡ Some x → (b ≡ false) × (o ≡ Some x)
not_none true o x is = absurd (cc)
not_none false o x is = (refl, is)

same_others : (o o' : Option (List ℕ)) (note : List ℕ → List ℕ → Note) (others : List ℕ) (found : FirstNote) →
    option_and_then (λ name. option_map (λ desc. record { note = note name desc; others = others }) o') o ≡ Some found → others ≡ found.others
same_others None o' note others found is = absurd (cc)
same_others (Some name) None note others found is = absurd (cc)
same_others (Some name) (Some desc) note others found is = others_of is
  where
    behind : Option FirstNote → List ℕ
    behind None = []
    behind (Some f) = f.others

    others_of : ◌≡◌ {A = Option FirstNote} (Some (record { note = note name desc; others = others })) (Some found) → others ≡ found.others
    others_of e = ap behind e

by_fewer : (header : NoteHeader) (names : List ℕ) (found : FirstNote) → note_by header names ≡ Some found → length found.others ≤ length names
by_fewer header names found is =
    let descs = drop (padded header.n_namesz) names in
    let others = drop (padded header.n_descsz) descs in
    let same = same_others (first_bytes header.n_namesz names) (first_bytes header.n_descsz descs) (λ name desc. record { name = until_zero name; kind = header.n_type; desc = desc }) others found is in
    let count : length others ≡ length found.others = ap length same in
    let less = length-drop (padded header.n_descsz) descs in
    let less' = length-drop (padded header.n_namesz) names in
    omega (arith, count, less, less')

module _ (big : Bool) where
  fewer : (bytes : List ℕ) (found : FirstNote) → first_note big bytes ≡ Some found → length found.others < length bytes
  unfolding first_note
  fewer bytes found is =
      let large = not_none (nat_lt (length bytes) 12) (note_by (note_header big bytes) (drop 12 bytes)) found is in
      let some : 12 ≤ length bytes = ltb-false (length bytes) 12 large.0 in
      let few = by_fewer (note_header big bytes) (drop 12 bytes) found large.1 in
      let less = length-drop 12 bytes in
      omega (arith, some, few, less)

  -- ---- as many steps as there are bytes are enough

  with_same : (o : Option FirstNote) (f g : List ℕ → Notes) → ((found : FirstNote) → o ≡ Some found → f found.others ≡ g found.others) → notes_with o f ≡ notes_with o g
  with_same None f g h = refl
  with_same (Some found) f g h = ap (with_first_note found.note) (h found refl)

  no_bytes : (bytes : List ℕ) (others : Notes) → length bytes ≤ 0 → (if length bytes == 0 then no_notes false else others) ≡ no_notes false
  no_bytes bytes others none = let e : length bytes ≡ 0 = omega arith in rw e refl

  same : (n m : ℕ) (bytes : List ℕ) → length bytes ≤ n → length bytes ≤ m → notes_up_to n big bytes ≡ notes_up_to m big bytes
  unfolding notes_up_to
  same zero zero bytes below under = refl
  same zero (suc m) bytes below under = sym (no_bytes bytes (notes_with (first_note big bytes) (notes_up_to m big)) below)
  same (suc n) zero bytes below under = no_bytes bytes (notes_with (first_note big bytes) (notes_up_to n big)) under
  same (suc n) (suc m) bytes below under =
      ap (λ (others : Notes). if length bytes == 0 then no_notes false else others)
      (with_same (first_note big bytes) (notes_up_to n big) (notes_up_to m big)
      (λ found is. let less = fewer bytes found is in same n m found.others (omega (arith, less, below)) (omega (arith, less, under))))

  -- ---- one step

  step : (bytes : List ℕ) → notes_of big bytes ≡ (if length bytes == 0 then no_notes false else notes_with (first_note big bytes) (notes_of big))
  unfolding notes_up_to
  step bytes =
      same (length bytes) (suc (length bytes)) bytes (omega arith) (omega arith)
      ∙ ap (λ (others : Notes). if length bytes == 0 then no_notes false else others)
      (with_same (first_note big bytes) (notes_up_to (length bytes) big) (notes_of big)
      (λ found is. let less = fewer bytes found is in same (length bytes) (length found.others) found.others (omega (arith, less)) (omega arith)))

  pub none_met : (bytes : List ℕ) → (length bytes == 0) ≡ true → notes_of big bytes ≡ no_notes false
  none_met bytes none = step bytes ∙ ap (λ (b : Bool). if b then no_notes false else notes_with (first_note big bytes) (notes_of big)) none

  met : (bytes : List ℕ) (o : Option FirstNote) → (length bytes == 0) ≡ false → o ≡ first_note big bytes → notes_of big bytes ≡ notes_with o (notes_of big)
  met bytes o some is =
      step bytes
      ∙ (ap (λ (b : Bool). if b then no_notes false else notes_with (first_note big bytes) (notes_of big)) some
      ∙ ap (λ (o : Option FirstNote). notes_with o (notes_of big)) (sym is))

  pub first_met : (bytes : List ℕ) (found : FirstNote) → (length bytes == 0) ≡ false → Some found ≡ first_note big bytes → notes_of big bytes ≡ with_first_note found.note (notes_of big found.others)
  first_met bytes found some is = met bytes (Some found) some is

  pub cut_met : (bytes : List ℕ) → (length bytes == 0) ≡ false → None ≡ first_note big bytes → notes_of big bytes ≡ no_notes true
  cut_met bytes some is = met bytes None some is

-- ---- notes by the items of an iterator

abbrev all_of : List Note → Bool → Notes
all_of notes is_cut = record { notes = notes; is_cut = is_cut }

abbrev items_of : List Note → Bool → List (Result Note ElfError)
items_of notes is_cut = map Ok notes ++ cut_item is_cut

-- the items are those of one list and one end
one_list : (ns ms : List Note) (x y : Bool) → items_of ns x ≡ items_of ms y → all_of ns x ≡ all_of ms y
one_list [] [] false false e = refl
one_list [] [] false true e = absurd cc
one_list [] [] true false e = absurd cc
one_list [] [] true true e = refl
one_list [] (m ∷ ms) false y e = absurd cc
one_list [] (m ∷ ms) true y e = absurd cc
one_list (n ∷ ns) [] x false e = absurd cc
one_list (n ∷ ns) [] x true e = absurd cc
one_list (n ∷ ns) (m ∷ ms) x y e =
    let first : n ≡ m = cc in
    let rest : items_of ns x ≡ items_of ms y = cc in
    ap₂ with_first_note first (one_list ns ms x y rest)

-- a note comes first
pub first_is : (old new : Notes) (note : Note) → note_items old ≡ Ok note ∷ note_items new → old ≡ with_first_note note new
first_is old new note e = one_list old.notes (note ∷ new.notes) old.is_cut new.is_cut e

-- or the error, which ends them
pub error_is : (old new : Notes) (error : ElfError) → note_items old ≡ Err error ∷ note_items new → old ≡ no_notes true
error_is old new error e = by old.notes old.is_cut e
  where
    by : (ns : List Note) (x : Bool) → items_of ns x ≡ Err error ∷ note_items new → all_of ns x ≡ no_notes true
    by [] false e = absurd cc
    by [] true e = refl
    by (n ∷ ns) x e = absurd cc

pub none_are : (old : Notes) → note_items old ≡ [] → old ≡ no_notes false
none_are old e = one_list old.notes [] old.is_cut false e

-- ---- the note with an identification of the file's build

abbrev id_among : Notes → Option (List ℕ)
id_among all = option_map (λ note. note.desc) (find is_build_id all.notes)

by_first : (note : Note) (others : Notes) (b : Bool) → is_build_id note ≡ b → id_among (with_first_note note others) ≡ (if b then Some note.desc else id_among others)
by_first note others b is = by b is
  where
    by : (b : Bool) → is_build_id note ≡ b → id_among (with_first_note note others) ≡ (if b then Some note.desc else id_among others)
    by true e = rw e refl
    by false e = rw e refl

pub id_found : (old new : Notes) (note : Note) → note_items old ≡ Ok note ∷ note_items new → is_build_id note ≡ true → Some note.desc ≡ id_among old
id_found old new note e is = sym (ap id_among (first_is old new note e) ∙ by_first note new true is)

pub id_not_yet : (old new : Notes) (note : Note) → note_items old ≡ Ok note ∷ note_items new → is_build_id note ≡ false → id_among new ≡ id_among old
id_not_yet old new note e is = sym (ap id_among (first_is old new note e) ∙ by_first note new false is)

pub no_id_cut : (old new : Notes) (error : ElfError) → note_items old ≡ Err error ∷ note_items new → None ≡ id_among old
no_id_cut old new error e = sym (ap id_among (error_is old new error e))

pub no_id_left : (old : Notes) → note_items old ≡ [] → None ≡ id_among old
no_id_left old e = sym (ap id_among (none_are old e))
