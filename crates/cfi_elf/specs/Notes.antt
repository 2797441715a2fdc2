-- Notes (System V ABI chapter 5, "Note Section").
--     notes_of big bytes      the notes of these bytes in order, and whether bytes follow them that
--         are no whole note
--     notes_left walk      those that an iterator of the code has left
use Rattle.std.specs.Prelude.{◌≡◌, ℕ, ◌+◌, ◌*◌, ◌/◌, zero, suc, Bool, true, false, List, [], ◌∷◌}
use Rattle.std.specs.Prelude.{◌++◌, length, drop, map, codes, Option, Some, None, Result, Ok, Err}
use Rattle.std.specs.Prelude.{option_map, nat_lt, ◌==◌, if◌then◌else◌}
use Rattle.std.specs.Option.{option_and_then}
use Rattle.cfi_elf.specs.declared.error.ElfError.{ElfError}
use Rattle.cfi_elf.specs.declared.error.ElfError.TheVariants.{NoteCut}
use Rattle.cfi_elf.specs.declared.notes.First.{First as FirstOfCode}
use Rattle.cfi_elf.specs.declared.notes.Note.{Note as NoteOfCode}
use Rattle.cfi_elf.specs.declared.notes.NoteHeader.{NoteHeader}
use Rattle.cfi_elf.specs.declared.notes.Notes.{Notes as NotesOfCode}
use Rattle.cfi_elf.specs.Fields.{until_zero, field, first_bytes}
use Rattle.cfi_elf.specs.Layouts.{note_header_fields}

-- ---- one note

pub record Note : Type 0 where
  pub name : List ℕ
  pub kind : ℕ
  pub desc : List ℕ

abbrev pub note_view : NoteOfCode → Note
note_view note = record { name = note.name.now; kind = note.kind; desc = note.desc.now }

abbrev pub note_header : Bool → List ℕ → NoteHeader
note_header big bytes =
    let value = field big bytes note_header_fields in
    record {
      n_namesz = value (codes "n_namesz");
      n_descsz = value (codes "n_descsz");
      n_type = value (codes "n_type");
    }

-- n bytes with those that pad them to a multiple of four, as Linux and GNU's linkers write notes in
-- files of 64 bits too, where the System V ABI has words of eight bytes
abbrev pub padded : ℕ → ℕ
padded n = (n + 3) / 4 * 4

-- The first note, and the bytes that follow.
pub record FirstNote : Type 0 where
  pub note : Note
  pub others : List ℕ

abbrev pub first_view : FirstOfCode → FirstNote
first_view f = record { note = note_view f.note; others = f.others.now }

-- the name, the bytes that pad it, what the note says, and what pads that, which may be cut
abbrev pub note_by : NoteHeader → List ℕ → Option FirstNote
note_by header names =
    let descs = drop (padded header.n_namesz) names in
    option_and_then (λ name. option_map (λ desc. record {
      note = record { name = until_zero name; kind = header.n_type; desc = desc };
      others = drop (padded header.n_descsz) descs;
    }) (first_bytes header.n_descsz descs)) (first_bytes header.n_namesz names)

-- the header has twelve bytes
unfoldable pub first_note : Bool → List ℕ → Option FirstNote
first_note big bytes =
    if nat_lt (length bytes) 12 then None
    else note_by (note_header big bytes) (drop 12 bytes)

-- ---- all notes

-- Notes in order, and whether bytes follow them that are no whole note.
pub record Notes : Type 0 where
  pub notes : List Note
  pub is_cut : Bool

abbrev pub no_notes : Bool → Notes
no_notes is_cut = record { notes = []; is_cut = is_cut }

abbrev pub with_first_note : Note → Notes → Notes
with_first_note note others = record { notes = note ∷ others.notes; is_cut = others.is_cut }

-- the first note, and those of the bytes that follow
abbrev pub notes_with : Option FirstNote → (List ℕ → Notes) → Notes
notes_with None others = no_notes true
notes_with (Some found) others = with_first_note found.note (others found.others)

-- at most n
unfoldable pub notes_up_to : ℕ → Bool → List ℕ → Notes
notes_up_to zero big bytes = no_notes false
notes_up_to (suc n) big bytes =
    if length bytes == 0 then no_notes false
    else notes_with (first_note big bytes) (notes_up_to n big)

-- all: each takes a byte at least
abbrev pub notes_of : Bool → List ℕ → Notes
notes_of big bytes = notes_up_to (length bytes) big bytes

-- ---- as the items of an iterator

abbrev pub cut_item : Bool → List (Result Note ElfError)
cut_item true = Err NoteCut ∷ []
cut_item false = []

-- each note, and the error
abbrev pub note_items : Notes → List (Result Note ElfError)
note_items all = map Ok all.notes ++ cut_item all.is_cut

abbrev pub notes_left : NotesOfCode → Notes
notes_left walk = notes_of walk.big_endian walk.bytes.now

-- What `next` returned: the first of the notes that were left, or the error that ends them. After
-- an error none are left.
abbrev pub IsNextNote : Result (Option Note) ElfError → Notes → Notes → Type 0
IsNextNote (Ok None) old new = (old ≡ no_notes false) × (new ≡ no_notes false)
IsNextNote (Ok (Some note)) old new = old ≡ with_first_note note new
IsNextNote (Err e) old new =
    (e ≡ NoteCut) × (old ≡ no_notes true) × (new ≡ no_notes false)
