-- The files that the records of an index say are mapped as code.
use Rattle.std.proofs.Common.{◌≡◌, ◌∙◌, ◌<◌, ◌≤◌, ◌+◌, ◌||◌, ℕ, zero, suc, Bool, true, false, List, [], ◌∷◌, Option, Some, None, length, get_or, drop, map, fold, refl, sym, ap, subst, arith, add-one, drop-cons}
use Rattle.std.specs.List.{All, Contains, list_any}
use Rattle.std.specs.Option.{is_some}
use Rattle.std.proofs.lemmas.List.{drop_all, length-map}
use Rattle.cfi_perf.specs.declared.index.PlaceKind.{PlaceKind}
use Rattle.cfi_perf.specs.declared.index.PlaceKind.TheVariants.{InFile, Kept, Nothing}
use Rattle.cfi_perf.specs.declared.index.RecordPlace.{RecordPlace}
use Rattle.cfi_perf.specs.Events.{Event, OtherEvent, Record, SampleEvent, MappingEvent, ProgramEvent, ForkEvent, LostEvent}
use Rattle.cfi_perf.specs.Indexes.{kept_of, places_of}
use Rattle.cfi_perf.specs.Recordings.{is_sample}
use Rattle.cfi_mapped.specs.WantedFiles.{mapped_code_file, has_kernel, has_kernel_frames, wanted_in, wanted_of, with_file}
use Rattle.cfi_mapped.specs.Wanted.{Wanted}
use Rattle.cfi_stacks.specs.declared.profile_index.ProfileIndex.{ProfileIndex}
use Rattle.cfi_stacks.specs.ProfileIndexes.{IsIndexOf, IsKernelAt, IsPieceOf, IsPlacedIn, IsReadAt, IsReadBy, Piece, piece_place, record_of}
use Rattle.cfi_stacks.proofs.PieceLemmas.{same_found}

-- ---- whether samples have frames of the kernel

or_true : (b : Bool) → (b || true) ≡ true
or_true true = refl
or_true false = refl

abbrev has : Record → Bool
has r = has_kernel_frames r.event

none_has : (pieces : List Piece) → All (λ piece. has_kernel_frames piece.found.event ≡ false) pieces → list_any has (map record_of pieces) ≡ false
none_has [] none = refl
none_has (p ∷ pieces) none =
    ap (λ (b : Bool). b || list_any has (map record_of pieces)) (none 0 p (omega arith)) ∙ none_has pieces (λ k d w. none (suc k) d (omega (arith, w)))

one_has : (pieces : List Piece) (piece : Piece) → Contains pieces piece → has_kernel_frames piece.found.event ≡ true → list_any has (map record_of pieces) ≡ true
one_has [] piece (k, inside, at) is = absurd (omega (arith, inside))
one_has (p ∷ pieces) piece (zero, inside, at) is =
    ap (λ (b : Bool). b || list_any has (map record_of pieces)) (ap (λ (q : Piece). has_kernel_frames q.found.event) at ∙ is)
one_has (p ∷ pieces) piece (suc k, inside, at) is =
    ap (λ (b : Bool). has p.found || b) (one_has pieces piece (k, omega (arith, inside), at) is) ∙ or_true (has p.found)

kernel_told : (kernel : Option ℕ) (pieces : List Piece) → IsKernelAt kernel pieces → is_some kernel ≡ has_kernel (map record_of pieces)
kernel_told None pieces at = sym (none_has pieces at)
kernel_told (Some first) pieces (piece, inside, kind, offset, is) = sym (one_has pieces piece inside is)

-- ---- the file of a record

pub none_of_sample : (in_kernel : Bool) (event : Event) → is_sample event ≡ true → mapped_code_file in_kernel event ≡ None
none_of_sample in_kernel (MappingEvent m) is = absurd (cc)
none_of_sample in_kernel (ProgramEvent p) is = absurd (cc)
none_of_sample in_kernel (ForkEvent f) is = absurd (cc)
none_of_sample in_kernel (SampleEvent s) is = refl
none_of_sample in_kernel (LostEvent l) is = absurd (cc)
none_of_sample in_kernel OtherEvent is = absurd (cc)

module _ (known : Option (List ℕ)) (index : ProfileIndex) (piece : Piece) where
  sampled_in : (kind : PlaceKind) → kind ≡ InFile → IsPlacedIn kind known index.walk (kept_of index.records) piece → is_sample piece.found.event ≡ true
  sampled_in InFile is (long, within, sample, same) = sample
  sampled_in Kept is placed = absurd (cc)
  sampled_in Nothing is placed = absurd (cc)

  other_in : (kind : PlaceKind) (r : Record) → (kind ≡ InFile → ⊥) → IsPlacedIn kind known index.walk (kept_of index.records) piece → piece.place.time ≡ piece.found.time → IsReadBy kind known index piece.place r → r ≡ piece.found
  other_in InFile r other placed time read = absurd (other refl)
  other_in Kept r other (alone, within, no_sample) time read = same_found r piece.found _ _ read alone refl
  other_in Nothing r other none time read = read ∙ (λ j. record { time = time j; event = sym none j })

  module _ (place : RecordPlace) (is : IsPieceOf known index.walk (kept_of index.records) piece) (at : piece.place ≡ place) where
    pub file_in_file : (in_kernel : Bool) → place.kind ≡ InFile → None ≡ mapped_code_file in_kernel piece.found.event
    file_in_file in_kernel kind = sym (none_of_sample in_kernel piece.found.event (sampled_in piece.place.kind (ap (λ (p : RecordPlace). p.kind) at ∙ kind) is.placed))

    pub file_of_other : (in_kernel : Bool) (r : Record) (file : Option Wanted) → (place.kind ≡ InFile → ⊥) → IsReadAt known index place r → file ≡ mapped_code_file in_kernel r.event → file ≡ mapped_code_file in_kernel piece.found.event
    file_of_other in_kernel r file other read of =
        let there : IsReadAt known index piece.place r = subst (λ (p : RecordPlace). IsReadAt known index p r) (sym at) read in
        let same = other_in piece.place.kind r (λ kind. other (ap (λ (p : RecordPlace). p.kind) (sym at) ∙ kind)) is.placed is.time there in
        of ∙ ap (λ (r : Record). mapped_code_file in_kernel r.event) same

-- ---- one more file

abbrev pub wanted_on : Bool → List Wanted → List Record → List Wanted
wanted_on in_kernel files records = fold (λ files r. with_file files (mapped_code_file in_kernel r.event)) files records

module _ (in_kernel : Bool) (pieces : List Piece) where
  pub one_wanted : (i : ℕ) (d : Piece) (files next all : List Wanted) → i < length pieces → next ≡ with_file files (mapped_code_file in_kernel (get_or pieces i d).found.event) → wanted_on in_kernel files (map record_of (drop i pieces)) ≡ all
      → wanted_on in_kernel next (map record_of (drop (i + 1) pieces)) ≡ all
  one_wanted i d files next all inside is before =
      let left : map record_of (drop i pieces) ≡ (get_or pieces i d).found ∷ map record_of (drop (i + 1) pieces) = rw (drop-cons pieces i d, add-one) refl in
      ap (λ (l : List Wanted). wanted_on in_kernel l (map record_of (drop (i + 1) pieces))) is ∙ (sym (ap (wanted_on in_kernel files) left) ∙ before)

pub all_wanted : (known : Option (List ℕ)) (index : ProfileIndex) (pieces : List Piece) (i : ℕ) (files : List Wanted) → IsIndexOf known index pieces → length (places_of index.records) ≤ i
    → wanted_on (is_some index.kernel) files (map record_of (drop i pieces)) ≡ wanted_in (is_some index.kernel) (map record_of pieces) → files ≡ wanted_of (map record_of pieces)
all_wanted known index pieces i files is past before =
    let none : drop i pieces ≡ [] = drop_all i pieces (omega (arith, past, ap length is.places, length-map pieces piece_place)) in
    sym (ap (λ (l : List Piece). wanted_on (is_some index.kernel) files (map record_of l)) none) ∙ (before ∙ ap (λ (b : Bool). wanted_in b (map record_of pieces)) (kernel_told index.kernel pieces is.kernel))

pub with_the_file : (files : List Wanted) (file other : Option Wanted) → file ≡ other → with_file files file ≡ with_file files other
with_the_file files file other same = ap (with_file files) same

-- one that stands for none
abbrev pub no_piece : Piece
no_piece = record { place = record { time = 0; offset = 0; size = 0; kind = InFile }; bytes = []; found = record { time = 0; event = OtherEvent } }
