-- The files of a profile, gathered one after the other.
use Rattle.std.proofs.Common.{◌≡◌, ◌∙◌, ℕ, ◌+◌, ◌<◌, ◌≤◌, Bool, List, [], ◌∷◌, ◌++◌, length, get_or, drop, refl, sym, ap, subst, add-one, append-nil, append_assoc}
use Rattle.std.proofs.Math.Seq.{drop-cons}
use Rattle.std.proofs.lemmas.List.{drop_all}
use Rattle.cfi_mapped.specs.declared.opened_file.OpenedFile.{OpenedFile}
use Rattle.cfi_processes.specs.KnownFiles.{KnownFile}
use Rattle.cfi_processes.specs.ProfileFiles.{AreProfileFilesOf, IsFileOf}
use Rattle.cfi_mapped.specs.OpenedFiles.{AreOpenedAs, IsOpenedAs, Opened}

abbrev pub IsFileFor : Bool → OpenedFile → KnownFile → Type 0
IsFileFor named one file = (all : Opened) → IsOpenedAs one all → IsFileOf named all file

abbrev pub AreFilesFor : Bool → List OpenedFile → List KnownFile → Type 0
AreFilesFor named [] files = files ≡ []
AreFilesFor named (one ∷ opened) files =
    (first : KnownFile) × (others : List KnownFile) × IsFileFor named one first × AreFilesFor named opened others × (files ≡ first ∷ others)

-- with the files of the others, the first are those of all
pub record IsFilesOn (named : Bool) (all left : List OpenedFile) (first : List KnownFile) : Type 0 where
  pub files_on : (others : List KnownFile) → AreFilesFor named left others → AreFilesFor named all (first ++ others)

pub no_files : (named : Bool) (all : List OpenedFile) → IsFilesOn named all all []
no_files named all = record { files_on = λ others are. are }

pub one_file : (named : Bool) (all opened : List OpenedFile) (i : ℕ) (d : OpenedFile) (first next : List KnownFile) (file : KnownFile) → i < length opened
    → next ≡ first ++ file ∷ [] → IsFilesOn named all (drop i opened) first → IsFileFor named (get_or opened i d) file
    → IsFilesOn named all (drop (i + 1) opened) next
one_file named all opened i d first next file inside is so one = record {
  files_on = λ others are.
      let left : drop i opened ≡ get_or opened i d ∷ drop (i + 1) opened = rw (drop-cons opened i d, add-one) refl in
      let whole = so.files_on (file ∷ others) (subst (λ (left : List OpenedFile). AreFilesFor named left (file ∷ others)) (sym left) (file, others, one, are, refl)) in
      subst (λ (files : List KnownFile). AreFilesFor named all files) (sym (ap (λ (front : List KnownFile). front ++ others) is ∙ append_assoc first (file ∷ []) others)) whole;
}

files_for : (named : Bool) (opened : List OpenedFile) (files : List KnownFile) (all : List Opened) → AreOpenedAs opened all → AreFilesFor named opened files → AreProfileFilesOf named all files
files_for named [] files all are is = subst (λ (all : List Opened). AreProfileFilesOf named all files) (sym are) is
files_for named (one ∷ opened) files all (w, ws, hold, others_as, same) (first, others, is, are, files_are) =
    subst (λ (all : List Opened). AreProfileFilesOf named all files) (sym same) (first, others, is w hold, files_for named opened others ws others_as are, files_are)

pub all_files : (named : Bool) (opened : List OpenedFile) (i : ℕ) (files : List KnownFile) → length opened ≤ i → IsFilesOn named opened (drop i opened) files
    → (all : List Opened) → AreOpenedAs opened all → AreProfileFilesOf named all files
all_files named opened i files behind so all are =
    let none : drop i opened ≡ [] = rw drop_all refl in
    files_for named opened files all are
    (subst (λ (known : List KnownFile). AreFilesFor named opened known) (append-nil files)
    (so.files_on [] (subst (λ (left : List OpenedFile). AreFilesFor named left []) (sym none) refl)))
