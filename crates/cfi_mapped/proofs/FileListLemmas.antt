-- A file is found among the keys exactly if it is among the files.
use Rattle.std.proofs.Common.{◌≡◌, ◌∙◌, ℕ, ◌&&◌, ◌||◌, ◌++◌, Bool, true, false, Bor, List, [], ◌∷◌, not, Option, Some, None, cond, map, option_map, refl, sym, ap}
use Rattle.std.specs.BTreeSet.{BTreeSet, Updates, contains}
use Rattle.std.specs.Cmp.{unsigned_ties}
use Rattle.std.specs.Str.{bytes_eq}
use Rattle.std.specs.Option.{option_cmp}
use Rattle.std.specs.Ordering.{is_eq, nat_cmp, ordering_then}
use Rattle.std.specs.declared.cmp.Ordering.{Ordering}
use Rattle.std.specs.declared.cmp.Ordering.TheVariants.{Less, Equal, Greater}
use Rattle.std.proofs.Math.Bool.{or-false, or_comm}
use Rattle.std.proofs.lemmas.List.{map-append}
use Rattle.std.proofs.lemmas.List.Folds.{list_any-append}
use Rattle.std.proofs.lemmas.Map.Text.{is_eq-slice_cmp}
use Rattle.cfi_mapped.specs.declared.wanted.WantedFile.{WantedFile}
use Rattle.cfi_mapped.specs.FileLists.{AreKnown, FileKey, key_cmp, key_file, name_cmp}
use Rattle.cfi_mapped.specs.Wanted.{Wanted, is_same, same_id, same_process, wanted_view}
use Rattle.cfi_mapped.specs.WantedFiles.{is_among, with_file}

-- ---- which keys are the same

then_all : (x y z : Ordering) → is_eq (ordering_then (ordering_then x y) z) ≡ (is_eq x && is_eq y && is_eq z)
then_all Less y z = refl
then_all Greater y z = refl
then_all Equal Less z = refl
then_all Equal Equal z = refl
then_all Equal Greater z = refl

ids_same : (a b : Option (Bor (List ℕ))) → is_eq (option_cmp name_cmp a b) ≡ same_id (option_map (λ id. id.now) a) (option_map (λ id. id.now) b)
ids_same None None = refl
ids_same None (Some b) = refl
ids_same (Some a) None = refl
ids_same (Some a) (Some b) = is_eq-slice_cmp a.now b.now

processes_same : (a b : Option ℕ) → is_eq (option_cmp nat_cmp a b) ≡ same_process a b
processes_same None None = refl
processes_same None (Some b) = refl
processes_same (Some a) None = refl
processes_same (Some a) (Some b) = sym (unsigned_ties a b)

keys_same : (a b : FileKey) → is_eq (key_cmp a b) ≡ is_same (key_file a) (key_file b)
keys_same a b =
    then_all (name_cmp a.0 b.0) (option_cmp name_cmp a.1 b.1) (option_cmp nat_cmp a.2 b.2)
    ∙ ap (λ (t : Bool). t && is_eq (option_cmp name_cmp a.1 b.1) && is_eq (option_cmp nat_cmp a.2 b.2)) (is_eq-slice_cmp a.0.now b.0.now)
    ∙ ap (λ (t : Bool). is_same_name a b && t && is_eq (option_cmp nat_cmp a.2 b.2)) (ids_same a.1 b.1)
    ∙ ap (λ (t : Bool). is_same_name a b && same_id (key_file a).build_id (key_file b).build_id && t) (processes_same a.2 b.2)
  where
    is_same_name : FileKey → FileKey → Bool
    is_same_name a b = bytes_eq (key_file a).name (key_file b).name

-- ---- a file more

abbrev key_of : WantedFile → FileKey
key_of file = (file.name, file.build_id, file.process)

with_one : (files : List WantedFile) (file : WantedFile) → map wanted_view (files ++ file ∷ []) ≡ map wanted_view files ++ wanted_view file ∷ []
with_one files file = map-append wanted_view files (file ∷ [])

among_more : (files : List WantedFile) (file : WantedFile) (q : Wanted) → is_among (map wanted_view (files ++ file ∷ [])) q ≡ (is_among (map wanted_view files) q || is_same (wanted_view file) q)
among_more files file q =
    ap (λ (l : List Wanted). is_among l q) (with_one files file)
    ∙ list_any-append (λ known. is_same known q) (map wanted_view files) (wanted_view file ∷ [])
    ∙ ap (λ (t : Bool). is_among (map wanted_view files) q || t) (or-false (is_same (wanted_view file) q))

true_if : (b c : Bool) → cond b true c ≡ (c || b)
true_if true c = or_comm true c
true_if false c = sym (or-false c)

pub known_more : (known next : BTreeSet FileKey) (files : List WantedFile) (file : WantedFile) → AreKnown known files → Updates key_cmp known next (key_of file) true → AreKnown next (files ++ file ∷ [])
known_more known next files file are updates q =
    updates.0 q
    ∙ ap (λ (t : Bool). cond t true (contains key_cmp known q)) (keys_same (key_of file) q)
    ∙ ap (λ (t : Bool). cond (is_same (wanted_view file) (key_file q)) true t) (are q)
    ∙ true_if (is_same (wanted_view file) (key_file q)) (is_among (map wanted_view files) (key_file q))
    ∙ sym (among_more files file (key_file q))

-- ---- the list with it

pub put_new : (files next : List WantedFile) (file : WantedFile) → is_among (map wanted_view files) (wanted_view file) ≡ false → next ≡ files ++ file ∷ [] → map wanted_view next ≡ with_file (map wanted_view files) (Some (wanted_view file))
put_new files next file new is =
    ap (map wanted_view) is ∙ with_one files file
    ∙ sym (ap (λ (t : Bool). cond t (map wanted_view files) (map wanted_view files ++ wanted_view file ∷ [])) new)

pub put_known : (files : List WantedFile) (file : WantedFile) → is_among (map wanted_view files) (wanted_view file) ≡ true → map wanted_view files ≡ with_file (map wanted_view files) (Some (wanted_view file))
put_known files file known =
    sym (ap (λ (t : Bool). cond t (map wanted_view files) (map wanted_view files ++ wanted_view file ∷ [])) known)

-- what `insert` says of a key
pub was_there : (added there : Bool) → added ≡ not there → added ≡ false → there ≡ true
was_there added true is test = refl
was_there added false is test = sym test ∙ is

pub was_new : (added there : Bool) → added ≡ not there → added ≡ true → there ≡ false
was_new added true is test = sym test ∙ is
was_new added false is test = refl
