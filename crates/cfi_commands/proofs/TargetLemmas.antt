-- The files that a check is of, name by name.
use Rattle.std.proofs.Common.{◌≡◌, ◌∙◌, ◌<◌, ◌+◌, ◌-◌, ℕ, suc, zero, arith, false, refl, sym, ap, subst, map, get_or, take, length, append_assoc, append-nil, List, [], ◌∷◌, ◌++◌, Option}
use Rattle.std.proofs.lemmas.List.{get_or-map, length-map, map-append}
use Rattle.std.proofs.lemmas.List.Sorted.{IsPermutation-map}
use Rattle.std.specs.Borrow.{Bor}
use Rattle.std.specs.Prelude.{Bool}
use Rattle.std.specs.Cmp.Lexicographic.{slice_cmp}
use Rattle.std.specs.List.Sorted.{IsPermutation, IsSorted, IsSortedByKey}
use Rattle.std.specs.Ordering.{nat_cmp, is_lt}
use Rattle.clap.specs.Words.{Text}
use Rattle.cfi_commands.specs.Disks.{Disk}
use Rattle.cfi_commands.specs.Targets.{Adds, AreIn, AreListedFiles, AreNamedFiles, AreNamesInOrder, AreOfEntry, AreOfList, AreOfNames, AreTargets, IsListRead, Names, Target, TreeEntry, found, of_files, of_list, rest_of, target_view, with_rest}
use Rattle.cfi_commands.specs.Trees.{Tree}
use Rattle.cfi_commands.specs.declared.targets.Target.{Target as TargetOfCode}
use Rattle.cfi_commands.proofs.NameLemmas.{names_more, text_of}

-- ---- names

pub with_rest-end : (names : List Text) (rest : Text) → with_rest (names ++ rest ∷ []) ≡ names ++ rest_of rest
with_rest-end [] rest = refl
with_rest-end (name ∷ []) rest = refl
with_rest-end (name ∷ next ∷ more) rest = ap (λ (names : List Text). name ∷ names) (with_rest-end (next ∷ more) rest)

pub names_are : (items front : List (Bor (List ℕ))) (rest : Bor (List ℕ)) (pieces : List Text) → map text_of items ≡ pieces → items ≡ front ++ rest ∷ [] → map text_of front ++ rest_of (text_of rest) ≡ with_rest pieces
names_are items front rest pieces are e =
    sym (ap with_rest (sym are ∙ ap (map text_of) e ∙ map-append text_of front (rest ∷ [])) ∙ with_rest-end (map text_of front) (text_of rest))

pub texts_sorted : (names : List (Bor (List ℕ))) → IsSortedByKey text_of (slice_cmp nat_cmp) names → IsSorted (slice_cmp nat_cmp) (map text_of names)
texts_sorted names rising k d low high =
    let d' : Bor (List ℕ) = record { ref_ptr = (0, 0); now = d } in
    let same = length-map names text_of in
    let next = get_or-map text_of names (k + 1) d' d (omega (arith, high, same)) in
    let this = get_or-map text_of names k d' d (omega (arith, high, same)) in
    subst (λ x. is_lt (slice_cmp nat_cmp x (get_or (map text_of names) k d)) ≡ false) (sym next)
    (subst (λ x. is_lt (slice_cmp nat_cmp (text_of (get_or names (k + 1) d')) x) ≡ false) (sym this) (rising k d' low (omega (arith, high, same))))

pub in_order : (names ordered : List (Bor (List ℕ))) (texts : List Text) → map text_of names ≡ texts → IsPermutation names ordered → IsSortedByKey text_of (slice_cmp nat_cmp) ordered → AreNamesInOrder texts (map text_of ordered)
in_order names ordered texts e same rising =
    subst (λ (t : List Text). AreNamesInOrder t (map text_of ordered)) e (record { same = IsPermutation-map text_of names ordered same; rising = texts_sorted ordered rising })

-- ---- one file after the other

pub adds_one : (target : TargetOfCode) (Are : List Target → Type 0) (old new : List TargetOfCode) → Are (target_view target ∷ []) → new ≡ old ++ target ∷ [] → Adds Are old new
adds_one target Are old new are e = (target_view target ∷ [], are, ap (map target_view) e ∙ map-append target_view old (target ∷ []))

pub adds_none : (Are : List Target → Type 0) (old : List TargetOfCode) → Are [] → Adds Are old old
adds_none Are old are = ([], are, sym (append-nil (map target_view old)))

abbrev pub no_name : Bor (List ℕ)
no_name = record { ref_ptr = (0, 0); now = [] }

module _ (Is : Text → TreeEntry → Type 0) (In : Text → List Target → Type 0) where
  last_one : (name : Text) (entry : TreeEntry) (targets : List Target) → Is name entry → AreOfEntry In entry targets → AreOfNames Is In (name ∷ []) targets
  last_one name entry targets is are = (entry, targets, [], is, are, refl, sym (append-nil targets))

  each_then : (names : List Text) (name : Text) (entry : TreeEntry) (front targets : List Target) → AreOfNames Is In names front → Is name entry → AreOfEntry In entry targets → AreOfNames Is In (names ++ name ∷ []) (front ++ targets)
  each_then [] name entry front targets none is are = subst (λ (f : List Target). AreOfNames Is In (name ∷ []) (f ++ targets)) (sym none) (last_one name entry targets is are)
  each_then (x ∷ names) name entry front targets (e, first, more, was, of, rest, whole) is are =
      (e, first, more ++ targets, was, of, each_then names name entry more targets rest is are, ap (λ (f : List Target). f ++ targets) whole ∙ append_assoc first more targets)

  one_more : (names : List Text) (name : Text) (entry : TreeEntry) (old mid new : List TargetOfCode) → Adds (AreOfNames Is In names) old mid → Is name entry → Adds (AreOfEntry In entry) mid new → Adds (AreOfNames Is In (names ++ name ∷ [])) old new
  one_more names name entry old mid new (front, each, so_far) is (more, are, after) =
      (front ++ more, each_then names name entry front more each is are, after ∙ ap (λ (f : List Target). f ++ more) so_far ∙ append_assoc (map target_view old) front more)

  -- the files of the name at this place in a list
  pub next_name : (names : List (Bor (List ℕ))) (i : ℕ) (entry : TreeEntry) (old mid new : List TargetOfCode) → i < length names → Adds (AreOfNames Is In (map text_of (take i names))) old mid → Is (text_of (get_or names i no_name)) entry →
      Adds (AreOfEntry In entry) mid new → Adds (AreOfNames Is In (map text_of (take (i + 1) names))) old new
  next_name names i entry old mid new less before is after =
      subst (λ (front : List Text). Adds (AreOfNames Is In front) old new) (sym (names_more text_of names i no_name less))
      (one_more (map text_of (take i names)) (text_of (get_or names i no_name)) entry old mid new before is after)

-- ---- a folder

pub too_deep : (tree : Tree) (depth : ℕ) (folder : Text) → depth ≡ 0 → AreIn tree depth folder (found folder ∷ [])
unfolding AreIn
too_deep tree depth folder e = subst (λ (n : ℕ). AreIn tree n folder (found folder ∷ [])) (sym e) refl

pub listed_folder : (tree : Tree) (depth : ℕ) (folder : Text) (listing : Option (List ℕ)) (targets : List Target) → 0 < depth → tree.MayList folder listing → AreOfList tree (AreIn tree (depth - 1)) folder listing targets → AreIn tree depth folder targets
unfolding AreIn
listed_folder tree zero folder listing targets lt may are = absurd (omega (arith, lt))
listed_folder tree (suc depth) folder listing targets lt may are =
    let e : suc depth - 1 ≡ depth = omega arith in
    (listing, may, subst (λ (n : ℕ). AreOfList tree (AreIn tree n) folder listing targets) e are)

-- ---- all files that a check is of

added : (Are : List Target → Type 0) (new : List TargetOfCode) → Adds Are [] new → Are (map target_view new)
added Are new (more, are, e) = subst Are (sym e) are

pub files_found : (disk : Disk) (tree : Tree) (recursive : Bool) (names : Names) (texts : List Text) (made : List TargetOfCode) → names ≡ of_files texts → Adds (AreNamedFiles tree recursive texts) [] made → AreTargets disk tree recursive names (map target_view made)
files_found disk tree recursive names texts made e h =
    subst (λ (n : Names). AreTargets disk tree recursive n (map target_view made)) (sym e) (added (AreNamedFiles tree recursive texts) made h)

pub list_found : (disk : Disk) (tree : Tree) (recursive : Bool) (name : Text) (bytes : List ℕ) (made : List TargetOfCode) → IsListRead disk name bytes → Adds (AreListedFiles tree recursive bytes) [] made → AreTargets disk tree recursive (of_list name) (map target_view made)
list_found disk tree recursive name bytes made read h = (bytes, read, added (AreListedFiles tree recursive bytes) made h)
