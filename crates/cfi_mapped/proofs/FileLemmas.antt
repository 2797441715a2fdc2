-- Files that are opened, gathered one after the other.
use Rattle.std.proofs.Common.{◌≡◌, ◌∙◌, ℕ, ◌+◌, ◌<◌, ◌≤◌, ◌&&◌, Bool, true, false, List, [], ◌∷◌, ◌++◌, Option, length, get_or, drop, map, not, cond, refl, sym, ap, subst, add-one, append-nil, append_assoc}
use Rattle.std.proofs.Math.Seq.{drop-cons}
use Rattle.std.proofs.lemmas.List.{drop_all}
use Rattle.std.specs.List.{position_or_len, prefix_len}
use Rattle.cfi_mapped.specs.declared.opened_file.OpenedFile.{OpenedFile}
use Rattle.cfi_mapped.specs.CodeParts.{is_whole}
use Rattle.cfi_mapped.specs.FileReads.{AreOpened, IsContents, IsDebugFor}
use Rattle.cfi_mapped.specs.OpenedFiles.{AreOpenedAs, IsOpenedAs, Opened, are_whole, opened_as}
use Rattle.cfi_mapped.specs.declared.wanted.WantedFile.{WantedFile}
use Rattle.cfi_mapped.specs.Wanted.{FilePlace, Wanted, wanted_view}

prefix_mapped : {X Y : Type 0} (f : X → Y) (q : Y → Bool) (xs : List X) → prefix_len (λ x. q (f x)) xs ≡ prefix_len q (map f xs)
prefix_mapped f q [] = refl
prefix_mapped f q (x ∷ xs) = ap (λ (n : ℕ). cond (q (f x)) (1 + n) 0) (prefix_mapped f q xs)

pub place_mapped : {X Y : Type 0} (f : X → Y) (p : Y → Bool) (xs : List X) → position_or_len (λ x. p (f x)) xs ≡ position_or_len p (map f xs)
place_mapped f p xs = prefix_mapped f (λ y. not (p y)) xs

-- ---- opened

module _ {Handle : Type 0} (may_open : FilePlace → Option Handle → Type 0) (remaining : Handle → Option (List ℕ)) where
  -- with what is opened for the other files, the first are those of all
  pub record OpensOn (all left : List Wanted) (first : List Opened) : Type 0 where
    pub opens_on : (others : List Opened) → AreOpened may_open remaining left others → AreOpened may_open remaining all (first ++ others)

  pub none_opened : (all : List Wanted) → OpensOn all all []
  none_opened all = record { opens_on = λ others are. are }

  pub one_opened : (all : List Wanted) (files : List WantedFile) (i : ℕ) (d : WantedFile) (first next : List Opened) (bytes debug : Option (List ℕ)) → i < length files
      → next ≡ first ++ opened_as (wanted_view (get_or files i d)) bytes debug ∷ [] → OpensOn all (map wanted_view (drop i files)) first → IsContents may_open remaining (wanted_view (get_or files i d)) bytes
      → IsDebugFor may_open remaining (wanted_view (get_or files i d)) bytes debug
      → OpensOn all (map wanted_view (drop (i + 1) files)) next
  one_opened all files i d first next bytes debug inside is so contents of_debug = record {
    opens_on = λ others are.
        let one : Opened = opened_as (wanted_view (get_or files i d)) bytes debug in
        let left : map wanted_view (drop i files) ≡ wanted_view (get_or files i d) ∷ map wanted_view (drop (i + 1) files) = rw (drop-cons files i d, add-one) refl in
        let whole = so.opens_on (one ∷ others) (subst (λ (files : List Wanted). AreOpened may_open remaining files (one ∷ others)) (sym left) (bytes, debug, others, contents, of_debug, are, refl)) in
        subst (λ (opened : List Opened). AreOpened may_open remaining all opened) (sym (ap (λ (front : List Opened). front ++ others) is ∙ append_assoc first (one ∷ []) others)) whole;
  }

  -- all files were opened
  pub all_opened : (files : List WantedFile) (i : ℕ) (opened : List Opened) → length files ≤ i → OpensOn (map wanted_view files) (map wanted_view (drop i files)) opened
      → AreOpened may_open remaining (map wanted_view files) opened
  all_opened files i opened behind so =
      let none : map wanted_view (drop i files) ≡ [] = rw drop_all refl in
      subst (λ (all : List Opened). AreOpened may_open remaining (map wanted_view files) all) (append-nil opened)
      (so.opens_on [] (subst (λ (left : List Wanted). AreOpened may_open remaining left []) (sym none) refl))

-- ---- what the code has of them

pub opened_pushed : (opened : List OpenedFile) (first : List Opened) (one : OpenedFile) (file : Opened) → AreOpenedAs opened first → IsOpenedAs one file → AreOpenedAs (opened ++ one ∷ []) (first ++ file ∷ [])
opened_pushed [] first one file is hold = (file, [], hold, refl, ap (λ (files : List Opened). files ++ file ∷ []) is)
opened_pushed (o ∷ opened) first one file (f, others, is, are, same) hold =
    (f, others ++ file ∷ [], is, opened_pushed opened others one file are hold, ap (λ (files : List Opened). files ++ file ∷ []) same)

both : (a b : Bool) → (a && b) ≡ true → (a ≡ true) × (b ≡ true)
both true b is = (refl, is)
both false b is = absurd (cc)

pub whole_pushed : (opened : List OpenedFile) (one : OpenedFile) → are_whole opened ≡ true → is_whole one.code ≡ true → are_whole (opened ++ one ∷ []) ≡ true
whole_pushed [] one are is = ap (λ (b : Bool). b && true) is
whole_pushed (o ∷ opened) one are is =
    let (first, others) = both (is_whole o.code) (are_whole opened) are in
    ap (λ (b : Bool). b && are_whole (opened ++ one ∷ [])) first ∙ whole_pushed opened one others is
