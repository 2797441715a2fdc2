-- A search by a test is one for the first index that passes; so is that for a section by its name.
use Rattle.std.proofs.Common.{◌≡◌, ◌<◌, ◌∙◌, ℕ, zero, suc, Bool, true, false, List, [], ◌∷◌, Some, None, Result, Ok, Err, refl, sym, ap, true≢false, ne_eqb, slice_get, arith}
use Rattle.std.specs.Prelude.{nat_eq, if◌then◌else◌, ◌==◌}
use Rattle.std.specs.Cmp.Lexicographic.{pointwise}
use Rattle.std.proofs.lemmas.Slice.Eq.{bytes_eq-Decides}
use Rattle.cfi_elf.specs.declared.error.ElfError.{ElfError}
use Rattle.cfi_elf.specs.declared.section_header.SectionHeader.{SectionHeader}
use Rattle.cfi_elf.specs.ElfFiles.{File}
use Rattle.cfi_elf.specs.FoundSections.{HasName, IsFirstNamed, IsFoundIn}
use Rattle.cfi_elf.specs.Results.{and_then}
use Rattle.cfi_elf.specs.Searches.{first_by, if_passed}
use Rattle.cfi_elf.specs.Sections.{Section, header_named, is_named}
use Rattle.cfi_elf.specs.SectionContents.{contents}
use Rattle.cfi_elf.specs.StringTables.{name_at, section_names}
use Rattle.cfi_elf.specs.SectionTables.{section_headers, section_table}

-- ---- the first that passes

abbrev Test : Type 0 → Type 0
Test A = A → Result Bool ElfError

pub record FirstAt {A : Type 0} (test : Test A) (xs : List A) (x : A) : Type 0 where
  pub index : ℕ
  pub there : slice_get xs index ≡ Some x
  pub passes : test x ≡ Ok true
  pub before : (j : ℕ) (y : A) → j < index → slice_get xs j ≡ Some y → test y ≡ Ok false

first_here : {A : Type 0} (test : Test A) (y x : A) (xs : List A) → test y ≡ Ok true → y ≡ x → FirstAt test (y ∷ xs) x
first_here test y x xs passes same = record {
  index = 0;
  there = ap Some same;
  passes = ap test (sym same) ∙ passes;
  before = λ j z less there. absurd (omega (arith, less));
}

before_later : {A : Type 0} (test : Test A) (y : A) (xs : List A) (index : ℕ) → test y ≡ Ok false → ((j : ℕ) (z : A) → j < index → slice_get xs j ≡ Some z → test z ≡ Ok false) →
    (j : ℕ) (z : A) → j < suc index → slice_get (y ∷ xs) j ≡ Some z → test z ≡ Ok false
before_later test y xs index fails before zero z less there = let same : z ≡ y = cc in ap test same ∙ fails
before_later test y xs index fails before (suc j) z less there = before j z (omega (arith, less)) there

first_later : {A : Type 0} (test : Test A) (y x : A) (xs : List A) → test y ≡ Ok false → FirstAt test xs x → FirstAt test (y ∷ xs) x
first_later test y x xs fails first = record {
  index = suc first.index;
  there = first.there;
  passes = first.passes;
  before = before_later test y xs first.index fails first.before;
}

pub first_is : {A : Type 0} (test : Test A) (xs : List A) (x : A) → first_by test xs ≡ Ok (Some x) → FirstAt test xs x
first_is test [] x is = absurd (cc)
first_is {A = A} test (y ∷ xs) x is = by (first_is test xs x) (test y) refl is
  where
    by : (first_by test xs ≡ Ok (Some x) → FirstAt test xs x) → (r : Result Bool ElfError) → test y ≡ r → if_passed r y (first_by test xs) ≡ Ok (Some x) → FirstAt test (y ∷ xs) x
    by later (Ok true) so is = first_here test y x xs so (cc)
    by later (Ok false) so is = first_later test y x xs so (later is)
    by later (Err e) so is = absurd (cc)

pub none_is_first : {A : Type 0} (test : Test A) (xs : List A) → first_by test xs ≡ Ok None → (j : ℕ) (z : A) → slice_get xs j ≡ Some z → test z ≡ Ok false
none_is_first test [] is j z there = absurd (cc)
none_is_first {A = A} test (y ∷ xs) is j z there = by (none_is_first test xs) (test y) refl is j there
  where
    by : (first_by test xs ≡ Ok None → (j : ℕ) (z : A) → slice_get xs j ≡ Some z → test z ≡ Ok false) → (r : Result Bool ElfError) → test y ≡ r →
        if_passed r y (first_by test xs) ≡ Ok None → (j : ℕ) → slice_get (y ∷ xs) j ≡ Some z → test z ≡ Ok false
    by later (Ok true) so is j there = absurd (cc)
    by later (Ok false) so is zero there = let same : z ≡ y = cc in ap test same ∙ so
    by later (Ok false) so is (suc j) there = later is j z there
    by later (Err e) so is j there = absurd (cc)

-- ---- names

named_by : (names name : List ℕ) (header : SectionHeader) (r : Result (List ℕ) ElfError) (b : Bool) → name_at names header.sh_name ≡ r → (header.sh_type == 0) ≡ b →
    (if b then Ok false else and_then r (λ found. Ok (pointwise nat_eq found name))) ≡ Ok true → HasName names name header
named_by names name header r true so kind is = absurd (cc)
named_by names name header (Err e) false so kind is = absurd (cc)
named_by names name header (Ok found) false so kind is =
    let same : pointwise nat_eq found name ≡ true = cc in
    ((λ null. true≢false (sym (ap (λ (n : ℕ). n == 0) null) ∙ kind)), so ∙ ap Ok ((bytes_eq-Decides found name).0 same))

pub defines_name : (names name : List ℕ) (header : SectionHeader) → is_named names name header ≡ Ok true → HasName names name header
unfolding is_named
defines_name names name header is = named_by names name header (name_at names header.sh_name) (header.sh_type == 0) refl refl is

pub other_name : (names name : List ℕ) (header : SectionHeader) → is_named names name header ≡ Ok false → HasName names name header → ⊥
unfolding is_named
other_name names name header is (some, at) =
    let same : pointwise nat_eq name name ≡ true = (bytes_eq-Decides name name).1 refl in
    let gives : is_named names name header ≡ Ok true =
    ap (λ (b : Bool). if b then Ok false else and_then (name_at names header.sh_name) (λ found. Ok (pointwise nat_eq found name))) (ne_eqb header.sh_type 0 some)
    ∙ (ap (λ (r : Result (List ℕ) ElfError). and_then r (λ found. Ok (pointwise nat_eq found name))) at ∙ ap Ok same) in
    absurd (cc)

-- ---- sections

module _ (file : File) (table names name : List ℕ) (tables : section_table file ≡ Ok table) (strings : section_names file table ≡ Ok names) where
  searched : header_named file name ≡ first_by (is_named names name) (section_headers file table)
  unfolding header_named
  searched = rw (tables, strings) refl

  pub first_found : (header : SectionHeader) (section : Section) → Ok (Some header) ≡ header_named file name → section.address ≡ header.sh_addr → Ok section.bytes ≡ contents file header →
      IsFirstNamed file table names name section
  first_found header section found address bytes =
      let first = first_is (is_named names name) (section_headers file table) header (sym searched ∙ sym found) in record {
        index = first.index;
        header = header;
        at_index = first.there;
        named = defines_name names name header first.passes;
        none_before = λ j other less there. other_name names name other (first.before j other less there);
        address_is = address;
        bytes_are = sym bytes;
      }

  pub none_found : Ok None ≡ header_named file name → IsFoundIn file table names name None
  none_found found j header there = other_name names name header (none_is_first (is_named names name) (section_headers file table) (sym searched ∙ sym found) j header there)
