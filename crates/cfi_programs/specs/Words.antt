-- The words of the command line that say of what kind a section is, and where it lies.
use Rattle.std.specs.Prelude.{refl, ℕ, Option, Some, None, List, [], ◌∷◌, codes}
use Rattle.std.specs.Prelude.{if◌then◌else◌}
use Rattle.std.specs.Option.{option_and_then, option_map}
use Rattle.std.specs.Str.{bytes_eq}
use Rattle.cfi_read_core.specs.declared.address.AddressSize.{AddressSize}
use Rattle.cfi_read_core.specs.declared.common.Vendor.{Vendor}
use Rattle.cfi_read_core.specs.declared.common.Vendor.TheVariants as vendors
use Rattle.cfi_read_core.specs.declared.endianity.RunTimeEndian.{RunTimeEndian}
use Rattle.cfi_read_core.specs.declared.endianity.RunTimeEndian.TheVariants.{Little, Big}
use Rattle.gimli_cfi.specs.declared.source.SectionKind.{SectionKind}
use Rattle.gimli_cfi.specs.declared.source.SectionKind.TheVariants.{DebugFrame, EhFrame}
use Rattle.cfi_programs.specs.Numbers.{after_prefix, number}
use Rattle.cfi_programs.specs.declared.words.SectionWords.{SectionWords}

-- ---- the words after the first ones, each at most once

-- the given number, where none was given before
abbrev pub once_given : Option ℕ → Option ℕ → Option ℕ
once_given None given = given
once_given (Some n) given = None

abbrev pub set_vendor : SectionWords → Vendor → Option SectionWords
set_vendor words vendors.Default = Some (record words { vendor = vendors.AArch64 })
set_vendor words vendors.AArch64 = None

abbrev pub set_section : SectionWords → List ℕ → Option SectionWords
set_section words digits =
    option_map (λ n. record words { section = Some n }) (once_given words.section (number digits))

abbrev pub set_text : SectionWords → List ℕ → Option SectionWords
set_text words digits =
    option_map (λ n. record words { text = Some n }) (once_given words.text (number digits))

abbrev pub set_data_base : SectionWords → List ℕ → Option SectionWords
set_data_base words digits =
    option_map (λ n. record words { data_base = Some n })
    (once_given words.data_base (number digits))

-- only .eh_frame has a header
abbrev pub set_header : SectionWords → List ℕ → SectionKind → Option SectionWords
set_header words digits DebugFrame = None
set_header words digits EhFrame =
    option_map (λ n. record words { header = Some n }) (once_given words.header (number digits))

-- the first that fits: set by what comes after the start, or else what is otherwise asked for
abbrev pub set_if_prefixed :
    {A : Type 0} → Option (List ℕ) → (List ℕ → Option A) → Option A → Option A
set_if_prefixed (Some digits) set otherwise = set digits
set_if_prefixed None set otherwise = otherwise

abbrev pub section_word : List ℕ → SectionWords → Option SectionWords
section_word word words =
    if bytes_eq word (codes "vendor=aarch64") then set_vendor words words.vendor
    else set_if_prefixed (after_prefix (codes "section=") word) (set_section words)
    (set_if_prefixed (after_prefix (codes "text=") word) (set_text words)
    (set_if_prefixed (after_prefix (codes "data=") word) (set_data_base words)
    (set_if_prefixed (after_prefix (codes "header=") word)
    (λ digits. set_header words digits words.kind)
    None)))

-- each word in turn, where none is wrong
unfoldable pub each_word : {A : Type 0} → (List ℕ → A → Option A) → List (List ℕ) → A → Option A
each_word read [] value = Some value
each_word read (word ∷ words) value = option_and_then (each_word read words) (read word value)

-- ---- the first words

abbrev pub kind_named : List ℕ → Option SectionKind
kind_named word =
    if bytes_eq word (codes "debug_frame") then Some DebugFrame
    else if bytes_eq word (codes "eh_frame") then Some EhFrame else None

abbrev pub order_named : List ℕ → Option RunTimeEndian
order_named word =
    if bytes_eq word (codes "le") then Some Little
    else if bytes_eq word (codes "be") then Some Big else None

abbrev pub size_named : List ℕ → Option AddressSize
size_named word =
    if bytes_eq word (codes "1") then Some (record { bytes = 1; sized = refl })
    else if bytes_eq word (codes "2") then Some (record { bytes = 2; sized = refl })
    else if bytes_eq word (codes "4") then Some (record { bytes = 4; sized = refl })
    else if bytes_eq word (codes "8") then Some (record { bytes = 8; sized = refl })
    else None

infixl 10 ◌>>=◌
abbrev pub ◌>>=◌ : {A B : Type 0} → Option A → (A → Option B) → Option B
given >>= next = option_and_then next given

abbrev pub first_words : List ℕ → List ℕ → List ℕ → Option SectionWords
first_words kind order size = do
  section ← kind_named kind
  endian ← order_named order
  address_size ← size_named size
  Some (record {
    kind = section;
    endian = endian;
    address_size = address_size;
    section = None;
    text = None;
    data_base = None;
    vendor = vendors.Default;
    header = None;
  })
