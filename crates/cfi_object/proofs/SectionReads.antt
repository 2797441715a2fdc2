-- Where it was read which section is .eh_frame, the address of every section can be told.
use Rattle.std.proofs.Common.{◌+◌, ℕ, Bool, true, false, List, [], length, drop, Option, Some, None, Result, Ok, Err, refl, ap, codes}
use Rattle.std.specs.Prelude.{not, nat_le, ◌==◌, bit_and, if◌then◌else◌}
use Rattle.cfi_elf.specs.declared.error.ElfError.{ElfError}
use Rattle.cfi_elf.specs.declared.error.ElfError.TheVariants.{Compressed, NameNotTerminated, NameOutOfBounds, SectionOutOfBounds}
use Rattle.cfi_elf.specs.declared.section_header.SectionHeader.{SectionHeader}
use Rattle.cfi_elf.specs.ElfFiles.{File}
use Rattle.cfi_elf.specs.Fields.{before_zero}
use Rattle.cfi_elf.specs.Images.{IsRead}
use Rattle.cfi_elf.specs.Results.{and_then, if_found}
use Rattle.cfi_elf.specs.Searches.{first_by}
use Rattle.cfi_elf.specs.SectionContents.{address_of}
use Rattle.cfi_elf.specs.Sections.{header_named, is_named, section_address, section_named}
use Rattle.cfi_elf.specs.StringTables.{name_at, section_names}
use Rattle.cfi_elf.specs.SectionTables.{section_headers, section_table}
use Rattle.cfi_elf.proofs.SameResults.{err_read, ok_read, same_first_by, same_or_missing, then_read}
use Rattle.cfi_object.specs.CallFrames.{eh_frame_of}

-- of results in turn that were read the first was
first_read : {A B : Type 0} (r : Result A ElfError) (next : A → Result B ElfError) → IsRead (and_then r next) → IsRead r
first_read {A = A} r next read offset size is = read offset size (ap (λ (r : Result A ElfError). and_then r next) is)

if_read : {A : Type 0} {x y : Result A ElfError} (b : Bool) → IsRead x → IsRead y → IsRead (if b then x else y)
if_read true first second = first
if_read false first second = second

-- ---- a name needs no bytes but those of the string table

name_read : (strings : List ℕ) (index : ℕ) → IsRead (name_at strings index)
unfolding name_at
name_read strings index =
    if_read (index == 0) (ok_read [])
    (if_read (nat_le (length strings) index) (err_read NameOutOfBounds refl) (same_or_missing NameNotTerminated refl (before_zero (drop index strings))).read)

is_named_read : (names name : List ℕ) (header : SectionHeader) → IsRead (is_named names name header)
unfolding is_named
is_named_read names name header =
    if_read (header.sh_type == 0) (ok_read false)
    (then_read (name_at names header.sh_name) _ (name_read names header.sh_name) (λ found. ok_read _))

-- ---- another section than one that was looked for

module _ (file : File) where
  abbrev by_names : List ℕ → List ℕ → Result (Option SectionHeader) ElfError
  by_names name table = and_then (section_names file table) (λ names. first_by (is_named names name) (section_headers file table))

  names_read : (one other table : List ℕ) → IsRead (by_names one table) → IsRead (by_names other table)
  names_read one other table read =
      then_read (section_names file table) _ (first_read (section_names file table) _ read)
      (λ names. (same_first_by (is_named names other) (is_named_read names other) (section_headers file table)).read)

  table_read : (one other : List ℕ) (r : Result (List ℕ) ElfError) → IsRead (and_then r (by_names one)) → IsRead (and_then r (by_names other))
  table_read one other (Ok table) read = names_read one other table read
  table_read one other (Err e) read = read

  header_read : (one other : List ℕ) → IsRead (header_named file one) → IsRead (header_named file other)
  unfolding header_named
  header_read one other read = table_read one other (section_table file) read

  -- ---- addresses

  address_of_read : (header : SectionHeader) → IsRead (address_of file header)
  unfolding address_of
  address_of_read header =
      if_read (header.sh_type == 8) (ok_read header.sh_addr)
      (if_read (not (bit_and header.sh_flags 0x800 == 0)) (err_read Compressed refl)
      (if_read (nat_le (header.sh_offset + header.sh_size) file.image.length) (ok_read header.sh_addr) (err_read SectionOutOfBounds refl)))

  found_read : (found : Option SectionHeader) → IsRead (if_found (address_of file) found)
  found_read None = ok_read None
  found_read (Some header) = then_read (address_of file header) _ (address_of_read header) (λ address. ok_read (Some address))

  frames_header_read : IsRead (eh_frame_of file) → IsRead (header_named file (codes ".eh_frame"))
  unfolding eh_frame_of section_named
  frames_header_read read = first_read (header_named file (codes ".eh_frame")) _ (first_read (section_named file (codes ".eh_frame")) _ read)

  pub section_address_read : IsRead (eh_frame_of file) → (name : List ℕ) → IsRead (section_address file name)
  unfolding section_address
  section_address_read read name =
      then_read (header_named file name) _ (header_read (codes ".eh_frame") name (frames_header_read read)) found_read
