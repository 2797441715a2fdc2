-- What the beginning of a core file says of the whole.
use Rattle.std.proofs.Common.{◌≡◌, ◌∙◌, ◌≤◌, ◌+◌, ◌-◌, ◌*◌, ◌==◌, ◌&&◌, ℕ, Bool, true, false, not, List, [], length, take, Option, Some, None, Result, Ok, Err, refl, sym, ap, ap₂, arith, min, true≢false}
use Rattle.std.specs.Prelude.{nat_le, nat_lt, slice_range, if◌then◌else◌}
use Rattle.std.proofs.lemmas.Bool.{leb-true}
use Rattle.cfi_read_core.specs.ByteOrder.{is_big}
use Rattle.cfi_read_core.specs.ReaderCalls.{map_ok}
use Rattle.cfi_elf.specs.declared.error.ElfError.{ElfError}
use Rattle.cfi_elf.specs.declared.error.ElfError.TheVariants.{HeaderCut, NotCore, ProgramEntrySize, ProgramTableOutOfBounds, UnknownVersion}
use Rattle.cfi_elf.specs.declared.file_header.Identification.{Identification}
use Rattle.cfi_elf.specs.declared.program_header.ProgramHeader.{ProgramHeader}
use Rattle.cfi_elf.specs.ElfFiles.{File, any_file, class_of_file, core_file, header_bytes, identification, only_core}
use Rattle.cfi_elf.specs.Fields.{part}
use Rattle.cfi_elf.specs.Headers.{file_header, file_header_bytes, program_header_bytes}
use Rattle.cfi_elf.specs.Images.{Image, bytes_at, if_read, whole}
use Rattle.cfi_elf.specs.Options.{or_else}
use Rattle.cfi_elf.specs.Results.{and_then, or_missing}
use Rattle.cfi_elf.specs.SectionTables.{first_section_header}
use Rattle.cfi_elf.specs.SegmentLists.{segments}
use Rattle.cfi_elf.specs.SegmentLists.{program_headers, program_table, segment_count}
use Rattle.cfi_elf.proofs.ImageParts.{part_of_part}
use Rattle.cfi_processes.specs.declared.registers.SampleMachine.{SampleMachine}
use Rattle.cfi_cores.specs.declared.error.CoreError.{CoreError}
use Rattle.cfi_cores.specs.CoreFiles.{core_elf, core_headers, core_of, core_with, machine_of, or_elf_error}

-- ---- results

of_elf : {A : Type 0} (r : Result A ElfError) (x : A) → or_elf_error r ≡ Ok x → r ≡ Ok x
of_elf (Ok y) x is = let same : y ≡ x = cc in ap Ok same
of_elf (Err e) x is = absurd (cc)

found_if : (b : Bool) (offset size : ℕ) (o : Option (List ℕ)) (e : ElfError) (x : List ℕ) → and_then (if b then if_read offset size (or_else o None) else Ok None) (or_missing e) ≡ Ok x → o ≡ Some x
found_if true offset size (Some y) e x is = let same : y ≡ x = cc in ap Some same
found_if true offset size None e x is = absurd (cc)
found_if false offset size o e x is = absurd (cc)

fits_if : (b : Bool) (xs ys : List ℕ) → (if b then Some xs else None) ≡ Some ys → b ≡ true
fits_if true xs ys is = refl
fits_if false xs ys is = absurd (cc)

taken_if : (b : Bool) (xs ys : List ℕ) → (if b then Some xs else None) ≡ Some ys → xs ≡ ys
taken_if true xs ys is = cc
taken_if false xs ys is = absurd (cc)

-- ---- a file, whose bytes may be others

abbrev with_image : Image → File → File
with_image image file = record file { image = image }

abbrev file_if : List ℕ → Image → Identification → Bool → Result File ElfError
file_if h image ident short =
    if short then Err HeaderCut else Ok (record { image = image; identification = ident; header = file_header ident.class (is_big ident.«data») h })

any_moved : (image other : Image) (h : List ℕ) → any_file other h ≡ map_ok (with_image other) (any_file image h)
unfolding any_file
any_moved image other h = by (identification h)
  where
    by_size : (ident : Identification) (short : Bool) → file_if h other ident short ≡ map_ok (with_image other) (file_if h image ident short)
    by_size ident true = refl
    by_size ident false = refl

    by : (r : Result Identification ElfError) → and_then r (λ ident. file_if h other ident (nat_lt (length h) (file_header_bytes ident.class)))
        ≡ map_ok (with_image other) (and_then r (λ ident. file_if h image ident (nat_lt (length h) (file_header_bytes ident.class))))
    by (Ok ident) = by_size ident (nat_lt (length h) (file_header_bytes ident.class))
    by (Err e) = refl

core_moved : (image : Image) (file : File) → only_core (with_image image file) ≡ map_ok (with_image image) (only_core file)
core_moved image file = by (not (file.header.kind.e_version == 1)) (not (file.header.kind.e_type == 4))
  where
    by : (a b : Bool) → (if a then Err (UnknownVersion file.header.kind.e_version) else if b then Err (NotCore file.header.kind.e_type) else Ok (with_image image file))
        ≡ map_ok (with_image image) (if a then Err (UnknownVersion file.header.kind.e_version) else if b then Err (NotCore file.header.kind.e_type) else Ok file)
    by true b = refl
    by false true = refl
    by false false = refl

then_core : (image other : Image) (h : List ℕ) → and_then (any_file other h) only_core ≡ map_ok (with_image other) (and_then (any_file image h) only_core)
then_core image other h = ap (λ (r : Result File ElfError). and_then r only_core) (any_moved image other h) ∙ by (any_file image h)
  where
    by : (r : Result File ElfError) → and_then (map_ok (with_image other) r) only_core ≡ map_ok (with_image other) (and_then r only_core)
    by (Ok file) = core_moved other file
    by (Err e) = refl

-- ---- by the beginning of its bytes

module _ (first bytes : List ℕ) (is : part bytes 0 (length first) ≡ Some first) where
  within : 0 + length first ≤ length bytes
  within = leb-true _ _ (fits_if (nat_le (0 + length first) (length bytes)) (slice_range bytes 0 (0 + length first)) first is)

  taken : take (length first) bytes ≡ first
  taken =
      let size : 0 + length first - 0 ≡ length first = omega arith in
      ap (λ (n : ℕ). take n bytes) (sym size) ∙ taken_if (nat_le (0 + length first) (length bytes)) (slice_range bytes 0 (0 + length first)) first is

  -- bytes that it has
  pub same_bytes_at : (offset size : ℕ) (e : ElfError) (x : List ℕ) → bytes_at (whole first) offset size e ≡ Ok x → bytes_at (whole bytes) offset size e ≡ Ok x
  unfolding bytes_at
  same_bytes_at offset size e x read =
      let here = found_if (nat_le (offset + size) (length first)) offset size (part first offset size) e x read in
      let there = part_of_part bytes first x 0 offset size offset (omega arith) is here in
      let fits = fits_if (nat_le (offset + size) (length bytes)) (slice_range bytes offset (offset + size)) x there in
      ap₂ (λ (b : Bool) (o : Option (List ℕ)). and_then (if b then if_read offset size (or_else o None) else Ok None) (or_missing e)) fits there

  same_header : 64 ≤ length first → (h : List ℕ) → header_bytes (whole first) ≡ Ok h → header_bytes (whole bytes) ≡ Ok h
  unfolding header_bytes
  same_header long h read =
      let some = within in
      let here : min (length first) 64 ≡ 64 = omega (arith, long) in
      let there : min (length bytes) 64 ≡ 64 = omega (arith, long, some) in
      ap (λ (n : ℕ). bytes_at (whole bytes) 0 n HeaderCut) there ∙ same_bytes_at 0 64 HeaderCut h (ap (λ (n : ℕ). bytes_at (whole first) 0 n HeaderCut) (sym here) ∙ read)

  pub same_core : 64 ≤ length first → (file : File) → core_file first ≡ Ok file → core_file bytes ≡ Ok (with_image (whole bytes) file)
  unfolding core_file
  same_core long file read = by (header_bytes (whole first)) refl read
    where
      by : (r : Result (List ℕ) ElfError) → header_bytes (whole first) ≡ r → and_then r (λ h. and_then (any_file (whole first) h) only_core) ≡ Ok file
          → and_then (header_bytes (whole bytes)) (λ h. and_then (any_file (whole bytes) h) only_core) ≡ Ok (with_image (whole bytes) file)
      by (Ok h) is_header read =
          ap (λ (r : Result (List ℕ) ElfError). and_then r (λ h. and_then (any_file (whole bytes) h) only_core)) (same_header long h is_header)
          ∙ (then_core (whole first) (whole bytes) h ∙ ap (map_ok (with_image (whole bytes))) read)
      by (Err e) is_header read = absurd (cc)

  -- ---- the program headers

  module _ (file : File) (few : (file.header.sizes.e_phnum == 0xffff) ≡ false) where
    abbrev cut : File
    cut = with_image (whole first) file

    abbrev all : File
    all = with_image (whole bytes) file

    abbrev table_by : Image → File → Bool → Bool → Bool → Bool → Result (List ℕ) ElfError
    table_by image f none sized many sections =
        if none then Ok []
        else if sized then Err (ProgramEntrySize file.header.sizes.e_phentsize)
        else and_then (if many && sections then and_then (first_section_header f) (λ first. Ok first.sh_info) else Ok file.header.sizes.e_phnum)
        (λ count. bytes_at image file.header.offsets.e_phoff (count * program_header_bytes (class_of_file file)) ProgramTableOutOfBounds)

    same_by : (none sized many sections : Bool) (t : List ℕ) → many ≡ false → table_by (whole first) cut none sized many sections ≡ Ok t → table_by (whole bytes) all none sized many sections ≡ Ok t
    same_by true sized many sections t small read = read
    same_by false true many sections t small read = absurd (cc)
    same_by false false false sections t small read =
        same_bytes_at file.header.offsets.e_phoff (file.header.sizes.e_phnum * program_header_bytes (class_of_file file)) ProgramTableOutOfBounds t read
    same_by false false true sections t small read = absurd (true≢false small)

    same_table : (t : List ℕ) → program_table cut ≡ Ok t → program_table all ≡ Ok t
    unfolding program_table segment_count
    same_table t read =
        same_by (file.header.offsets.e_phoff == 0) (not (file.header.sizes.e_phentsize == program_header_bytes (class_of_file file))) (file.header.sizes.e_phnum == 0xffff) (not (file.header.offsets.e_shoff == 0)) t few read

    pub same_segments : (headers : List ProgramHeader) → segments cut ≡ Ok headers → segments all ≡ Ok headers
    unfolding segments
    same_segments headers read = by (program_table cut) refl read
      where
        by : (r : Result (List ℕ) ElfError) → program_table cut ≡ r → and_then r (λ table. Ok (program_headers file table)) ≡ Ok headers → and_then (program_table all) (λ table. Ok (program_headers file table)) ≡ Ok headers
        by (Ok t) is_table read = ap (λ (r : Result (List ℕ) ElfError). and_then r (λ table. Ok (program_headers file table))) (same_table t is_table) ∙ read
        by (Err e) is_table read = absurd (cc)

  -- ---- the core

  -- the bytes of the file are those that it was read of
  same_core_self : (file : File) → core_file first ≡ Ok file → file ≡ with_image (whole first) file
  unfolding core_file
  same_core_self file read = by (header_bytes (whole first)) read
    where
      by : (r : Result (List ℕ) ElfError) → and_then r (λ h. and_then (any_file (whole first) h) only_core) ≡ Ok file → file ≡ with_image (whole first) file
      by (Ok h) read =
          let moved : Ok file ≡ map_ok (with_image (whole first)) (Ok file) = sym read ∙ (then_core (whole first) (whole first) h ∙ ap (map_ok (with_image (whole first))) read) in
          cc
      by (Err e) read = absurd (cc)

  -- by the file, the machine and the headers of the beginning
  pub core_found : 64 ≤ length first → (file : File) (machine : SampleMachine) (headers : List ProgramHeader) → core_elf first ≡ Ok file → (file.header.sizes.e_phnum == 0xffff) ≡ false → machine_of file ≡ Ok machine
      → core_headers file ≡ Ok headers → core_of bytes ≡ Ok (core_with machine bytes headers)
  unfolding core_of
  core_found long file machine headers elf few known listed =
      let f = with_image (whole bytes) file in
      let read = of_elf (core_file first) file elf in
      let again = same_core_self file read in
      let there : core_elf bytes ≡ Ok f = ap or_elf_error (same_core long file read) in
      let cut_listed : segments (with_image (whole first) file) ≡ Ok headers = ap segments (sym again) ∙ of_elf (segments file) headers listed in
      let all_listed : core_headers f ≡ Ok headers = ap or_elf_error (same_segments file few headers cut_listed) in
      ap (λ (r : Result File CoreError). and_then r (λ file. and_then (machine_of file) (λ machine. and_then (core_headers file) (λ headers. Ok (core_with machine bytes headers))))) there
      ∙ (ap (λ (r : Result SampleMachine CoreError). and_then r (λ machine. and_then (core_headers f) (λ headers. Ok (core_with machine bytes headers)))) known
      ∙ ap (λ (r : Result (List ProgramHeader) CoreError). and_then r (λ headers. Ok (core_with machine bytes headers))) all_listed)
