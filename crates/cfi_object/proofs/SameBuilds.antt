-- The build and the debug link of a file of which parts were read are those of the whole file, unless a part lacks.
use Rattle.std.proofs.Common.{◌*◌, ℕ, Bool, List, [], ◌∷◌, Option, Some, None, Result, codes}
use Rattle.std.specs.Prelude.{not, slice_get, ◌==◌, ◌&&◌, if◌then◌else◌}
use Rattle.cfi_elf.specs.declared.error.ElfError.{ElfError}
use Rattle.cfi_elf.specs.declared.error.ElfError.TheVariants.{ProgramEntrySize, ProgramTableOutOfBounds, SectionTableOutOfBounds, SegmentOutOfBounds}
use Rattle.cfi_elf.specs.declared.program_header.ProgramHeader.{ProgramHeader}
use Rattle.cfi_elf.specs.declared.section_header.SectionHeader.{SectionHeader}
use Rattle.cfi_elf.specs.DebugLinks.{debug_link}
use Rattle.cfi_elf.specs.ElfFiles.{File, class_of_file}
use Rattle.cfi_elf.specs.Headers.{program_header_bytes, section_header_bytes}
use Rattle.cfi_elf.specs.Images.{IsImageOf}
use Rattle.cfi_elf.specs.BuildIds.{build_id, build_id_among, build_id_of, or_others}
use Rattle.cfi_elf.specs.SectionTables.{first_section_header, or_by_first, section_headers}
use Rattle.cfi_elf.specs.SegmentLists.{segments}
use Rattle.cfi_elf.specs.SegmentLists.{program_table, segment_bytes, segment_count}
use Rattle.cfi_elf.proofs.Images.{in_whole, same_bytes_at, same_section_named}
use Rattle.cfi_elf.proofs.SameResults.{Same, same_err, same_if, same_ok, same_or_missing, same_then}
use Rattle.std.proofs.Common.{refl}

same_or_others : (found : Option (List ℕ)) {r r' : Result (Option (List ℕ)) ElfError} → Same r r' → Same (or_others found r) (or_others found r')
same_or_others (Some id) same = same_ok (Some id)
same_or_others None same = same

module _ {bytes : List ℕ} (file : File) (of : IsImageOf file.image bytes) where
  abbrev all : File
  all = in_whole bytes file

  same_first_header : Same (first_section_header file) (first_section_header all)
  unfolding first_section_header
  same_first_header =
      same_then (same_bytes_at of file.header.offsets.e_shoff (section_header_bytes (class_of_file file)) SectionTableOutOfBounds refl)
      (λ found. same_or_missing SectionTableOutOfBounds refl (slice_get (section_headers file found) 0))

  same_by_first : (number : ℕ) (by_first : Bool) (of_first : SectionHeader → ℕ) → Same (or_by_first file number by_first of_first) (or_by_first all number by_first of_first)
  same_by_first number by_first of_first = same_if by_first (same_then same_first_header (λ first. same_ok (of_first first))) (same_ok number)

  same_segment_count : Same (segment_count file) (segment_count all)
  unfolding segment_count
  same_segment_count = same_by_first file.header.sizes.e_phnum ((file.header.sizes.e_phnum == 0xffff) && not (file.header.offsets.e_shoff == 0)) (λ first. first.sh_info)

  same_program_table : Same (program_table file) (program_table all)
  unfolding program_table
  same_program_table =
      let size = program_header_bytes (class_of_file file) in
      same_if (file.header.offsets.e_phoff == 0) (same_ok [])
      (same_if (not (file.header.sizes.e_phentsize == size)) (same_err (ProgramEntrySize file.header.sizes.e_phentsize) refl)
      (same_then same_segment_count (λ count. same_bytes_at of file.header.offsets.e_phoff (count * size) ProgramTableOutOfBounds refl)))

  same_segments : Same (segments file) (segments all)
  unfolding segments
  same_segments = same_then same_program_table (λ table. same_ok _)

  same_bytes : (header : ProgramHeader) → Same (segment_bytes file header) (segment_bytes all header)
  same_bytes header = same_bytes_at of header.p_offset header.p_filesz SegmentOutOfBounds refl

  same_build_of : (header : ProgramHeader) → Same (build_id_of file header) (build_id_of all header)
  unfolding build_id_of
  same_build_of header = same_if (header.p_type == 4) (same_then (same_bytes header) (λ bytes. same_ok _)) (same_ok None)

  same_build_among : (headers : List ProgramHeader) → Same (build_id_among file headers) (build_id_among all headers)
  same_build_among [] = same_ok None
  same_build_among (header ∷ headers) = same_then (same_build_of header) (λ found. same_or_others found (same_build_among headers))

  pub same_build : Same (build_id file) (build_id all)
  unfolding build_id
  same_build = same_then same_segments same_build_among

  pub same_link : Same (debug_link file) (debug_link all)
  unfolding debug_link
  same_link = same_then (same_section_named file of (codes ".gnu_debuglink")) (λ found. same_ok _)
