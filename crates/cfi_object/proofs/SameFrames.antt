-- The call frames of a file of which parts were read are those of the whole file, unless a part lacks.
use Rattle.std.proofs.Common.{ℕ, Bool, true, false, List, length, ◌==◌, Option, Some, None, Result, Ok, codes, option_map, if◌then◌else◌}
use Rattle.cfi_elf.specs.declared.error.ElfError.{ElfError}
use Rattle.cfi_elf.specs.ElfFiles.{File}
use Rattle.cfi_elf.specs.Images.{IsImageOf}
use Rattle.cfi_elf.specs.Sections.{Section}
use Rattle.cfi_elf.proofs.SameResults.{Same, same_ok, same_then}
use Rattle.cfi_elf.proofs.Images.{in_whole, same_debug_frame, same_eh_frame_hdr_segment, same_loaded_bytes, same_section_address, same_section_named}
use Rattle.gimli_cfi.specs.declared.source.SectionKind.TheVariants.{DebugFrame}
use Rattle.cfi_object.specs.CallFrames.{by_name_or_segment, data_base, debug_frame_of, eh_frame_address, eh_frame_at, eh_frame_of, frames_by_header, frames_by_segment, frames_named, if_there, loaded_at, loaded_frames, named_frames, or_address, given_section}

same_or_else : (found : Option ℕ) (r r' : Result (Option ℕ) ElfError) → Same r r' → Same (or_address found r) (or_address found r')
same_or_else (Some address) r r' same = same_ok (Some address)
same_or_else None r r' same = same

same_there : {A B : Type 0} (found : Option A) (next next' : A → Result (Option B) ElfError) → ((x : A) → Same (next x) (next' x)) → Same (if_there found next) (if_there found next')
same_there None next next' same = same_ok None
same_there (Some x) next next' same = same x

same_if : {A : Type 0} (b : Bool) (found : A) (r r' : Result A ElfError) → Same r r' → Same (if b then Ok found else r) (if b then Ok found else r')
same_if true found r r' same = same_ok found
same_if false found r r' same = same

module _ (file : File) (bytes : List ℕ) (of : IsImageOf file.image bytes) where
  -- the file with all of its bytes
  abbrev all : File
  all = in_whole bytes file

  same_base : Same (data_base file) (data_base all)
  unfolding data_base
  same_base =
      same_then (same_section_address file of (codes ".got.plt")) (λ address.
      same_or_else address _ _ (same_section_address file of (codes ".got")))

  same_named : (section : Section) → Same (named_frames file section) (named_frames all section)
  unfolding named_frames
  same_named section =
      same_then (same_section_address file of (codes ".text")) (λ text.
      same_then same_base (λ base.
      same_then (same_section_named file of (codes ".eh_frame_hdr")) (λ header.
      same_ok (eh_frame_at file section text base header))))

  same_loaded : (header : Section) (address : ℕ) → Same (loaded_frames file header address) (loaded_frames all header address)
  same_loaded header address =
      same_then (same_loaded_bytes file of address) (λ loaded.
      same_ok (option_map (loaded_at file header address) loaded))

  same_by_header : (header : Section) → Same (frames_by_header file header) (frames_by_header all header)
  unfolding frames_by_header
  same_by_header header = same_there (eh_frame_address file header) _ _ (same_loaded header)

  same_by_segment : Same (frames_by_segment file) (frames_by_segment all)
  unfolding frames_by_segment
  same_by_segment = same_then (same_eh_frame_hdr_segment file of) (λ header. same_there header _ _ same_by_header)

  same_frames : (section : Section) → Same (frames_named file section) (frames_named all section)
  unfolding frames_named
  same_frames section = same_if (length section.bytes == 0) None _ _ (same_then (same_named section) (λ frames. same_ok (Some frames)))

  same_by_name : (section : Option Section) → Same (by_name_or_segment file section) (by_name_or_segment all section)
  same_by_name (Some section) = same_frames section
  same_by_name None = same_by_segment

  pub same_eh_frame : Same (eh_frame_of file) (eh_frame_of all)
  unfolding eh_frame_of
  same_eh_frame = same_then (same_section_named file of (codes ".eh_frame")) same_by_name

  pub same_debug : Same (debug_frame_of file) (debug_frame_of all)
  unfolding debug_frame_of
  same_debug =
      same_then (same_debug_frame file of) (λ found.
      same_ok (option_map (λ (section : Section). given_section file DebugFrame section.bytes) found))
