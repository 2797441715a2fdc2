-- The name of a section, and a compressed one, over plain values.
use Rattle.std.proofs.Common.{◌≡◌, ◌∙◌, ℕ, Bool, Some, None, Ok, Err, List, ap, ne_eqb}
use Rattle.std.specs.Prelude.{◌≢◌, codes, nat_eq}
use Rattle.std.specs.Cmp.Lexicographic.{pointwise}
use Rattle.cfi_elf.specs.declared.error.ElfError.TheVariants.{Compressed}
use Rattle.cfi_elf.specs.declared.section_header.SectionHeader.{SectionHeader}
use Rattle.cfi_elf.specs.ElfFiles.{File}
use Rattle.cfi_elf.specs.Sections.{debug_frame, header_named, is_named, section_named, unless_compressed}
use Rattle.cfi_elf.specs.StringTables.{name_at}
use Rattle.cfi_elf.specs.Results.{if_found}
use Rattle.cfi_elf.proofs.Chains.{ok_then}

pub named : (names name : List ℕ) (header : SectionHeader) (found : List ℕ) (same : Bool) → header.sh_type ≢ 0 → Ok found ≡ name_at names header.sh_name → same ≡ pointwise nat_eq found name →
    Ok same ≡ is_named names name header
unfolding is_named
named names name header found same some read is = ap Ok is ∙ rw (ne_eqb header.sh_type 0 some) (ok_then found _ (λ found. Ok (pointwise nat_eq found name)) read)

pub compressed_there : (file : File) (header : SectionHeader) → Ok None ≡ section_named file (codes ".debug_frame") → Ok (Some header) ≡ header_named file (codes ".zdebug_frame") → Err Compressed ≡ debug_frame file
unfolding debug_frame
compressed_there file header missing found = ok_then (Some header) _ (if_found (λ header. Err Compressed)) found ∙ ok_then None _ (unless_compressed file) missing
