-- The entries of the procedure linkage table of a file that is read by parts are those of the whole file, unless they need
-- bytes that were not read.
use Rattle.std.proofs.Common.{ℕ, List, codes}
use Rattle.cfi_elf.specs.ElfFiles.{File}
use Rattle.cfi_elf.specs.Images.{IsImageOf}
use Rattle.cfi_elf.specs.PltAddresses.{plt_addresses}
use Rattle.cfi_elf.specs.PltSections.{plt_parts, section_or_empty, got_relocations, plt_sections}
use Rattle.cfi_elf.proofs.Images.{in_whole, same_section_named}
use Rattle.cfi_elf.proofs.SameResults.{Same, same_ok, same_then}

module _ {bytes : List ℕ} (file : File) (of : IsImageOf file.image bytes) where
  abbrev all : File
  all = in_whole bytes file

  same_or_empty : (name : List ℕ) → Same (section_or_empty file name) (section_or_empty all name)
  unfolding section_or_empty
  same_or_empty name = same_then (same_section_named file of name) (λ found. same_ok _)

  same_got : Same (got_relocations file) (got_relocations all)
  unfolding got_relocations
  same_got =
      same_then (same_or_empty (codes ".dynsym")) (λ dynsym.
      same_then (same_or_empty (codes ".dynstr")) (λ dynstr.
      same_then (same_or_empty (codes ".rela.plt")) (λ rela_plt.
      same_then (same_or_empty (codes ".rela.dyn")) (λ rela_dyn. same_ok _))))

  same_plt : Same (plt_sections file) (plt_sections all)
  unfolding plt_sections
  same_plt =
      same_then (same_or_empty (codes ".plt")) (λ plt.
      same_then (same_or_empty (codes ".plt.sec")) (λ plt_sec.
      same_then (same_or_empty (codes ".plt.got")) (λ plt_got. same_ok _)))

  pub same_plt_parts : Same (plt_parts file) (plt_parts all)
  unfolding plt_parts
  same_plt_parts = same_then same_got (λ got. same_then same_plt (λ plt. same_ok _))

  pub same_plt_addresses : (name : List ℕ) → Same (plt_addresses file name) (plt_addresses all name)
  unfolding plt_addresses
  same_plt_addresses name = same_then same_plt_parts (λ parts. same_ok _)
