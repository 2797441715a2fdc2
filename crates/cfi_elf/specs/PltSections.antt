-- The sections that the procedure linkage table of a file is found by (System V ABI chapter 5,
-- "Procedure Linkage Table", "Global Offset Table").
--     plt_parts file      them, or why these can't be read
use Rattle.std.specs.Prelude.{ℕ, List, [], Option, Some, None, Result, Ok, codes}
use Rattle.cfi_elf.specs.declared.error.ElfError.{ElfError}
use Rattle.cfi_elf.specs.declared.plt_sections.PltParts.{PltParts as PltPartsOfCode}
use Rattle.cfi_elf.specs.declared.plt_sections.GotRelocations.{GotRelocations as RelocationsOfCode}
use Rattle.cfi_elf.specs.declared.plt_sections.PltSections.{PltSections as PltSectionsOfCode}
use Rattle.cfi_elf.specs.ElfFiles.{File}
use Rattle.cfi_elf.specs.Results.{and_then}
use Rattle.cfi_elf.specs.Sections.{Section, section_named, section_view}

-- the section of this name, or one without bytes where there is none
abbrev pub or_empty : Option Section → Section
or_empty (Some section) = section
or_empty None = record { address = 0; bytes = [] }

unfoldable pub section_or_empty : File → List ℕ → Result Section ElfError
section_or_empty file name =
    and_then (section_named file name) (λ found. Ok (or_empty found))

-- The bytes of .dynsym, of .dynstr, and of the relocations in .rela.plt and in .rela.dyn.
pub record GotRelocations : Type 0 where
  pub dynsym : List ℕ
  pub dynstr : List ℕ
  pub rela_plt : List ℕ
  pub rela_dyn : List ℕ

-- The sections .plt, .plt.sec and .plt.got, whose entries are those of the procedure linkage table.
pub record PltSections : Type 0 where
  pub plt : Section
  pub plt_sec : Section
  pub plt_got : Section

pub record PltParts : Type 0 where
  pub got : GotRelocations
  pub plt : PltSections

-- what those of the code are
abbrev pub got_relocations_view : RelocationsOfCode → GotRelocations
got_relocations_view got = record {
  dynsym = got.dynsym.now;
  dynstr = got.dynstr.now;
  rela_plt = got.rela_plt.now;
  rela_dyn = got.rela_dyn.now;
}

abbrev pub plt_sections_view : PltSectionsOfCode → PltSections
plt_sections_view sections = record {
  plt = section_view sections.plt;
  plt_sec = section_view sections.plt_sec;
  plt_got = section_view sections.plt_got;
}

abbrev pub plt_parts_view : PltPartsOfCode → PltParts
plt_parts_view parts =
    record { got = got_relocations_view parts.got; plt = plt_sections_view parts.plt }

unfoldable pub got_relocations : File → Result GotRelocations ElfError
got_relocations file =
    and_then (section_or_empty file (codes ".dynsym")) (λ dynsym.
    and_then (section_or_empty file (codes ".dynstr")) (λ dynstr.
    and_then (section_or_empty file (codes ".rela.plt")) (λ rela_plt.
    and_then (section_or_empty file (codes ".rela.dyn")) (λ rela_dyn.
    Ok (record {
      dynsym = dynsym.bytes;
      dynstr = dynstr.bytes;
      rela_plt = rela_plt.bytes;
      rela_dyn = rela_dyn.bytes;
    })))))

unfoldable pub plt_sections : File → Result PltSections ElfError
plt_sections file =
    and_then (section_or_empty file (codes ".plt")) (λ plt.
    and_then (section_or_empty file (codes ".plt.sec")) (λ plt_sec.
    and_then (section_or_empty file (codes ".plt.got")) (λ plt_got.
    Ok (record { plt = plt; plt_sec = plt_sec; plt_got = plt_got }))))

unfoldable pub plt_parts : File → Result PltParts ElfError
plt_parts file =
    and_then (got_relocations file) (λ got.
    and_then (plt_sections file) (λ plt. Ok (record { got = got; plt = plt })))
