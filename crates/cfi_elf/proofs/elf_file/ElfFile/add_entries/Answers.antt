use Rattle.std.proofs.Common.{◌∙◌, ◌++◌, ◌+◌, ◌-◌, ◌/◌, ℕ, List, length, sym, ap}
use Rattle.std.specs.List.{filter_map, range_with_len}
use Rattle.cfi_elf.specs.ElfFiles.{file_view}
use Rattle.cfi_elf.specs.Options.{with_more}
use Rattle.cfi_elf.specs.PltAddresses.{entry_in}
use Rattle.cfi_elf.specs.Sections.{section_view}
use Rattle.cfi_elf.proofs.Gathered.{gathered, range_step}
use Rattle.cfi_elf.proofs.elf_file.ElfFile.add_entries.Goals as goal

pub loop-index-preserved : goal.loop-index-preserved
loop-index-preserved c =
    let f = entry_in (file_view c.args.self.now) c.args.slots.now (section_view c.args.section.now) in
    let n = length c.args.section.now.bytes.now / 8 in
    let i = c.loop-index.index in
    let found = c.loop-index.found.items in
    let rest = range_with_len (i + 1) (n - (i + 1)) in
    ap (λ (xs : List ℕ). xs ++ filter_map f rest) (c.in_ok-add.ensures.ok ∙ ap (with_more found) c.entry_in.ensures)
    ∙ (gathered f found i rest ∙ (ap (λ (xs : List ℕ). found ++ filter_map f xs) (sym (range_step i n c.loop-index-test.true)) ∙ c.loop-index.invariant))
