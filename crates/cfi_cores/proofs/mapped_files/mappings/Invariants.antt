use Rattle.std.proofs.Common.{◌≡◌, drop}
use Rattle.cfi_elf.specs.Fields.{entries}
use Rattle.cfi_cores.specs.MappedFiles.{mappings_view, mappings}
use Rattle.cfi_cores.proofs.MappingSteps.{behind_these}
use Rattle.cfi_cores.proofs.mapped_files.mappings.Given as goal

-- the mappings so far, and those of the entries that are left
abbrev pub invariant-loop-index : goal.invariant-loop-index
invariant-loop-index l =
    let all = entries 24 l.table.entries.now in
    behind_these (mappings_view l.list) (mappings l.table.page_size (drop l.index all) l.names) ≡ mappings l.table.page_size all l.table.names.now
