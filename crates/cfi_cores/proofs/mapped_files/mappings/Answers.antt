use Rattle.std.proofs.Common.{◌∙◌, ◌∷◌, [], ◌+◌, ◌++◌, ap, arith, drop, map}
use Rattle.std.proofs.lemmas.List.{map_push}
use Rattle.cfi_elf.specs.Fields.{entries}
use Rattle.cfi_elf.proofs.EntrySteps.{next_left, none_is}
use Rattle.cfi_cores.specs.MappedFiles.{CoreMapping, mappings_view, mapping_view}
use Rattle.cfi_cores.proofs.MappingSteps.{no_entries, no_entry, no_name, one_entry}
use Rattle.cfi_cores.proofs.mapped_files.mappings.Goals as goal

pub returns-in_default : goal.returns-in_default
returns-in_default c =
    let all = entries 24 c.args.table.entries.now in
    no_entry c.args.table.page_size (mappings_view c.loop-index.list) (drop c.loop-index.index all) c.loop-index.names.now _ c.loop-index.invariant (none_is all c.loop-index.index c.in_default.ensures.value)

pub returns-in_default-before_zero : goal.returns-in_default-before_zero
returns-in_default-before_zero c =
    let all = entries 24 c.args.table.entries.now in
    no_name c.args.table.page_size (mappings_view c.loop-index.list) (drop c.loop-index.index all) c.loop-index.names.now _ c.loop-index.invariant
    c.in-Some.fields.now (drop (c.loop-index.index + 1) all) (next_left all c.loop-index.index c.in-Some.fields.now c.in-Some.ensures.value) c.in_default-before_zero.ensures

pub loop-index-preserved : goal.loop-index-preserved
loop-index-preserved c =
    let all = entries 24 c.args.table.entries.now in
    let list = c.loop-index.list.items in
    one_entry c.args.table.page_size (mappings_view c.loop-index.list) (drop c.loop-index.index all) c.loop-index.names.now _ c.loop-index.invariant
    c.in-Some.fields.now (drop (c.loop-index.index + 1) all) (next_left all c.loop-index.index c.in-Some.fields.now c.in-Some.ensures.value)
    c.in-Some-before_zero.name.now (mappings_view c.push.new.self) c.bytes_from-names.result.now c.in-Some-before_zero.ensures
    (ap (map mapping_view) {x = c.push.new.self.items} {y = list ++ c.mapping_by.result ∷ []} c.in_ok-push.ensures.items
    ∙ (map_push mapping_view list c.mapping_by.result ∙ ap (λ (m : CoreMapping). mappings_view c.loop-index.list ++ m ∷ []) c.mapping_by.ensures))
    c.bytes_from-names.ensures

pub returns : goal.returns
returns c =
    let all = entries 24 c.args.table.entries.now in
    no_entry c.args.table.page_size (mappings_view c.loop-index.list) (drop c.loop-index.index all) c.loop-index.names.now _ c.loop-index.invariant
    (no_entries 24 c.args.table.entries.now c.loop-index.index (omega (arith, c.loop-index-test.false)))
