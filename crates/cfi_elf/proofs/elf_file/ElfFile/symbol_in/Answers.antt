use Rattle.std.proofs.Common.{◌∙◌, Some, ap, sym, slice_get}
use Rattle.std.specs.Prelude.{option_map}
use Rattle.std.proofs.lemmas.Option.{slice_get-map}
use Rattle.cfi_elf.specs.ElfFiles.{class_of_file, file_view, is_big_file}
use Rattle.cfi_elf.specs.Fields.{entries}
use Rattle.cfi_elf.specs.Headers.{symbol, symbol_bytes}
use Rattle.cfi_elf.proofs.elf_file.ElfFile.symbol_in.Goals as goal

pub returns : goal.returns
returns c =
    let class = class_of_file (file_view c.args.self.now) in
    let read = symbol class (is_big_file (file_view c.args.self.now)) in
    ap Some (c.parse_symbol.ensures ∙ (ap (λ big. symbol class big c.fields.result.bytes.now) c.fields.ensures.order ∙ ap read c.fields.ensures.bytes))
    ∙ (ap (option_map read) (c.in_ok-bytes.ensures.value ∙ ap (λ n. slice_get (entries n c.args.table.now) c.args.index) c.symbol_size.ensures.value)
    ∙ sym (slice_get-map read (entries (symbol_bytes class) c.args.table.now) c.args.index))
