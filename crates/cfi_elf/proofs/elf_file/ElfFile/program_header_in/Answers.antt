use Rattle.std.proofs.Common.{◌∙◌, Some, ap, sym, slice_get}
use Rattle.std.specs.Prelude.{option_map}
use Rattle.std.proofs.lemmas.Option.{slice_get-map}
use Rattle.cfi_elf.specs.ElfFiles.{class_of_file, file_view, is_big_file}
use Rattle.cfi_elf.specs.Fields.{entries}
use Rattle.cfi_elf.specs.Headers.{program_header, program_header_bytes}
use Rattle.cfi_elf.proofs.elf_file.ElfFile.program_header_in.Goals as goal

pub returns : goal.returns
returns c =
    let class = class_of_file (file_view c.args.self.now) in
    let read = program_header class (is_big_file (file_view c.args.self.now)) in
    ap Some (c.parse_program_header.ensures ∙ (ap (λ big. program_header class big c.fields.result.bytes.now) c.fields.ensures.order ∙ ap read c.fields.ensures.bytes))
    ∙ (ap (option_map read) (c.in_ok-bytes.ensures.value ∙ ap (λ n. slice_get (entries n c.args.table.now) c.args.index) c.program_header_size.ensures.value)
    ∙ sym (slice_get-map read (entries (program_header_bytes class) c.args.table.now) c.args.index))
