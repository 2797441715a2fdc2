use Rattle.cfi_elf.specs.declared.image.FilePart.{FilePart}
use Rattle.cfi_object.proofs.ReadParts.{more_read, more_to}
use Rattle.cfi_object.proofs.file_parts.FileParts.with_more.Goals as goal

pub returns-in-Ok-clause-read : goal.returns-in-Ok-clause-read
returns-in-Ok-clause-read g c =
    let read : FilePart = record { offset = c.args.offset; bytes = c.in_ok-bytes.bytes } in
    more_read (g.I.FileInput.bytes c.args.input.now) c.args.self.length c.args.self.first.items c.args.self.parts.items c.push.new.self.items read c.args.end c.in-Ok.ensures.items c.requires.free c.in_ok-bytes.ensures.read c.requires.read

pub returns-in-Ok-clause-more : goal.returns-in-Ok-clause-more
returns-in-Ok-clause-more g c =
    let read : FilePart = record { offset = c.args.offset; bytes = c.in_ok-bytes.bytes } in
    more_to (g.I.FileInput.bytes c.args.input.now) c.args.self.length c.args.self.first.items c.args.self.parts.items c.push.new.self.items read c.args.end c.in-Ok.ensures.items c.in_ok-bytes.ensures.read
