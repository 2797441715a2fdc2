use Rattle.std.proofs.Common.{◌∙◌, ap, arith}
use Rattle.cfi_elf.specs.Images.{parts_view}
use Rattle.cfi_object.proofs.ReadParts.{first_read}
use Rattle.cfi_object.proofs.file_parts.FileParts.begin.Goals as goal

pub returns-clause-read : goal.returns-clause-read
returns-clause-read g c =
    first_read (g.I.FileInput.bytes c.args.input.now) c.in_ok-length.length c.min.result c.in_ok-first.first.items c.new.result.items c.new.ensures.items (omega (arith, c.min.ensures)) c.in_ok-length.ensures.length
    (rw c.length.ensures.same at c.in_ok-first.ensures.read)

pub returns-clause-first : goal.returns-clause-first
returns-clause-first g c = record { first_has = c.in_ok-first.ensures.read.0 ∙ c.min.ensures; alone = ap parts_view c.new.ensures.items }
