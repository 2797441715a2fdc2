use Rattle.std.proofs.Common.{sym}
use Rattle.cfi_elf.specs.Images.{parts_view}
use Rattle.cfi_cores.proofs.PartBytes.{if_parts, in_first}
use Rattle.cfi_cores.proofs.partial_cores.part_in.Goals as goal

pub returns-in-Some : goal.returns-in-Some
returns-in-Some c = λ bytes of. in_first bytes c.args.image.first.now c.in-Some.found.now c.args.offset c.args.size of.first_is (sym c.in-Some.ensures)

pub returns-in-None : goal.returns-in-None
returns-in-None c = λ bytes of. if_parts bytes c.args.offset c.args.size (parts_view c.args.image.parts.now) of.parts_are c.in_parts.result c.in_parts.ensures
