use Rattle.std.proofs.Common.{sym}
use Rattle.cfi_elf.specs.Images.{image_view}
use Rattle.cfi_elf.proofs.ImageParts.{past_the_end}
use Rattle.cfi_elf.proofs.image.Image.table_at.Goals as goal

pub returns-in-None : goal.returns-in-None
returns-in-None c = sym (past_the_end (image_view c.args.self.now) c.args.offset _ c.args.error c.in-None.ensures)
