use Rattle.cfi_object.specs.FileParts.{image_of}
use Rattle.cfi_files.proofs.WholeFiles.{checked_parts}
use Rattle.cfi_files.proofs.check.check_input.Goals as goal

pub returns : goal.returns
returns g c =
    checked_parts (g.I.FileInput.bytes c.args.input.now) (image_of c.in_ok-parts.parts) _ c.check_image.result c.in_ok-parts.ensures.read (rw c.image.ensures at c.check_image.ensures)
