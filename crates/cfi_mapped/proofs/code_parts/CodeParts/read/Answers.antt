use Rattle.cfi_object.specs.FileParts.{image_of}
use Rattle.cfi_mapped.proofs.CodeImages.{enough_by}
use Rattle.cfi_mapped.proofs.ReadFiles.{all_read, all_whole, whole_asked}
use Rattle.cfi_mapped.proofs.code_parts.CodeParts.read.Goals as goal

pub returns-then-whole-clause-read : goal.returns-then-whole-clause-read
returns-then-whole-clause-read g c = all_read (g.I.FileInput.bytes c.args.input.now) c.read_whole.result c.read_whole.ensures

pub returns-then-whole-clause-whole : goal.returns-then-whole-clause-whole
returns-then-whole-clause-whole g c = all_whole (g.I.FileInput.bytes c.args.input.now) c.args.whole c.read_whole.result c.read_whole.ensures

pub returns-then-whole-clause-asked : goal.returns-then-whole-clause-asked
returns-then-whole-clause-asked g c = whole_asked c.args.whole c.read_whole.result c.if-whole.true

pub invariant_of-result : goal.invariant_of-result
invariant_of-result g c = record { enough = enough_by (image_of c.in_ok-parts.parts) c.in_ok-parts.ensures.read.1 }
